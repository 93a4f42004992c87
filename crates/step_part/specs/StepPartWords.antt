-- The part of the list that a step has is the words of its commands, and is empty where there is no such step (01, 'Names, types, commands': "The
-- commands of one step are handed out as that part of the lent command list; a step that isn't there gives an empty part").
use Rattle.std.specs.Prelude.{ℕ, ◌≤◌, ◌≡◌, refl, List, [], ◌∷◌, ◌++◌, length, take, drop}
use Rattle.std.proofs.Common.{arith, sym, ◌∙◌, length-append, length-drop}
use Rattle.std.proofs.Math.Path.{ap}
use Rattle.std.proofs.Math.Option.{Option, none, some}
use Rattle.types.specs.Limits.{max_commands}
use Rattle.types.specs.Stages.{Stage.went as accepted, Stage.stopped as refused}
use Rattle.blocks.specs.Images.{image}
use Rattle.program.specs.Tree.{Stmts, Program}
use Rattle.program.specs.Reader.{read}
use Rattle.commands.specs.Commands.{commands}
use Rattle.commands.specs.Coding.{words}
use Rattle.commands.specs.ProgramWords.{program_words}
use Rattle.commands.specs.Context.{step_of}
use Rattle.directory.specs.declared.Row.{Row}
use Rattle.directory.specs.Directory.{steps_rows, structs_rows, directory, is_row, find_row}
use Rattle.directory.specs.Held.{Marks}
use Rattle.directory.proofs.FindLaws.{directory_marks}
use Rattle.verdict.specs.Verdict.{Checked, of_read, checked, listed, checks, check_list}
use Rattle.verdict.proofs.VerdictLaws.{checked_image, checks_room}
use Rattle.verdict.proofs.ProgramInputLaws.{checked_accepted, check_approved}
use Rattle.verdict.proofs.Rows.{P, listed_P, checking}
use Rattle.step_part.specs.declared.Spot.{Spot}
use Rattle.step_part.specs.StepPart.{nowhere, spot_of, spot_by, step_place, step_part}
use Rattle.step_part.specs.StepPartLaws.{spot_refused, spot_accepted, spot_number}

-- the part of a list that a place marks
abbrev marked : Spot → List ℕ → List ℕ
marked z l = take z.len (drop z.start l)

-- the first row of the struct and the name marks the words of the step that is there
row_marks : (p : Program) (k n : ℕ) (l : List ℕ) → Marks (program_words p ++ l) (find_row (directory p) k n) (step_of p k n)
row_marks p k n l = directory_marks p (program_words p ++ l) l refl k n

module _ (c : Checked) (p : Program) (k n : ℕ) (e : c ≡ accepted p) where
  spot_marks : (l : List ℕ) {b : Stmts} → step_of p k n ≡ some b → marked (spot_by c k n) (program_words p ++ l) ≡ words (commands b)
  spot_marks l {b} f =
      ap (λ (z : Spot). marked z (program_words p ++ l)) (sym (spot_accepted c k n p e)) ∙ go (find_row (directory p) k n) (rw f at (row_marks p k n l))
    where
      go : (o : Option Row) → Marks (program_words p ++ l) o (some b) → marked (spot_of o) (program_words p ++ l) ≡ words (commands b)
      go none m = absurd m
      go (some r) m = m.1

  -- a step that is not there has no place
  spot_none : step_of p k n ≡ none → spot_by c k n ≡ nowhere 0
  spot_none f = sym (spot_accepted c k n p e) ∙ go (find_row (directory p) k n) (rw f at (row_marks p k n []))
    where
      go : (o : Option Row) → Marks (program_words p ++ []) o none → spot_of o ≡ nowhere 0
      go none m = refl
      go (some r) m = absurd m

-- The part of a step -------------------------------------------------------------------

module _ (x list : List ℕ) (k n : ℕ) where
  -- a number and an empty part, or no number and some part
  abbrev Handed : ℕ → List ℕ → Type 0
  Handed m l = ((step_place x list k n).number ≡ m) × (step_part x list k n ≡ l)

  handed_none : (m : ℕ) → step_place x list k n ≡ nowhere m → Handed m []
  unfolding step_part
  handed_none m e = (ap (λ (z : Spot). z.number) e, ap (λ (z : Spot). marked z list) e)

  handed_room : (p : Program) → checked x ≡ accepted p → max_commands ≤ length list → Handed 0 (marked (spot_by (checked x) k n) list)
  unfolding step_place step_part
  handed_room p e h =
      let q = ap (λ (c : Checked). spot_by c k n) (checks_room x list h) in
      (ap (λ (z : Spot). z.number) q ∙ spot_number (checked x) k n p e, ap (λ (z : Spot). marked z list) q)

  -- a check that refuses gives its number and an empty part
  pub step_refused : (m : ℕ) → checks x list ≡ refused m → Handed m []
  unfolding step_place
  step_refused m e = handed_none m (sym (spot_refused (checks x list) k n m e))

  -- and a step that is not there, for want of the struct or of the name, no number and an empty part
  pub step_absent : (p : Program) → checked x ≡ accepted p → max_commands ≤ length list → step_of p k n ≡ none → Handed 0 []
  unfolding step_place
  step_absent p e h f = handed_none 0 (ap (λ (c : Checked). spot_by c k n) (checks_room x list h) ∙ spot_none (checked x) p k n e f)

-- of the list that the checker hands out, the part of a step that a struct has is the words of that step's commands
pub step_words : (x list : List ℕ) (p : Program) (k n : ℕ) {b : Stmts} → checked x ≡ accepted p → max_commands ≤ length list → step_of p k n ≡ some b
    → Handed x (check_list x list) k n 0 (words (commands b))
unfolding listed
step_words x list p k n e h f =
    let a = (checked_accepted x p).0 e in
    let l = drop (length (program_words p)) list in
    let room : max_commands ≤ length (program_words p ++ l) = simp (length-append, length-drop) (omega arith) in
    let q = handed_room x (program_words p ++ l) k n p e room in
    rw (check_approved x list p a h).1 (q.0, q.1 ∙ spot_marks (checked x) p k n e l f)

-- P's step 0 ---------------------------------------------------------------------------

-- P is accepted; its step 0 has the 8 commands of the list, and there is no step 1
checked_P : checked (image P) ≡ of_read (read P)
unfolding P
checked_P = checked_image P (omega arith) (omega arith)

accepted_P : (p : Program) × (checked (image P) ≡ accepted p)
unfolding checking P
accepted_P = (_, checked_P)

spot_P : spot_by (of_read (read P)) 0 0 ≡ record { number = 0; start = 0; len = 8 }
unfolding checking P spot_by directory structs_rows steps_rows find_row is_row
spot_P = refl

spot_P_1 : spot_by (of_read (read P)) 0 1 ≡ nowhere 0
unfolding checking P spot_by directory structs_rows steps_rows find_row is_row
spot_P_1 = refl

pub step_of_P : (list : List ℕ) → max_commands ≤ length list
    → Handed (image P) (check_list (image P) list) 0 0 0 (2 ∷ 3 ∷ 2 ∷ 4294967299 ∷ 3 ∷ 176093659144 ∷ 2 ∷ 4 ∷ [])
step_of_P list h =
    let after : List ℕ = 2 ∷ 3 ∷ 2 ∷ 4294967299 ∷ 3 ∷ 176093659144 ∷ 2 ∷ 4 ∷ drop 8 list in
    let room : max_commands ≤ length after = omega (arith, length-drop 8 list) in
    let q = handed_room (image P) after 0 0 accepted_P.0 accepted_P.1 room in
    rw (listed_P list h) (q.0, q.1 ∙ ap (λ (z : Spot). marked z after) (ap (λ (c : Checked). spot_by c 0 0) checked_P ∙ spot_P))

pub no_step_of_P : (list : List ℕ) → max_commands ≤ length list → Handed (image P) list 0 1 0 []
no_step_of_P list h =
    let q = handed_room (image P) list 0 1 accepted_P.0 accepted_P.1 h in
    (q.0, q.1 ∙ ap (λ (z : Spot). marked z list) (ap (λ (c : Checked). spot_by c 0 1) checked_P ∙ spot_P_1))
