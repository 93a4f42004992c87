-- The first row of a struct and a name is that of the step which `find_step` gives, and there is none where it gives none (01, 'Names,
-- types, commands'; 000's S).
use Prim.Native.Nat.{ℕ, zero, suc, ◌+◌, ◌-◌, ◌<◌, ◌≤◌}
use native.Mathlib.Omega.{arith}
use Rattle.std.specs.Prelude.{◌≡◌, Bool, ◌||◌, get_or, is_some, Some, None}
use Rattle.std.proofs.Math.Path.{refl, ap}
use Rattle.std.proofs.Common.{◌∙◌, sym}
use Rattle.std.proofs.Math.Bool.{true, false}
use Rattle.std.proofs.Math.Option.{Option, none, some}
use mathlib.Core.List.{List, [], ◌∷◌, ◌++◌}
use Rattle.std.proofs.Math.Dec.{eqb}
use borrow.Author.Tests.{eq-eqb, ne_eqb, eqb-true, eqb-false}
use Rattle.program.specs.Tree.{Step, Program}
use Rattle.program.specs.Counts.{All}
use Rattle.commands.specs.Bounds.{total, step_size}
use Rattle.commands.specs.Context.{find_step, step_of}
use Rattle.commands.specs.ProgramWords.{step_words, steps_words, structs_words, program_words}
use Rattle.directory.specs.declared.Row.{Row}
use Rattle.directory.specs.Directory.{row, steps_rows, structs_rows, directory, is_row, find_row, found, there}
use Rattle.directory.specs.Rows.{row_at, rows_from, sought}
use Rattle.directory.proofs.RowsLaws.{rows_none, rows_next}
use Rattle.directory.specs.Held.{Holds, Marks}
use Rattle.directory.proofs.HeldLaws.{holds_program, holds_step, holds_struct, holds_words, holds_size}

-- A row --------------------------------------------------------------------------------

module _ (r : Row) (rs : List Row) (k n : ℕ) where
  -- it is the row, or is of another struct, or of another name
  pub find_here : r.structure ≡ k → r.name ≡ n → find_row (r ∷ rs) k n ≡ some r
  unfolding find_row is_row
  find_here e f = rw (find_row, is_row, eq-eqb r.structure k e, eq-eqb r.name n f)

  pub find_past : (r.structure ≡ k → ⊥) → find_row (r ∷ rs) k n ≡ find_row rs k n
  unfolding find_row is_row
  find_past e = rw (find_row, is_row, ne_eqb r.structure k e)

  pub find_other : (r.name ≡ n → ⊥) → find_row (r ∷ rs) k n ≡ find_row rs k n
  unfolding find_row is_row
  find_other f = go (eqb r.structure k) refl
    where
      go : (b : Bool) → eqb r.structure k ≡ b → find_row (r ∷ rs) k n ≡ find_row rs k n
      go true e = rw (find_row, is_row, e, ne_eqb r.name n f)
      go false e = rw (find_row, is_row, e)

pub find_none : (k n : ℕ) → find_row [] k n ≡ none
unfolding find_row
find_none k n = refl

-- of the rows from i on: none is left, the first is the row, or it is not
module _ (l : List ℕ) (i n k m : ℕ) where
  pub find_end : n ≤ i → find_row (rows_from l i (n - i)) k m ≡ none
  find_end h = ap (λ (x : List Row). find_row x k m) (rows_none l i (n - i) (omega arith)) ∙ find_none k m

  module _ (h : i < n) (r : Row) (e : r ≡ row_at l i) where
    pub find_at : is_row k m r ≡ true → find_row (rows_from l i (n - i)) k m ≡ some r
    unfolding find_row
    find_at b = ap (λ (x : List Row). find_row x k m) (rows_next l i n r e h) ∙ rw (find_row, b)

    pub find_on : is_row k m r ≡ false → find_row (rows_from l i (n - i)) k m ≡ find_row (rows_from l (i + 1) (n - (i + 1))) k m
    unfolding find_row
    find_on b = ap (λ (x : List Row). find_row x k m) (rows_next l i n r e h) ∙ rw (find_row, b)

-- no row; one more at the end
pub there_none : (k n : ℕ) → there [] k n ≡ false
unfolding there
there_none k n = ap found (find_none k n)

pub there_last : (rs : List Row) (r : Row) (k n : ℕ) → there (rs ++ r ∷ []) k n ≡ (is_row k n r || there rs k n)
unfolding there find_row
there_last [] r k n = go (is_row k n r) refl
  where
    go : (b : Bool) → is_row k n r ≡ b → found (find_row (r ∷ []) k n) ≡ (b || found (find_row [] k n))
    go true e = rw (find_row, e)
    go false e = rw (find_row, e)
there_last (x ∷ rs) r k n = go (is_row k n x) refl (there_last rs r k n)
  where
    true_or : (b : Bool) → true ≡ (b || true)
    true_or true = refl
    true_or false = refl

    go : (b : Bool) → is_row k n x ≡ b → there (rs ++ r ∷ []) k n ≡ (is_row k n r || there rs k n)
        → found (find_row (x ∷ (rs ++ r ∷ [])) k n) ≡ (is_row k n r || found (find_row (x ∷ rs) k n))
    go true e h = rw (find_row, e) (true_or (is_row k n r))
    go false e h = rw (find_row, e) h

-- what the search answers tells whether there is a row
pub there_told : (rs : List Row) (k n : ℕ) → is_some (sought (find_row rs k n)) ≡ there rs k n
unfolding there
there_told rs k n = go (find_row rs k n)
  where
    go : (o : Option Row) → is_some (sought o) ≡ found o
    go none = refl
    go (some r) = refl

pub there_nowhere : (rs : List Row) (k n : ℕ) → sought (find_row rs k n) ≡ None → there rs k n ≡ false
there_nowhere rs k n e = sym (there_told rs k n) ∙ ap is_some e

pub there_here : (rs : List Row) (k n : ℕ) (r : Row) → sought (find_row rs k n) ≡ Some r → there rs k n ≡ true
there_here rs k n r e = sym (there_told rs k n) ∙ ap is_some e

-- what all rows have, the row that is found has
abbrev pub IfFound : (Row → Type 0) → Option Row → Type 0
IfFound C none = Unit {0}
IfFound C (some r) = C r

pub find_all : (C : Row → Type 0) (rs : List Row) (k n : ℕ) → All C rs → IfFound C (find_row rs k n)
unfolding find_row
find_all C [] k n h = tt
find_all C (r ∷ rs) k n h = go (is_row k n r) refl (find_all C rs k n h.1)
  where
    go : (b : Bool) → is_row k n r ≡ b → IfFound C (find_row rs k n) → IfFound C (find_row (r ∷ rs) k n)
    go true e g = rw (find_row, e) h.0
    go false e g = rw (find_row, e) g

module _ (t : Step) (ts : List Step) (n : ℕ) where
  step_here : t.name ≡ n → find_step (t ∷ ts) n ≡ some t.body
  unfolding find_step
  step_here e = rw (eq-eqb t.name n e, find_step)

  step_other : (t.name ≡ n → ⊥) → find_step (t ∷ ts) n ≡ find_step ts n
  unfolding find_step
  step_other h = rw (ne_eqb t.name n h, find_step)

-- Structs before and behind ------------------------------------------------------------

module _ (k n : ℕ) where
  other_steps : (j a : ℕ) (ts : List Step) (rs : List Row) → (j ≡ k → ⊥) → find_row (steps_rows j a ts ++ rs) k n ≡ find_row rs k n
  unfolding steps_rows
  other_steps j a [] rs h = refl
  other_steps j a (t ∷ ts) rs h =
      find_past (row j t.name a (step_size t)) (steps_rows j (a + step_size t) ts ++ rs) k n h ∙ other_steps j (a + step_size t) ts rs h

  later_structs : (j a : ℕ) (tss : List (List Step)) → k < j → find_row (structs_rows j a tss) k n ≡ none
  unfolding structs_rows
  later_structs j a [] h = find_none k n
  later_structs j a (ts ∷ tss) h =
      other_steps j a ts _ (λ e. omega arith) ∙ later_structs (suc j) (a + total step_size ts) tss (omega arith)

-- The step -----------------------------------------------------------------------------

module _ (list : List ℕ) (n : ℕ) where
  own_steps : (k a : ℕ) (ts : List Step) (rs : List Row) → find_row rs k n ≡ none → Holds list a (steps_words ts)
      → Marks list (find_row (steps_rows k a ts ++ rs) k n) (find_step ts n)
  unfolding steps_rows find_step
  own_steps k a [] rs e h = rw e tt
  own_steps k a (t ∷ ts) rs e h =
      go (eqb t.name n) refl (own_steps k (a + step_size t) ts rs e (holds_step t ts h).1)
    where
      first : Holds list a (step_words t)
      first = (holds_step t ts h).0

      later : List Row
      later = steps_rows k (a + step_size t) ts ++ rs

      go : (b : Bool) → eqb t.name n ≡ b → Marks list (find_row later k n) (find_step ts n)
          → Marks list (find_row (row k t.name a (step_size t) ∷ later) k n) (find_step (t ∷ ts) n)
      go true b m =
          let i = eqb-true t.name n b in
          rw (find_here (row k t.name a (step_size t)) later k n refl i, step_here t ts n i)
          (holds_size t first, holds_words t first)
      go false b m =
          let i = eqb-false t.name n b in
          rw (find_other (row k t.name a (step_size t)) later k n i, step_other t ts n i) m

  structs_marked : (j a : ℕ) (tss : List (List Step)) → Holds list a (structs_words tss) → (i : ℕ)
      → Marks list (find_row (structs_rows j a tss) (j + i) n) (find_step (get_or tss i []) n)
  unfolding structs_rows find_row find_step
  structs_marked j a [] h i = tt
  structs_marked j a (ts ∷ tss) h zero =
      let z : j + 0 ≡ j = omega arith in
      let e = later_structs j n (suc j) (a + total step_size ts) tss (omega arith) in
      rw z (own_steps j a ts _ e (holds_struct ts tss h).0)
  structs_marked j a (ts ∷ tss) h (suc i) =
      let z : j + suc i ≡ suc j + i = omega arith in
      let e = other_steps (suc j + i) n j a ts (structs_rows (suc j) (a + total step_size ts) tss) (λ e. omega arith) in
      rw (z, e) (structs_marked (suc j) (a + total step_size ts) tss (holds_struct ts tss h).1 i)

-- the first row of (k, n) marks the words of the step n of struct k in a list that begins with the program's words
pub directory_marks : (p : Program) (list back : List ℕ) → list ≡ program_words p ++ back → (k n : ℕ)
    → Marks list (find_row (directory p) k n) (step_of p k n)
unfolding directory
directory_marks p list back e k n =
    let z : 0 + k ≡ k = omega arith in
    rw z at (structs_marked list n 0 0 p.steps (holds_program p list back e) k)
