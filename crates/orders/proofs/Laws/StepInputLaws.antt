-- A step that no struct has, decided of the program that is read (02 §11 and §14); two images hold one program and one table.
use Rattle.std.specs.Prelude.{ℕ, zero, suc, ◌≡◌, refl, Bool, true, false, not, ◌||◌, get_or}
use Rattle.std.proofs.Common.{arith, ap₂, subst}
use mathlib.Core.List.Memᴰ
use mathlib.Core.List.{List, [], ◌∷◌, Memᴰ}
use Rattle.types.specs.Reflects.{Reflects, Reflects.holds, Reflects.fails, reflects_iff, reflects_map, reflects_negation}
use Rattle.types.specs.Stages.{Stage.went}
use Rattle.blocks.specs.Images.{stream}
use Rattle.program.specs.Tree.{Step, Program}
use Rattle.commands.specs.Decide.{member}
use Rattle.commands.proofs.Decide.DecideLaws.{member_reflects}
use Rattle.commands.specs.Decide.NamesDecide.{stepped}
use Rattle.commands.specs.Names.{names_of_steps, Had}
use Rattle.verdict.specs.ProgramInput.{AcceptedImage, reads_of}
use Rattle.verdict.proofs.ProgramInputLaws.{one_program}
use Rattle.table.specs.Table.{Record}
use Rattle.table.specs.TableReader.{table_of_stream}
use Rattle.table.proofs.Laws.TableLaws.{table_answer_exact}
use Rattle.orders.specs.StepInput.{ReadsBoth, NoStep}
use Rattle.orders.proofs.Laws.StepAnswerLaws.{stepped_had}

-- a step that some struct has
had_stepped : (n : ℕ) (tss : List (List Step)) (k : ℕ) → Memᴰ n (names_of_steps (get_or tss k [])) → stepped n tss ≡ true
unfolding stepped names_of_steps
had_stepped n [] k u = absurd (Memᴰ.not-nil u)
had_stepped n (ts ∷ tss) zero u = rw ((reflects_iff (member_reflects n (names_of_steps ts))).1 u)
had_stepped n (ts ∷ tss) (suc k) u = go (member n (names_of_steps ts)) (had_stepped n tss k u)
  where
    go : (b : Bool) → stepped n tss ≡ true → b || stepped n tss ≡ true
    go true e = refl
    go false e = e

pub had_reflects : (n : ℕ) (tss : List (List Step)) → Reflects (Had n tss) (stepped n tss)
had_reflects n tss = go (stepped n tss) refl
  where
    go : (b : Bool) → stepped n tss ≡ b → Reflects (Had n tss) b
    go true e = holds (stepped_had n tss e)
    go false e = fails (λ (k, u). let f = had_stepped n tss k u in let q : ◌≡◌ {A = ℕ} 0 1 = cc in omega arith)

-- a condition that is tested and cannot fail
pub positive : {A : Type 0} {b : Bool} → Reflects A b → ((A → ⊥) → ⊥) → A
positive (holds a) f = a
positive (fails g) f = absurd (f g)

-- two images hold one program and one table
pub one_table : {x y : List ℕ} {p q : Program} {rs ss : List Record} → ReadsBoth x y p rs → ReadsBoth x y q ss → ◌≡◌ {A = Program × List Record} (p, rs) (q, ss)
one_table {y = y} {p = p} {q = q} {rs = rs} {ss = ss} a b =
    let e : p ≡ q = one_program a.program b.program in
    let t = (table_answer_exact p.params (stream y) rs).1 (a.table.right, a.table.bytes) in
    let u = (table_answer_exact q.params (stream y) ss).1 (b.table.right, b.table.bytes) in
    let v : table_of_stream p.params (stream y) ≡ went ss = rw e u in
    let f : rs ≡ ss = cc in
    ap₂ (λ c r. (c, r)) e f

module _ {x : List ℕ} {p : Program} (a : AcceptedImage x p) (n : ℕ) where
  -- the test of 7
  pub no_step_reflects : Reflects (NoStep x n) (not (stepped n p.steps))
  no_step_reflects =
      reflects_map (λ f. (p, reads_of a, f)) (λ (q, r, f). subst (λ (c : Program). Had n c.steps → ⊥) (one_program r (reads_of a)) f)
      (reflects_negation (had_reflects n p.steps))

  -- a step that does not lack is there
  pub step_there : (NoStep x n → ⊥) → Had n p.steps
  step_there f = positive (had_reflects n p.steps) (λ c. f (p, reads_of a, c))
