-- The pass over uses leaves the numbers of what steps and schedule mean, and nothing where they mean nothing or declare too many locals; a derivation means a
-- program where its structs, its parameters and its uses mean something.
use Rattle.std.specs.Prelude.{ℕ, ◌≡◌, true, false, length}
use Rattle.std.proofs.Math.Path.{refl, ap}
use mathlib.Core.List.{List, [], ◌∷◌, map}
use Rattle.std.proofs.Math.Option.{Option, none, some}
use Rattle.std.proofs.Common.{lt-ltb}
use Rattle.types.specs.Limits.{max_steps, max_locals}
use Rattle.types.specs.Types.{Ty}
use Rattle.program.specs.Tree.{Stmt, Stmt.when, Stmt.declare, Stmt.update, Stmt.create, Stmts, Stmts.end, Stmts.next, Items, Step, Program}
use Rattle.program.specs.Encoding.{flat}
use Rattle.syntax.specs.Syntax.{Id, TypeName, TypeName.int_type, Struct, Defs, Sched, Program.program}
use Rattle.meaning.specs.Scope.{struct_id, structs_of}
use Rattle.meaning.specs.StepNames.{step_names}
use Rattle.meaning.specs.Finding.{distinct}
use Rattle.meaning.specs.HoldsDecide.{all}
use Rattle.meaning.specs.Holds.{HoldsStmt, HoldsStmts, HoldsStep, Counted, Holds}
use Rattle.program.specs.Counts.{All, Few}
use Rattle.meaning.specs.Meant.{then, provided, each, pars_meaning, steps_meaning, sched_meaning, text_meaning, meant}
use Rattle.text_shape.specs.Roles.{roles, roles_defs, roles_sched}
use Rattle.resolve.specs.Passing.{Pass, passes}
use Rattle.resolve.specs.Numbers.{steps_numbers, items_numbers, few_stmt, few_stmts, few_step, few_steps}
use Rattle.resolve.specs.Outcomes.{onto, onto_both, built, Outcome, Outcome.fails, Outcome.refuses, Outcome.goes, followed, made_of}
use Rattle.resolve.specs.Laws.PassingLaws.{told_to}
use Rattle.resolve.specs.Laws.PassingTextLaws.{idle, own_behind, defs_told, sched_told}
use Rattle.resolve.specs.Uses.{pass_start, used, Uses, uses_meaning, uses_numbers, few_uses}

module _ (ds : List Struct) (names : List Id) (d : Defs) (s : Sched) where
  -- behind the whole text
  finally : Uses → TypeName → Pass
  finally u t = idle [] (own_behind ds names d) t (onto (uses_numbers u) [])

  text_told : Outcome ds names few_uses finally (uses_meaning ds names (structs_of d) s)
      (λ k. passes ds names (roles_defs d (roles_sched s k)) (pass_start (structs_of d)))
  unfolding uses_meaning uses_numbers then idle told_to finally
  text_told =
      followed ds names (idle (structs_of d) [] int_type []) (roles_defs d) (roles_sched s)
      (λ us y. built (λ u. few_uses u ≡ false) (sched_meaning ds names s) (λ is. record { steps = us; schedule = is }) (λ is. y))
      (defs_told ds names d [] int_type [])
      (λ us t y. made_of ds names (λ is. record { steps = us; schedule = is }) (λ is. y)
      (sched_told ds names s (idle [] (own_behind ds names d) t (onto (flat steps_numbers us) [])))
      (λ is w. ap (idle [] (own_behind ds names d) w) (onto_both (flat steps_numbers us) (items_numbers is) [])))

-- the pass leaves the numbers of what it means
pub used_exactly : (d : Defs) (s : Sched)
    → used (program d s)
    ≡ then (uses_meaning (structs_of d) (step_names (structs_of d)) (structs_of d) s) (λ u. provided (few_uses u) (some (onto (uses_numbers u) [])))
unfolding used roles then provided idle finally passes
used_exactly d s = go (uses_meaning ds names (structs_of d) s) (text_told ds names d s)
  where
    ds : List Struct
    ds = structs_of d

    names : List Id
    names = step_names (structs_of d)

    go : (o : Option Uses) → Outcome ds names few_uses (finally ds names d s) o (λ k. passes ds names (roles_defs d (roles_sched s k)) (pass_start ds))
        → used (program d s) ≡ then o (λ u. provided (few_uses u) (some (onto (uses_numbers u) [])))
    go none (fails z) = ap (λ q. then q (λ r. some r.out)) (z [])
    go (some u) (refuses n z) = rw n (ap (λ q. then q (λ r. some r.out)) (z []))
    go (some u) (goes y t z) = rw y (ap (λ q. then q (λ r. some r.out)) (z []))

-- a text means a program by its structs, its parameters and its uses
pub meant_by_uses : (d : Defs) (s : Sched)
    → meant (program d s)
    ≡ provided (distinct (map struct_id (structs_of d))) (then (each (pars_meaning (structs_of d)) (structs_of d)) (λ us.
    then (uses_meaning (structs_of d) (step_names (structs_of d)) (structs_of d) s) (λ u.
    some (record { params = us; steps = u.steps; schedule = u.schedule }))))
unfolding meant text_meaning uses_meaning then provided
meant_by_uses d s =
    ap (provided (distinct (map struct_id ds)))
    (parts (each (pars_meaning ds) ds) (each (steps_meaning ds (step_names ds)) ds) (sched_meaning ds (step_names ds) s))
  where
    ds : List Struct
    ds = structs_of d

    of : List (List Ty) → List (List Step) → Items → Program
    of us ts is = record { params = us; steps = ts; schedule = is }

    uses : List (List Step) → Items → Uses
    uses ts is = record { steps = ts; schedule = is }

    parts : (a : Option (List (List Ty))) (b : Option (List (List Step))) (c : Option Items)
        → then a (λ us. then b (λ ts. then c (λ is. some (of us ts is))))
        ≡ then a (λ us. then (then b (λ ts. then c (λ is. some (uses ts is)))) (λ u. some (of us u.steps u.schedule)))
    parts none b c = refl
    parts (some us) none c = refl
    parts (some us) (some ts) none = refl
    parts (some us) (some ts) (some is) = refl

-- A program that a stream holds has locals that there are numbers for ------------------------------

module _ (ar : List ℕ) where
  mutual
    unfolding HoldsStmt HoldsStmts few_stmt few_stmts

    few_of : (t : Stmt) → HoldsStmt ar t → few_stmt t ≡ true
    few_of (when e b) h = few_of_all b h.2
    few_of (declare t x e) h = lt-ltb x max_locals h.1
    few_of (update v vs e) h = refl
    few_of (create k es) h = refl

    few_of_all : (b : Stmts) → HoldsStmts ar b → few_stmts b ≡ true
    few_of_all end h = refl
    few_of_all (next t b) h = rw (few_of t h.0) (few_of_all b h.1)

  steps_few : (l : List Step) → All (HoldsStep ar) l → few_steps l ≡ true
  unfolding HoldsStep few_step all
  steps_few [] h = refl
  steps_few (t ∷ l) h = rw (few_of_all t.body h.0.2) (steps_few l h.1)

  all_few : (l : List (List Step)) → All (Few 0 max_steps (HoldsStep ar)) l → all few_steps l ≡ true
  unfolding all
  all_few [] h = refl
  all_few (u ∷ l) h = rw (steps_few u h.0.2) (all_few l h.1)

pub held_few : (p : Program) → Holds p → all few_steps p.steps ≡ true
unfolding Counted
held_few p h = all_few (map length p.params) p.steps h.counted.2
