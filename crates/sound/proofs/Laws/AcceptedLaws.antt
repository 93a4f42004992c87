-- The runs of an accepted program rest on firm ground (01, numbers 6 to 8).
use Rattle.std.specs.Prelude.{ℕ, zero, suc, ◌≤◌, ◌≡◌, List, [], ◌∷◌, map, get_or}
use native.Mathlib.Omega.{arith}
use Rattle.std.proofs.Math.Option.{some}
use Rattle.std.proofs.Math.ListN.{length}
use Rattle.std.proofs.lemmas.List.{length-map}
use Rattle.types.specs.Limits.{first_local, fix_levels}
use Rattle.types.specs.Types.{IsType}
use Rattle.program.specs.Tree.{Stmts, Program}
use Rattle.program.specs.Counts.{All, Few, fixes_in, CountsSchedule, CountsStmts, CountsStep, Counts}
use Rattle.commands.specs.Context.{params_of, context, step_of}
use Rattle.table.specs.Table.{Record}
use Rattle.machine.specs.Published.{structs}
use Rattle.run.specs.Input.{Runnable}
use Rattle.commands.proofs.Steps.{of_each, found, step_secure}
use Rattle.commands.proofs.Heights.{program_height}
use Rattle.sound.proofs.Laws.SizedLaws.{noted_sized}
use Rattle.commands.specs.Accepted.{Accepted}
use Rattle.sound.specs.Firm.{Firm}

-- what holds of each list and of none holds of the list at a place
pub all_at : {A : Type 0} (C : List A → Type 0) (ls : List (List A)) (k : ℕ) → C [] → All C ls → C (get_or ls k [])
all_at C [] k n a = n
all_at C (l ∷ ls) zero n a = a.0
all_at C (l ∷ ls) (suc k) n a = all_at C ls k n a.1

module _ (p : Program) (counts : Counts p) where
  -- parameters are few, and their types are types of the program
  pub params_counted : (k : ℕ) → (length (params_of p k) ≤ first_local) × (All (IsType (structs p)) (params_of p k))
  unfolding Counts
  params_counted k =
      let f = all_at (Few 0 first_local (IsType (structs p))) p.params k (omega arith, omega arith, tt) counts.0.2 in
      (f.1, f.2)

  -- the statements of a step keep to the counts
  pub step_counted : (k n : ℕ) {b : Stmts} → step_of p k n ≡ some b → CountsStmts (map length p.params) b
  unfolding Counts CountsStep
  step_counted k n e =
      let (t, m, q) = found (get_or p.steps k []) n e in
      let C = CountsStep (map length p.params) in
      let f = all_at (Few 0 8 C) p.steps k (omega arith, omega arith, tt) counts.2 in
      rw q at (of_each C f.2 m).2

  -- Fixes nest within their levels
  schedule_counted : fixes_in p.schedule ≤ fix_levels
  unfolding Counts CountsSchedule
  schedule_counted = counts.3.3

-- the program of a run that begins is accepted
pub ready_accepted : {x y es out list : List ℕ} {p : Program} {rs : List Record} → Runnable x y es out list p rs → Accepted p
ready_accepted r = r.program.program

-- an accepted program is firm
pub accepted_firm : {p : Program} → Accepted p → Firm p
accepted_firm {p} a = record {
  secure = λ k n e. step_secure p a.2 a.3 k n e;
  low = λ k n e w. program_height p k n e w;
  sized = λ k n {b} e.
      rw (length-map p.params length) at (noted_sized (map length p.params) (context p k b) b (step_counted p a.0 k n e));
  few = λ k. (params_counted p a.0 k).0;
  levels = omega (arith, schedule_counted p a.0);
}
