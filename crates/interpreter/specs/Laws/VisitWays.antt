-- The machines of a run follow one another, and what a run of one of them comes to, the whole run comes to behind the turns taken
-- (01, 'Table and turns').
use Rattle.std.specs.Prelude.{ℕ, ◌+◌, ◌≤◌, ◌≡◌, List, length, drop}
use Rattle.std.proofs.Common.{ap, ◌∙◌, arith, length-drop}
use Rattle.program.specs.Tree.{Program}
use Rattle.machine.specs.Machine.{Machine}
use Rattle.run.specs.Run.{Outcome.stopped, run}
use Rattle.run.proofs.Laws.FuelLaws.{steps_stopped}
use Rattle.run.proofs.Laws.StepsLaws.{steps_on, steps_turns}
use Rattle.run.specs.Visits.{Visits}

module _ {p : Program} where
  -- one way behind another
  pub visits_on : {m z w : Machine} {es fs gs : List ℕ} → Visits p m es z fs → Visits p z fs w gs → Visits p m es w gs
  visits_on (t, u) (n, v) = steps_on u v

  -- a run that has come to a machine behind i turns
  pub visits_outcome : (i : ℕ) {m z : Machine} {es : List ℕ} → i ≤ length es → Visits p m es z (drop i es) → {n k : ℕ} {w : Machine}
      → run p z (drop i es) ≡ stopped n k w
      → run p m es ≡ stopped n (i + k) w
  visits_outcome i {es = es} h (t, v) {n} {k} {w} s =
      let q : t + k ≡ i + k = omega (arith, length-drop i es, steps_turns v) in
      steps_stopped p v s ∙ ap (λ (x : ℕ). stopped n x w) q
