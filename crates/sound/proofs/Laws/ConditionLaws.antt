-- The conditions of the numbers exclude one another, and after them nothing is visited (01, 'The words of demand 3').
use Rattle.std.specs.Prelude.{ℕ, ◌≡◌, refl, ◌↔◌, List}
use Rattle.std.proofs.Common.{sym, ◌∙◌, subst}
use Rattle.program.specs.Tree.{Program}
use Rattle.machine.specs.Machine.{Machine}
use Rattle.machine.proofs.Laws.CommandAgrees.{command_follows}
use Rattle.machine.proofs.Laws.MoveAgrees.{move_follows}
use Rattle.run.proofs.Laws.TurnLaws.{due_still}
use Rattle.run.specs.Runs.{Config, Config.config, picked, StandsFor, Halts}
use Rattle.run.proofs.Laws.RunAgrees.{due_same, none_due, picked_command}
use Rattle.run.proofs.Laws.RunsUnique.{stands_unique}
use Rattle.run.proofs.Laws.HaltLaws.{halted_moves, halted_takes, halts_one}
use Rattle.run.specs.Steps.{Steps.here, Steps.silent, Steps.reads}
use Rattle.run.specs.Visits.{Acts.moves, Acts.takes, Visits}
use Rattle.sound.specs.Conditions.{Condition}

-- of a machine and the configuration for which it stands, the conditions are the same
pub condition_halts : (m : Machine) (c : Config) → StandsFor m c → (es : List ℕ) (n : ℕ) → Condition m es n ↔ Halts c es n
condition_halts m c S es n = (
  λ (c', S', h). subst (λ x. Halts x es n) (stands_unique m c' c S' S) h,
  λ h. (c, S, h),
)

-- at most one condition holds
pub condition_one : Program → (m : Machine) {es : List ℕ} {n k : ℕ} → Condition m es n → Condition m es k → n ≡ k
condition_one p m {es} {n} {k} (a, S, h) c = halts_one p h ((condition_halts m a S es k).0 c)

-- no machine is visited after one at which a condition holds
pub condition_last : {p : Program} {m z : Machine} {es fs : List ℕ} {n : ℕ} → Condition m es n → Visits p m es z fs → (z ≡ m) × (fs ≡ es)
condition_last c (t, here) = (refl, refl)
condition_last {p} (config n st, S, h) (t, silent (moves {m = m} g e) v) =
    let (st', r, Q) = move_follows p m st S.1 (due_still m g) e in
    absurd (halted_moves p h ((due_same m st S.1).0 g) r)
condition_last {p} (config n st, S, h) (t, reads (takes {m = m} {e = e} g c) v) =
    let (st', r, Q) = command_follows p (picked n e st) m st S.1 (sym (picked_command p m n st e S) ∙ c) in
    absurd (halted_takes p h refl ((none_due m st S.1).0 g) r)
