-- A started step takes at most the sum of its command counts, each over its instances, in turns (01, 'Table and turns').
use Rattle.std.specs.Prelude.{ℕ, suc, ◌<◌, ◌≡◌, List, [], ◌∷◌}
use Rattle.std.proofs.Common.{arith, subst}
use Rattle.std.proofs.Math.Option.{some}
use Rattle.program.specs.Tree.{Program}
use Rattle.machine.specs.Machine.{Machine, Moved.next, move}
use Rattle.machine.specs.Measure.{total, codes, share_of}
use Rattle.machine.proofs.Laws.MeasureLaws.{command_shortens, moved_codes}
use Rattle.run.specs.Turns.{chosen}
use Rattle.run.specs.Holders.{holders}
use Rattle.run.proofs.Laws.TurnLaws.{holders_still, due_none}
use Rattle.run.specs.Steps.{Steps, Steps.here, Steps.silent, Steps.reads}
use Rattle.run.specs.Visits.{Acts, Acts.moves, Acts.takes, Visits}
use Rattle.run.specs.StepTurns.{Spends, Spends.all, Spends.then_still}

module _ (p : Program) where
  one_more : {m m' z : Machine} {e k j : ℕ} {es fs : List ℕ} → Acts p m (some e) m' → k < j → Spends p k m' es z fs → Spends p j m (e ∷ es) z fs
  one_more s q (all (t, v) b) = all (suc t, reads s v) (omega arith)
  one_more s q (then_still (t, v) b g w) = then_still (suc t, reads s v) (omega arith) g w

  -- each turn takes one of the commands held
  spends_held : {m z : Machine} {es fs : List ℕ} {t : ℕ} → Steps (Acts p) m es t z fs → Spends p (codes m.instances) m es z fs
  spends_held here = all (0, here) (omega arith)
  spends_held {t = t} (silent (moves g e) v) = then_still (0, here) (omega arith) ((due_none _).0 g) (t, silent (moves g e) v)
  spends_held {m} (reads (takes {e = e} g c) v) =
      one_more (takes g c) (command_shortens p (chosen (holders m) e) m c) (spends_held v)

  -- wherever a run goes from a step that a move has started, it takes no more turns than the sum of the step's command counts, each
  -- over its instances, before nobody holds commands
  pub step_turns : (m : Machine) {m' z : Machine} {es fs : List ℕ} → holders m ≡ [] → move p m ≡ next m' → Visits p m' es z fs
      → Spends p (total (share_of p m.sched) m.instances) m' es z fs
  step_turns m {m'} {z} {es} {fs} g e (t, v) =
      subst (λ k. Spends p k m' es z fs) (moved_codes p m ((holders_still m).0 g) e) (spends_held v)
