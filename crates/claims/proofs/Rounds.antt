-- Turns that go round (02 §5): from where a turn is counted, and how long an instance waits for its turn.
use Rattle.std.specs.Prelude.{ℕ, suc, ◌≡◌, List, [], length, take, replicate}
use Rattle.std.proofs.Math.Option.{some}
use Rattle.std.proofs.Math.ListN.{get_elem?}
use Rattle.program.specs.Tree.{Program}
use Rattle.commands.specs.Accepted.{Accepted}
use Rattle.table.specs.Table.{Record, TableRight}
use Rattle.machine.specs.Machine.{Instance, Machine, Out.next, Moved.next, command, move}
use Rattle.machine.proofs.Laws.FromLaws.{command_from, move_from}
use Rattle.run.specs.Holders.{holders}
use Rattle.run.specs.Begin.{begin}
use Rattle.run.specs.Visits.{Visits}
use Rattle.run.proofs.Laws.BeginLaws.{begin_from}
use Rattle.sound.specs.Waiting.{ActsWithin, StopsBefore}
use Rattle.claims.proofs.AnyRun.{table_startable, run_acts_in_turn}

-- "a run starts counting at label 0",
pub counts_first : (p : Program) (rs : List Record) → (begin p rs).from ≡ 0
counts_first = begin_from

module _ (p : Program) (m : Machine) {m' : Machine} where
  -- and goes on "from the label after the one that acted last",
  pub counts_on : (l : ℕ) → command p l m ≡ next m' → m'.from ≡ suc l
  counts_on l e = command_from p l m e

  -- whatever the schedule does between
  pub counts_stay : move p m ≡ next m' → m'.from ≡ m.from
  counts_stay e = move_from p m e

-- "with all bytes zero, an instance holding commands acts within as many turns as there were holders, if the bytes last that long and nothing
-- stops with 34 or 35 before": at every machine of a run
pub acts_in_turn : {p : Program} → Accepted p → (rs : List Record) → TableRight p.params rs → {es fs : List ℕ} {z : Machine}
    → Visits p (begin p rs) es z fs
    → (l : ℕ) {i : Instance} → get_elem? z.instances l ≡ some i → (i.code ≡ [] → ⊥)
    → take (length (holders z)) fs ≡ replicate (length (holders z)) 0
    → (StopsBefore p l (length (holders z)) z fs → ⊥)
    → ActsWithin p l (length (holders z)) z fs
acts_in_turn a rs right v = run_acts_in_turn a (table_startable a rs right) v
