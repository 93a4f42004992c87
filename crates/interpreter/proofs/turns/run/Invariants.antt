use Rattle.std.proofs.Common.{◌≡◌, length}
use Rattle.layout.specs.State.{State}
use Rattle.interpreter.specs.Going.{memory_of}
use Rattle.interpreter.specs.Laws.GoingLaws.{turns_left}
use Rattle.interpreter.specs.Laws.RunWays.{Stays}
use Rattle.interpreter.proofs.turns.run.Given as goal

abbrev pub invariant-passages : goal.invariant-passages
invariant-passages l =
    (length l.heads ≡ length l.initial.heads)
    × (length l.cells ≡ length l.initial.cells)
    × ((z : State) → Stays l.program.counts.now l.program.list.now l.program.items.now l.program.spans.now l.turns z l.initial.next (memory_of l.initial.next l.initial.heads l.initial.cells)
    → Stays l.program.counts.now l.program.list.now l.program.items.now l.program.spans.now l.turns z l.next (memory_of l.next l.heads l.cells))

abbrev pub decreases-passages : goal.decreases-passages
decreases-passages l = turns_left l.turns l.next
