-- `turns::take_turns` meets its contract. With the loop goes what the turns so far have led to; the measure falls by the turns that are left.
use Rattle.interpreter.specs.Laws.GoingLaws.{turns_left, Kept}
use Rattle.interpreter.proofs.turns.take_turns.Given as goal

abbrev pub invariant-loop-next : goal.invariant-loop-next
invariant-loop-next l = Kept l.list l.counts l.turns l.initial.next l.initial.heads l.initial.cells l.next l.known l.heads l.cells

abbrev pub decreases-loop-next : goal.decreases-loop-next
decreases-loop-next l = turns_left l.turns l.next
