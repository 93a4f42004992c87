use Rattle.composing.specs.LoopLaws.{Reached}
use Rattle.composing.proofs.written.Given as goal

abbrev pub invariant-loop-i : goal.invariant-loop-i
invariant-loop-i l = Reached l.text l.roles l.numbers l.initial.out l.initial.stack l.out l.stack l.p l.i

abbrev pub decreases-loop-i : goal.decreases-loop-i
decreases-loop-i l = l.i
