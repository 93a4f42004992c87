use Rattle.std.proofs.Common.{◌-◌, length}
use Rattle.tokens.proofs.Laws.MarkingLaws.{Reached}
use Rattle.lexer.proofs.mark.Given as goal

abbrev pub invariant-loop-kind : goal.invariant-loop-kind
invariant-loop-kind l = Reached l.text l.initial.kinds l.kinds l.i

abbrev pub decreases-loop-kind : goal.decreases-loop-kind
decreases-loop-kind l = length l.text - l.i
