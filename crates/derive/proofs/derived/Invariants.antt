use Rattle.std.proofs.Common.{◌-◌, length}
use Rattle.lexer.specs.Gaps.{Token}
use Rattle.derive.specs.LoopLaws.{Reached}
use Rattle.derive.proofs.derived.Given as goal

abbrev pub invariant-loop-i : goal.invariant-loop-i
invariant-loop-i l =
    Reached l.initial.kinds l.kinds l.initial.stack l.stack l.m.state l.m.height l.last l.i × Token l.kinds l.i

abbrev pub decreases-loop-i : goal.decreases-loop-i
decreases-loop-i l = length l.initial.kinds - l.i
