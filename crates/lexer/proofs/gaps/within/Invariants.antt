use Rattle.lexer.specs.Gaps.{Gap}
use Rattle.lexer.proofs.gaps.within.Given as goal

abbrev pub invariant-loop-i : goal.invariant-loop-i
invariant-loop-i l = Gap l.kinds l.from l.i
