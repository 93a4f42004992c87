use Rattle.std.proofs.Common.{◌≤◌}
use Rattle.lexer.specs.Gaps.{Gap}
use Rattle.lexer.proofs.gaps.back_within.Given as goal

abbrev pub invariant-loop-i : goal.invariant-loop-i
invariant-loop-i l = (Gap l.kinds l.i l.end) × (l.first ≤ l.i)
