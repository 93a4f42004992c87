use Rattle.std.proofs.Common.{◌+◌, ◌*◌}
use Rattle.lexer.specs.Gaps.{Gap}
use Rattle.lexer.proofs.gaps.eights.Given as goal

abbrev pub invariant-loop-block : goal.invariant-loop-block
invariant-loop-block l = Gap l.kinds l.from (l.from + l.block * 8)
