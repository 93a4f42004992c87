use Rattle.std.proofs.Common.{◌-◌, ◌*◌}
use Rattle.lexer.specs.Gaps.{Gap}
use Rattle.lexer.proofs.gaps.eights_back.Given as goal

abbrev pub invariant-loop-block : goal.invariant-loop-block
invariant-loop-block l = Gap l.kinds (l.end - l.block * 8) l.end
