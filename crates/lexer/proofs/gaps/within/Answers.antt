-- `gaps::within` meets its contract. The loop's invariant: no token began so far.
use Rattle.std.proofs.Common.{arith}
use Rattle.lexer.specs.GapLaws.{gap_none, gap_one, gap_join}
use Rattle.lexer.proofs.gaps.within.Goals as goal

pub loop-i-init : goal.loop-i-init
loop-i-init c = gap_none (omega arith)

pub loop-i-preserved : goal.loop-i-preserved
loop-i-preserved c = gap_join c.loop-i.invariant (gap_one (omega arith) c.if-kinds-i-ne0.false)
