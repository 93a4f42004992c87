-- `gaps::back_within` meets its contract. The loop's invariant: no token began so far.
use Rattle.std.proofs.Common.{arith}
use Rattle.lexer.specs.GapLaws.{gap_none, gap_as, gap_front}
use Rattle.lexer.proofs.gaps.back_within.Goals as goal

pub loop-i-init : goal.loop-i-init
loop-i-init c = (gap_none (omega arith), omega arith)

pub returns-then-kinds-i-ne0 : goal.returns-then-kinds-i-ne0
returns-then-kinds-i-ne0 c =
    (gap_as c.loop-i.invariant.0 (omega arith) (omega arith), omega arith)

pub loop-i-preserved : goal.loop-i-preserved
loop-i-preserved c = (gap_front (omega arith) c.if-kinds-i-ne0.false c.loop-i.invariant.0, omega arith)

pub returns : goal.returns
returns c = (gap_as c.loop-i.invariant.0 (omega arith) (omega arith), omega arith)
