-- `gaps::eights_back` meets its contract. The loop's invariant: no token began so far.
use Rattle.std.proofs.Common.{arith}
use Rattle.lexer.specs.GapLaws.{gap_none, gap_as, gap_join}
use Rattle.lexer.proofs.gaps.eights_back.Goals as goal

pub loop-block-init : goal.loop-block-init
loop-block-init c = gap_as (gap_none {kinds = c.args.kinds.now} {i = c.args.end} (omega arith)) (omega arith) (omega arith)

pub loop-block-preserved : goal.loop-block-preserved
loop-block-preserved c =
    gap_join (gap_as (c.eight.ensures c.if-not-eight.false) (omega arith) (omega arith)) c.loop-block.invariant

pub returns : goal.returns
returns c = gap_as c.loop-block.invariant (omega arith) (omega arith)
