-- `block_fault` meets its contract, by a law for each way through it.
use Rattle.block.proofs.Laws.BlockWays.{sums_wrong, layout_wrong, block_agrees}
use Rattle.block.proofs.block_fault.Goals as goal

pub returns-then-not-sums_right : goal.returns-then-not-sums_right
returns-then-not-sums_right c = sums_wrong _ _ _ _ c.sums_right.ensures c.if-not-sums_right.true

pub returns-then-not-laid_out : goal.returns-then-not-laid_out
returns-then-not-laid_out c =
    layout_wrong _ _ _ _ _ c.sums_right.ensures c.if-not-sums_right.false c.laid_out.ensures
    c.if-not-laid_out.true

pub returns : goal.returns
returns c =
    block_agrees _ _ _ _ _ c.sums_right.ensures c.if-not-sums_right.false c.laid_out.ensures
    c.if-not-laid_out.false
