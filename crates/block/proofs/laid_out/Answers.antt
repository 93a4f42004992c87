-- `laid_out` meets its contract, by a law for each way through it.
use Rattle.std.proofs.Common.{◌∙◌, ne_eqb}
use Rattle.block.proofs.Laws.BlockWays.{index_differs, index_agrees}
use Rattle.block.proofs.laid_out.Goals as goal

pub returns-then-pair_at-k : goal.returns-then-pair_at-k
returns-then-pair_at-k c = index_agrees _ _ _ _ _ c.pair_at.ensures.0 c.if-pair_at-k.true c.filled.ensures

pub returns-else-pair_at-k : goal.returns-else-pair_at-k
returns-else-pair_at-k c = ne_eqb _ _ c.if-pair_at-k.false ∙ index_differs _ _ _ _ c.pair_at.ensures.0 c.if-pair_at-k.false
