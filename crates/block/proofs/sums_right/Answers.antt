-- `sums_right` meets its contract, by a law for each way through it.
use Rattle.std.proofs.Common.{◌∙◌, ne_eqb}
use Rattle.block.proofs.Laws.BlockWays.{a_differs, a_agrees}
use Rattle.block.proofs.sums_right.Goals as goal

pub returns-then-pair_at-from : goal.returns-then-pair_at-from
returns-then-pair_at-from c =
    a_agrees _ _ _ _ _ c.pair_at.ensures.0 (c.from.ensures ∙ c.sums-s.ensures.0) c.if-pair_at-from.true c.pair_at-then-pair_at-from.ensures.0
    (c.from-then-pair_at-from.ensures ∙ c.sums-s.ensures.1)

pub returns-else-pair_at-from : goal.returns-else-pair_at-from
returns-else-pair_at-from c =
    ne_eqb _ _ c.if-pair_at-from.false ∙ a_differs _ _ _ c.pair_at.ensures.0 (c.from.ensures ∙ c.sums-s.ensures.0) c.if-pair_at-from.false
