-- `writing::put_block` meets its contract: the sums are those of bytes 0 to 507, which stand in the output already.
use Rattle.std.proofs.Common.{arith, ◌∙◌}
use Rattle.block.proofs.Laws.BlockWriteWays.{put_pair, block_put}
use Rattle.block.proofs.writing.put_block.Goals as goal

pub returns : goal.returns
returns c =
    block_put _ _ _ _ c.requires.part_len_bound _ _ _ _ _ c.requires.at_in_bounds.0 c.put_front.ensures (c.from.ensures ∙ c.sums-s.ensures.0)
    (c.from-2.ensures ∙ c.sums-s.ensures.1) (c.put_pair.ensures ∙ put_pair _ _ _ (omega arith) (omega arith))
    (c.put_pair-2.ensures ∙ put_pair _ _ _ (omega arith) (omega arith))
