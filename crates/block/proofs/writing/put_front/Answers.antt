-- `writing::put_front` meets its contract: its four writes stand one after the other.
use Rattle.std.proofs.Common.{arith, ◌∙◌}
use Rattle.block.proofs.Laws.BlockWriteWays.{put_pair, front_put}
use Rattle.block.proofs.writing.put_front.Goals as goal

pub returns : goal.returns
returns c =
    front_put _ _ _ _ c.requires.part_len_bound _ _ _ _ c.requires.at_in_bounds.0
    (c.put_pair.ensures ∙ put_pair _ _ _ (omega arith) c.requires.at_in_bounds.1)
    (c.put_pair-2.ensures ∙ put_pair _ _ _ (omega arith) (omega arith)) c.copy.ensures c.zeros.ensures
