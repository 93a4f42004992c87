-- `gaps::start` meets its contract: a few places one by one, then eights, then the rest.
use Rattle.lexer.specs.GapLaws.{gap_join}
use Rattle.lexer.proofs.gaps.start.Goals as goal

pub returns : goal.returns
returns c = gap_join c.back_within-2.ensures.0 (gap_join c.eights_back.ensures c.back_within-i.ensures.0)
