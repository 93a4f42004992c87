-- `gaps::four` meets its contract.
use Rattle.lexer.specs.GapLaws.{gap_four}
use Rattle.lexer.proofs.gaps.four.Goals as goal

pub returns : goal.returns
returns c = gap_four c.requires
