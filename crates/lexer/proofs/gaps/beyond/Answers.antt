-- `gaps::beyond` meets its contract: a few places one by one, then eights, then the rest.
use Rattle.lexer.specs.GapLaws.{gap_join}
use Rattle.lexer.proofs.gaps.beyond.Goals as goal

pub returns-then-kinds-from-le-MANY : goal.returns-then-kinds-from-le-MANY
returns-then-kinds-from-le-MANY c = (c.within.ensures.gap.0, λ h. c.within.ensures.token h h)

pub returns : goal.returns
returns c =
    (gap_join c.within-i.ensures.gap.0 (gap_join c.eights.ensures c.within-2.ensures.gap.0), λ h. c.within-2.ensures.token h h)
