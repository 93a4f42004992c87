-- `gaps::eight` meets its contract: twice four.
use Rattle.std.proofs.Common.{eqb-true}
use Rattle.lexer.specs.GapLaws.{or_none, gap_eight}
use Rattle.lexer.proofs.gaps.eight.Goals as goal

pub returns : goal.returns
returns c e =
    let (x, y) = or_none c.four.result c.four-2.result (eqb-true _ 0 e) in
    gap_eight (c.four.ensures x) (c.four-2.ensures y)
