-- `expression::travelled` meets its contract.
use Rattle.std.proofs.Common.{add-one}
use Rattle.judge.specs.Facts.{travelled}
use Rattle.judging.proofs.expression.travelled.Goals as goal

pub returns : goal.returns
unfolding travelled
returns c = simp (travelled, c.from.ensures, add-one)
