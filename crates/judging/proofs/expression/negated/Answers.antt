-- `expression::negated` meets its contract.
use Rattle.std.proofs.Common.{add-one}
use Rattle.judge.specs.Facts.{negated}
use Rattle.judging.proofs.expression.negated.Goals as goal

pub returns : goal.returns
unfolding negated
returns c = simp (negated, c.demand.ensures, add-one)
