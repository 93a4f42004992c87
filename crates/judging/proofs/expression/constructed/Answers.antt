-- `expression::constructed` meets its contract.
use Rattle.std.proofs.Common.{add-one}
use Rattle.judge.specs.Facts.{constructed}
use Rattle.judging.proofs.expression.constructed.Goals as goal

pub returns : goal.returns
unfolding constructed
returns c = simp (constructed, c.max.ensures, add-one)
