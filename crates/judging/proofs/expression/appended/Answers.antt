-- `expression::appended` meets its contract.
use Rattle.judge.specs.Facts.{appended}
use Rattle.judging.proofs.expression.appended.Goals as goal

pub returns : goal.returns
unfolding appended
returns c = simp (appended, c.worst.ensures, c.max.ensures, c.from.ensures, c.demand-own.ensures)
