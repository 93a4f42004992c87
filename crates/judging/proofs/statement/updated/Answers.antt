-- `statement::updated` meets its contract.
use Rattle.std.proofs.Common.{add-one, add-suc}
use Rattle.judge.specs.Facts.{updated}
use Rattle.judging.proofs.statement.updated.Goals as goal

pub returns : goal.returns
unfolding updated
returns c = simp (updated, c.worst-first.ensures, c.max.ensures, c.from.ensures, c.demand.ensures, add-one, add-suc)
