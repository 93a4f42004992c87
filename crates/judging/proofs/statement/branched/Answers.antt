-- `statement::branched` meets its contract.
use Rattle.std.proofs.Common.{add-one, add-suc}
use Rattle.judge.specs.Facts.{branched}
use Rattle.judging.proofs.statement.branched.Goals as goal

pub returns : goal.returns
unfolding branched
returns c = simp (branched, c.worst.ensures, c.max.ensures, c.demand-first.ensures, add-one, add-suc)
