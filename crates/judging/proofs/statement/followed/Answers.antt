-- `statement::followed` meets its contract.
use Rattle.judge.specs.Facts.{followed}
use Rattle.judging.proofs.statement.followed.Goals as goal

pub returns : goal.returns
unfolding followed
returns c = simp (followed, c.worst.ensures, c.max.ensures)
