-- `fault::named` meets its contract.
use Rattle.judge.specs.Facts.{named}
use Rattle.judging.proofs.fault.named.Goals as goal

pub returns-then-right : goal.returns-then-right
unfolding named
returns-then-right c = simp (named, c.if-right.true)

pub returns : goal.returns
unfolding named
returns c = simp (named, c.from.ensures, c.if-right.false)
