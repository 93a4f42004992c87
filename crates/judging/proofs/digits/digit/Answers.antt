-- `digits::digit` meets its contract.
use Rattle.judge.specs.Facts.{digit}
use Rattle.judging.proofs.digits.digit.Goals as goal

pub returns : goal.returns
unfolding digit
returns c = rw c.power.ensures.0
