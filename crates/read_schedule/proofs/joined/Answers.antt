-- `joined` meets its contract.
use Rattle.judge.specs.ProgramFacts.{joined}
use Rattle.read_schedule.proofs.joined.Goals as goal

pub returns : goal.returns
unfolding joined
returns c = rw c.worst.ensures
