-- `one` meets its contract.
use Rattle.read_schedule.proofs.one.Goals as goal

pub returns : goal.returns
returns c = cc
