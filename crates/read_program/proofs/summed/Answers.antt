-- `summed` meets its contract.
use Rattle.read_program.proofs.summed.Goals as goal

pub returns : goal.returns
returns c = simp c.number.ensures
