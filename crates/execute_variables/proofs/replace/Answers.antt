-- `replace` meets its contract: the words are compared, not the cells.
use Rattle.std.proofs.Common.{refl}
use Rattle.execute_variables.specs.Change.{change}
use Rattle.execute_variables.proofs.replace.Goals as goal

pub returns : goal.returns
unfolding change
returns c = record { value = rw (c.operand-old.ensures.0, c.operand.ensures.0); cells_after = refl }
