-- `read` meets its contract: the variable's cell is put where the label stood.
use Rattle.execute_variables.specs.VarWays.{read_way}
use Rattle.execute_variables.proofs.read.Goals as goal

pub returns : goal.returns
returns c =
    read_way c.requires.acting c.args.x (c.put.ensures.heads_after, rw c.operand-r.ensures.0 at c.put.ensures.cells_after)
