-- `push` meets its contract: the word is put on top.
use Rattle.execute_stack.specs.StackWays.{push_way}
use Rattle.execute_stack.proofs.push.Goals as goal

pub returns : goal.returns
returns c = push_way c.requires.acting c.args.w (c.put.ensures.heads_after, c.put.ensures.cells_after)
