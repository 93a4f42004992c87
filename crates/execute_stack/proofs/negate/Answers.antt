-- `negate` meets its contract: the other truth is put where the one on top stood.
use Rattle.std.proofs.Common.{ℕ, ◌-◌, ap, ◌∙◌}
use Rattle.layout.specs.Layout.{cell}
use Rattle.memory.specs.Act.{bool_byte}
use Rattle.execute_stack.specs.StackWays.{not_way}
use Rattle.execute_stack.proofs.negate.Goals as goal

pub returns : goal.returns
returns c =
    not_way c.requires.acting (c.cell-c.ensures ∙ ap (λ (w : ℕ). cell bool_byte (1 - w)) c.operand.ensures.0) (c.put.ensures.heads_after, c.put.ensures.cells_after)
