-- `push_this` meets its contract: the actor's label is put on top.
use Rattle.std.proofs.Common.{ℕ, ap, ◌∙◌}
use Rattle.layout.specs.Layout.{label_cell}
use Rattle.execute_stack.specs.StackWays.{this_way}
use Rattle.execute_stack.proofs.push_this.Goals as goal

pub returns : goal.returns
returns c =
    this_way c.requires.acting (c.cell-c.ensures ∙ ap (λ (k : ℕ). label_cell k c.args.a.label) c.head-k.ensures.0) (c.put.ensures.heads_after, c.put.ensures.cells_after)
