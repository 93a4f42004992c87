-- `position` meets its contract: the commands of the step, less those that are left.
use Rattle.std.proofs.Common.{add-one, ◌≡◌, ◌∙◌, arith}
use Rattle.layout.specs.Layout.{head, struct_of}
use Rattle.trace_lines.specs.Parts.{position_of}
use Rattle.trace_lines.proofs.position.Goals as goal

pub overflow_cast-k : goal.overflow_cast-k
overflow_cast-k c = omega (arith, c.type_inv.heads (head c.args.l struct_of))

pub returns : goal.returns
unfolding position_of
returns c =
    c.from.ensures ∙ rw (c.saturating_sub.ensures, c.saturating_sub-size.ensures, c.saturating_sub-left.ensures, add-one)
