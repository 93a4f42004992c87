-- `advance` meets its contract: the move is the machine's, and its bytes are the line of it.
use Rattle.std.proofs.Common.{arith, ◌≡◌, ◌∙◌}
use Rattle.trace_lines.specs.PartsLaws.{step_below}
use Rattle.trace_lines.specs.FixLaws.{moved_few}
use Rattle.trace_lines.specs.TellLaws.{placed_front, movable_on, move_made, move_step}
use Rattle.trace_lines.proofs.advance.Goals as goal

pub moved-n-requires : goal.moved-n-requires
moved-n-requires c = (
  moved_few c.args.items.now c.args.spans.now c.args.heads.now c.args.machine.numbers
      c.requires.movable c.advance-behind.ensures c.requires.fixes_le_fix_levels.0,
  c.requires.fixes_le_fix_levels.1,
)

pub returns : goal.returns
returns c =
    record { by_index = c.advance-behind.ensures; by_index_2 = λ cells p counts list m r. (placed_front c.moved-n.ensures.placed (omega (arith, c.moved-n.ensures.upper_bound, c.requires.fixes_le_fix_levels)) ∙ move_made r (movable_on c.requires.movable) (c.advance-behind.ensures cells) c.args.step, c.step_at-now.ensures ∙ move_step r (movable_on c.requires.movable) (c.advance-behind.ensures cells) c.args.step); step_lt_step_names_2 = (rw c.step_at-now.ensures (step_below _ _ c.requires.step_lt_step_names), c.moved-n.ensures.upper_bound) }
