-- Whether a program keeps to the limits (01, number 6), as a test: the definitions of Bounds with a comparison in each place.
use Rattle.std.specs.Prelude.{Bool, ◌&&◌, leb}
use Rattle.types.specs.Limits.{step_commands, max_commands, max_depth, schedule_items}
use Rattle.program.specs.Tree.{Program}
use Rattle.commands.specs.Bounds.{items_count, step_size, step_depth, program_size}
use Rattle.commands.specs.Decide.{every}

unfoldable pub within : Program → Bool
within p =
    every (every (λ t. leb (step_size t) step_commands)) p.steps
    && (leb (program_size p) max_commands
    && (every (every (λ t. leb (step_depth p t) max_depth)) p.steps
    && leb (items_count p.schedule) schedule_items))
