-- Every limit, every byte of a type and every number (01, 'Program stream', 'Table and turns', 'Numbers from the input',
-- 'Numbers from the state'; those of 02 too), as the code hands them out: each constant in its place is the definition of its name.
use Rattle.std.specs.Prelude.{ℕ, List, [], ◌∷◌}
use Rattle.types.specs.Limits.{max_structs, max_params, max_steps, step_names, max_statements, max_items, int_half, nat_end}
use Rattle.types.specs.Limits.{first_local, variables, max_path, fix_levels, if_levels, expr_levels, max_instances, program_blocks}
use Rattle.types.specs.Limits.{table_blocks, step_commands, max_commands, max_depth, schedule_items, max_turns}
use Rattle.types.specs.Types.{Ty.int, Ty.nat, Ty.bool, Ty.ref, code}
use Rattle.types.specs.Numbers.{program_length, block_sums, block_layout, wrong_end, wrong_byte, over_limits, wrong_names, wrong_types, table_length}
use Rattle.types.specs.Numbers.{table_block, table_end, table_value, no_room, many_turns, no_token, no_derivation, no_program, paused_stream}
use Rattle.types.specs.Numbers.{paused_state, iterator_constructs, absent, no_right, wrong_columns, many_commands, out_of_turns, full, exceeded}

abbrev pub limits : List ℕ
limits =
    max_structs ∷ max_params ∷ max_steps ∷ step_names ∷ max_statements ∷ max_items ∷ int_half ∷ nat_end ∷ first_local ∷ variables ∷ max_path ∷ fix_levels
    ∷ if_levels ∷ expr_levels ∷ max_instances ∷ program_blocks ∷ table_blocks ∷ step_commands ∷ max_commands ∷ max_depth ∷ schedule_items ∷ max_turns ∷ []

unfoldable pub codes : List ℕ
codes = code int ∷ code nat ∷ code bool ∷ code (ref 0) ∷ []

abbrev pub numbers : List ℕ
numbers =
    program_length ∷ block_sums ∷ block_layout ∷ wrong_end ∷ wrong_byte ∷ over_limits ∷ wrong_names ∷ wrong_types ∷ table_length ∷ table_block ∷ table_end
    ∷ table_value ∷ no_room ∷ many_turns ∷ no_token ∷ no_derivation ∷ no_program ∷ paused_stream ∷ paused_state ∷ iterator_constructs ∷ absent ∷ no_right
    ∷ wrong_columns ∷ many_commands ∷ out_of_turns ∷ full ∷ exceeded ∷ []
