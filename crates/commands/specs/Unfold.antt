-- Groups of definitions that rows and proofs look into together: where an `unfolding` line has the name of a group, all of the group unfolds.
use Rattle.types.specs.Types.{same_type, code}
use Rattle.types.specs.Values.{default, int_word, word}
use Rattle.program.specs.Encoding.{op_code, var_code}
use Rattle.commands.specs.Commands.{then, reads, front, last, expr_coms, args_coms, update_coms, stmt_coms, body_coms, flatten, commands}
use Rattle.commands.specs.Coding.{coded, com_word, command_word, words}
use Rattle.commands.specs.ProgramWords.{steps_list, structs_list, structs_words, program_words}
use Rattle.commands.specs.Context.{stmt_local, body_local}
use Rattle.commands.specs.Names.{declares, declared, names_of_steps}
use Rattle.commands.specs.Depth.{depth}
use Rattle.commands.specs.Bounds.{item_count, items_count, total, greatest, program_size, program_depth}
use Rattle.commands.specs.Decide.{every, member, distinct}
use Rattle.commands.specs.Decide.NamesDecide.{start_named, expr_named, args_named, stmt_named, body_named, steps_named, stepped, item_stepped}
use Rattle.commands.specs.Decide.NamesDecide.{items_stepped}
use Rattle.commands.specs.Decide.NamesDecide.{names_right}
use Rattle.commands.specs.Decide.TypingDecide.{is_of, agree, given, result, operate, lead, path_type, expr_type, args_typed, stmt_typed}
use Rattle.commands.specs.Decide.TypingDecide.{body_typed, steps_typed}
use Rattle.commands.specs.Decide.TypingDecide.{types_right}
use Rattle.commands.specs.Decide.BoundsDecide.{within}
use Rattle.commands.specs.Numbers.{first, breach_tests, breach_number}

-- the commands of a step, and how deep their stack grows
unfoldable pub compiling : Type 0
unfolding then reads front last expr_coms args_coms update_coms stmt_coms body_coms flatten commands depth
compiling = Unit {0}

-- commands as words of the list
unfoldable pub coding : Type 0
unfolding code default int_word word op_code var_code coded com_word command_word words steps_list structs_list structs_words program_words
coding = Unit {0}

-- whether names are right, in a step and in the schedule
unfoldable pub step_naming : Type 0
unfolding every member distinct declares declared start_named expr_named args_named stmt_named body_named steps_named
step_naming = Unit {0}

unfoldable pub naming : Type 0
unfolding step_naming names_of_steps stepped item_stepped items_stepped names_right
naming = Unit {0}

-- whether types are
unfoldable pub typing : Type 0
unfolding same_type stmt_local body_local is_of agree given result operate lead path_type expr_type args_typed stmt_typed body_typed steps_typed types_right
typing = Unit {0}

-- whether limits are kept
unfoldable pub bounding : Type 0
unfolding item_count items_count total greatest program_size program_depth within
bounding = Unit {0}

-- the number of a program
unfoldable pub judging : Type 0
unfolding compiling naming typing bounding first breach_tests breach_number
judging = Unit {0}
