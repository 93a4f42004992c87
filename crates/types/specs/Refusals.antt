-- The number that 01 and 02 give each refusal, and an answer with the number in place of the refusal: what the definitions speak of.
use Rattle.std.specs.Prelude.{ℕ, Result, Ok, Err}
use Rattle.types.specs.Numbers.{program_length, block_sums, block_layout, wrong_end, wrong_byte, over_limits, wrong_names, wrong_types, table_length}
use Rattle.types.specs.Numbers.{table_block, table_end, table_value, no_room, many_turns, no_token, no_derivation, no_program, paused_stream}
use Rattle.types.specs.Numbers.{paused_state, iterator_constructs, absent, no_right, wrong_columns, many_commands, out_of_turns, full, exceeded}
use Rattle.types.specs.declared.refusal.Refusal.{Refusal}
use Rattle.types.specs.declared.refusal.Refusal.TheVariants.{ProgramLength, BlockSums, BlockLayout, WrongEnd, WrongByte, OverLimits, WrongNames}
use Rattle.types.specs.declared.refusal.Refusal.TheVariants.{WrongTypes, TableLength, TableBlock, TableEnd, TableValue, NoRoom, ManyTurns, NoToken}
use Rattle.types.specs.declared.refusal.Refusal.TheVariants.{NoDerivation, NoProgram, PausedStream, PausedState, IteratorConstructs, Absent, NoRight}
use Rattle.types.specs.declared.refusal.Refusal.TheVariants.{WrongColumns, ManyCommands, OutOfTurns, Full, Exceeded}

abbrev pub number : Refusal → ℕ
number ProgramLength = program_length
number BlockSums = block_sums
number BlockLayout = block_layout
number WrongEnd = wrong_end
number WrongByte = wrong_byte
number OverLimits = over_limits
number WrongNames = wrong_names
number WrongTypes = wrong_types
number TableLength = table_length
number TableBlock = table_block
number TableEnd = table_end
number TableValue = table_value
number NoRoom = no_room
number ManyTurns = many_turns
number NoToken = no_token
number NoDerivation = no_derivation
number NoProgram = no_program
number PausedStream = paused_stream
number PausedState = paused_state
number IteratorConstructs = iterator_constructs
number Absent = absent
number NoRight = no_right
number WrongColumns = wrong_columns
number ManyCommands = many_commands
number OutOfTurns = out_of_turns
number Full = full
number Exceeded = exceeded

abbrev pub numbered : {A : Type 0} → Result A Refusal → Result A ℕ
numbered (Ok a) = Ok a
numbered (Err r) = Err (number r)
