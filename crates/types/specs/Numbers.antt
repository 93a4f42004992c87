-- The numbers that 01 and 02 give a refused input and a run that stops, each once and under a name: those of 01's input, of 02's, of the state.
use Rattle.std.specs.Prelude.{ℕ}

-- 01, 'Numbers from the input' -------------------------------------------------

-- of a program image: its length; a block's sums; its index, used count or unused bytes
abbrev pub program_length : ℕ
program_length = 1

abbrev pub block_sums : ℕ
block_sums = 2

abbrev pub block_layout : ℕ
block_layout = 3

-- of its stream: it ends early or goes on after its end; a byte not allowed at its place
abbrev pub wrong_end : ℕ
wrong_end = 4

abbrev pub wrong_byte : ℕ
wrong_byte = 5

-- of the program: limits of commands, depth and items; names; types
abbrev pub over_limits : ℕ
over_limits = 6

abbrev pub wrong_names : ℕ
wrong_names = 7

abbrev pub wrong_types : ℕ
wrong_types = 8

-- of a table image: its length; its blocks; the end of its stream; a count, struct or value not allowed
abbrev pub table_length : ℕ
table_length = 9

abbrev pub table_block : ℕ
table_block = 10

abbrev pub table_end : ℕ
table_end = 11

abbrev pub table_value : ℕ
table_value = 12

-- of what is lent: output under 8,704 bytes, or a list with places for fewer than 1,024 commands; over 65,536 turns given
abbrev pub no_room : ℕ
no_room = 13

abbrev pub many_turns : ℕ
many_turns = 14

-- 02 ---------------------------------------------------------------------------

-- of program text (§1): it does not part into tokens; the grammar derives none of it; it means no program that a stream holds
abbrev pub no_token : ℕ
no_token = 15

abbrev pub no_derivation : ℕ
no_derivation = 16

abbrev pub no_program : ℕ
no_program = 17

-- of a paused image (§7): its blocks or stream; a state not allowed
abbrev pub paused_stream : ℕ
paused_stream = 18

abbrev pub paused_state : ℕ
paused_state = 19

-- of a program (§10): an iterator names a step with a construct statement
abbrev pub iterator_constructs : ℕ
iterator_constructs = 20

-- of what a role asks for (§12): a rights table that is none, or a role, label or parameter that is not there; a right that it lacks
abbrev pub absent : ℕ
absent = 21

abbrev pub no_right : ℕ
no_right = 22

-- of columns (§13): their blocks or stream
abbrev pub wrong_columns : ℕ
wrong_columns = 23

-- of what is counted (§14): over 12 commands of the step
abbrev pub many_commands : ℕ
many_commands = 24

-- 01, 'Numbers from the state' -------------------------------------------------

-- commands remain, no turn byte does
abbrev pub out_of_turns : ℕ
out_of_turns = 33

-- cons with 256 instances
abbrev pub full : ℕ
full = 34

-- zero divisor, or result outside its type
abbrev pub exceeded : ℕ
exceeded = 35
