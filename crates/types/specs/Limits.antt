-- Every number that 01 sets a bound by, once and under a name, in the order of its sections.
use Rattle.std.specs.Prelude.{ℕ, ◌-◌}

-- 01, 'Program stream' ---------------------------------------------------------

-- structs of a program; parameters and steps of a struct; names of steps; statements of a step or an if
abbrev pub max_structs : ℕ
max_structs = 16

abbrev pub max_params : ℕ
max_params = 8

abbrev pub max_steps : ℕ
max_steps = 8

abbrev pub step_names : ℕ
step_names = 32

abbrev pub max_statements : ℕ
max_statements = 32

-- items of the schedule, or of a Fix
abbrev pub max_items : ℕ
max_items = 32

-- Int goes from -int-half up to below int-half; Nat up to below nat-end
abbrev pub int_half : ℕ
int_half = 2147483648

abbrev pub nat_end : ℕ
nat_end = 4294967296

-- variables below first-local are parameters, those from there on locals
abbrev pub first_local : ℕ
first_local = 8

abbrev pub variables : ℕ
variables = 16

abbrev pub max_locals : ℕ
max_locals = variables - first_local

abbrev pub max_path : ℕ
max_path = 4

-- how deep Fix, if and expressions nest
abbrev pub fix_levels : ℕ
fix_levels = 8

abbrev pub if_levels : ℕ
if_levels = 8

abbrev pub expr_levels : ℕ
expr_levels = 16

-- 01, 'Table and turns' --------------------------------------------------------

abbrev pub max_instances : ℕ
max_instances = 256

-- 01, 'Numbers from the input' -------------------------------------------------

-- blocks of a program image and of a table image (32,768 and 8,704 bytes)
abbrev pub program_blocks : ℕ
program_blocks = 64

abbrev pub table_blocks : ℕ
table_blocks = 17

-- commands of a step and of a program; a step's depth; items in all
abbrev pub step_commands : ℕ
step_commands = 64

abbrev pub max_commands : ℕ
max_commands = 1024

abbrev pub max_depth : ℕ
max_depth = 16

abbrev pub schedule_items : ℕ
schedule_items = 64

abbrev pub max_turns : ℕ
max_turns = 65536
