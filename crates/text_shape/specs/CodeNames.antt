-- The codes of what a derivation in progress is at, by name (02 §1, §2): one for each state, in the order of `syntax/specs/Places.antt`, and from
-- `in_fix_code` on
-- one for each place that is open. `Shape.antt` gives each state and each place its own.
use Rattle.std.specs.Prelude.{ℕ, ◌+◌}

-- no derivation goes on
abbrev pub dead_code : ℕ
dead_code = 0

-- before a struct: the first one, a later one or the schedule
abbrev pub first_defs_code : ℕ
first_defs_code = 1

abbrev pub more_defs_code : ℕ
more_defs_code = 2

-- in a struct, up to its steps
abbrev pub at_struct_code : ℕ
at_struct_code = 3

abbrev pub at_struct_open_code : ℕ
at_struct_open_code = 4

abbrev pub at_pars_code : ℕ
at_pars_code = 5

abbrev pub at_par_code : ℕ
at_par_code = 6

abbrev pub at_colon_code : ℕ
at_colon_code = 7

abbrev pub at_par_type_code : ℕ
at_par_type_code = 8

abbrev pub behind_par_code : ℕ
behind_par_code = 9

abbrev pub at_steps_open_code : ℕ
at_steps_open_code = 10

abbrev pub at_steps_code : ℕ
at_steps_code = 11

abbrev pub at_step_open_code : ℕ
at_step_open_code = 12

-- in statements
abbrev pub at_stats_code : ℕ
at_stats_code = 13

abbrev pub behind_name_code : ℕ
behind_name_code = 14

abbrev pub at_dot_name_code : ℕ
at_dot_name_code = 15

abbrev pub behind_dot_name_code : ℕ
behind_dot_name_code = 16

abbrev pub at_local_code : ℕ
at_local_code = 17

abbrev pub at_assign_code : ℕ
at_assign_code = 18

abbrev pub at_construct_code : ℕ
at_construct_code = 19

abbrev pub at_semicolon_code : ℕ
at_semicolon_code = 20

abbrev pub at_then_open_code : ℕ
at_then_open_code = 21

-- in an expression: one is wanted, one stands there
abbrev pub want_code : ℕ
want_code = 22

abbrev pub after_code : ℕ
after_code = 23

abbrev pub behind_id_code : ℕ
behind_id_code = 24

abbrev pub at_dot_id_code : ℕ
at_dot_id_code = 25

abbrev pub behind_dot_id_code : ℕ
behind_dot_id_code = 26

abbrev pub at_args_code : ℕ
at_args_code = 27

abbrev pub at_null_type_code : ℕ
at_null_type_code = 28

-- in the schedule
abbrev pub at_item_code : ℕ
at_item_code = 29

abbrev pub behind_execution_code : ℕ
behind_execution_code = 30

abbrev pub at_step_name_code : ℕ
at_step_name_code = 31

abbrev pub at_fix_open_code : ℕ
at_fix_open_code = 32

abbrev pub behind_item_code : ℕ
behind_item_code = 33

-- open: a Fix; brackets, arguments of a constructor and of a construct statement, an if, a value; the body of a step, of an if
abbrev pub in_fix_code : ℕ
in_fix_code = 34

abbrev pub in_brackets_code : ℕ
in_brackets_code = 35

abbrev pub in_constructor_code : ℕ
in_constructor_code = 36

abbrev pub in_construct_code : ℕ
in_construct_code = 37

abbrev pub in_if_code : ℕ
in_if_code = 38

abbrev pub in_value_code : ℕ
in_value_code = 39

abbrev pub in_step_code : ℕ
in_step_code = 40

abbrev pub in_then_code : ℕ
in_then_code = 41

-- how far above its code that of a place of an expression is where a comparison stands bare
abbrev pub compared_by : ℕ
compared_by = 7

-- how many codes there are
abbrev pub codes : ℕ
codes = in_value_code + compared_by + 1
