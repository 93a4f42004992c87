-- The bytes of roles by name (02 §1): each is the code of its role (`Laws/RoleNameLaws.antt`, `roles_named`). A token whose kind says it all has its kind's.
use Rattle.std.specs.Prelude.{ℕ}

-- names by what they do; those that declare come first
abbrev pub new_struct_role : ℕ
new_struct_role = 39

abbrev pub new_par_role : ℕ
new_par_role = 40

abbrev pub new_step_role : ℕ
new_step_role = 41

abbrev pub new_local_role : ℕ
new_local_role = 42

abbrev pub first_read_role : ℕ
first_read_role = 43

abbrev pub first_written_role : ℕ
first_written_role = 44

abbrev pub later_variable_role : ℕ
later_variable_role = 45

abbrev pub made_role : ℕ
made_role = 46

abbrev pub made_statement_role : ℕ
made_statement_role = 47

abbrev pub called_role : ℕ
called_role = 48

abbrev pub called_struct_role : ℕ
called_struct_role = 49

abbrev pub called_step_role : ℕ
called_step_role = 50

-- types of parameters, of locals, of null: Int, Nat, Bool, a struct
abbrev pub par_int_role : ℕ
par_int_role = 51

abbrev pub par_nat_role : ℕ
par_nat_role = 52

abbrev pub par_bool_role : ℕ
par_bool_role = 53

abbrev pub par_struct_role : ℕ
par_struct_role = 54

abbrev pub local_int_role : ℕ
local_int_role = 55

abbrev pub local_nat_role : ℕ
local_nat_role = 56

abbrev pub local_bool_role : ℕ
local_bool_role = 57

abbrev pub local_struct_role : ℕ
local_struct_role = 58

abbrev pub null_int_role : ℕ
null_int_role = 59

abbrev pub null_nat_role : ℕ
null_nat_role = 60

abbrev pub null_bool_role : ℕ
null_bool_role = 61

abbrev pub null_struct_role : ℕ
null_struct_role = 62

-- brackets, braces, commas and the schedule's < by what they belong to
abbrev pub brackets_open_role : ℕ
brackets_open_role = 63

abbrev pub brackets_close_role : ℕ
brackets_close_role = 64

abbrev pub args_open_role : ℕ
args_open_role = 65

abbrev pub args_close_role : ℕ
args_close_role = 66

abbrev pub no_args_close_role : ℕ
no_args_close_role = 67

abbrev pub pars_open_role : ℕ
pars_open_role = 68

abbrev pub pars_close_role : ℕ
pars_close_role = 69

abbrev pub fix_open_role : ℕ
fix_open_role = 70

abbrev pub fix_close_role : ℕ
fix_close_role = 71

abbrev pub steps_open_role : ℕ
steps_open_role = 72

abbrev pub steps_close_role : ℕ
steps_close_role = 73

abbrev pub body_open_role : ℕ
body_open_role = 74

abbrev pub body_close_role : ℕ
body_close_role = 75

abbrev pub then_open_role : ℕ
then_open_role = 76

abbrev pub then_close_role : ℕ
then_close_role = 77

abbrev pub par_comma_role : ℕ
par_comma_role = 78

abbrev pub arg_comma_role : ℕ
arg_comma_role = 79

abbrev pub barrier_role : ℕ
barrier_role = 80

-- where each group begins: names, those that use among them, types, those that a pass goes by among them, parts
abbrev pub first_name_role : ℕ
first_name_role = new_struct_role

abbrev pub first_use_role : ℕ
first_use_role = first_read_role

abbrev pub first_type_role : ℕ
first_type_role = par_int_role

abbrev pub last_par_type_role : ℕ
last_par_type_role = par_struct_role

abbrev pub first_part_role : ℕ
first_part_role = brackets_open_role

-- how many roles there are, with 0
abbrev pub role_count : ℕ
role_count = 81
