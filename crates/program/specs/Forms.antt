-- The byte that opens each form of a program stream (01, 'Program stream'), by name.
use Rattle.std.specs.Prelude.{ℕ}

-- statements: an if, a declaration, an update, a construct statement
abbrev pub when_form : ℕ
when_form = 1

abbrev pub declare_form : ℕ
declare_form = 2

abbrev pub update_form : ℕ
update_form = 3

abbrev pub create_form : ℕ
create_form = 4

-- expressions: !, a construction, a path, literals, null, this
abbrev pub inv_form : ℕ
inv_form = 16

abbrev pub make_form : ℕ
make_form = 17

abbrev pub path_form : ℕ
path_form = 18

abbrev pub int_form : ℕ
int_form = 19

abbrev pub nat_form : ℕ
nat_form = 20

abbrev pub bool_form : ℕ
bool_form = 21

abbrev pub null_form : ℕ
null_form = 22

abbrev pub this_form : ℕ
this_form = 23

-- operators, each the byte of its own expression
abbrev pub eq_form : ℕ
eq_form = 32

abbrev pub ne_form : ℕ
ne_form = 33

abbrev pub le_form : ℕ
le_form = 34

abbrev pub ge_form : ℕ
ge_form = 35

abbrev pub lt_form : ℕ
lt_form = 36

abbrev pub gt_form : ℕ
gt_form = 37

abbrev pub mul_form : ℕ
mul_form = 38

abbrev pub div_form : ℕ
div_form = 39

abbrev pub rem_form : ℕ
rem_form = 40

abbrev pub add_form : ℕ
add_form = 41

abbrev pub sub_form : ℕ
sub_form = 42

abbrev pub and_form : ℕ
and_form = 43

abbrev pub or_form : ℕ
or_form = 44

-- items of the schedule
abbrev pub call_form : ℕ
call_form = 1

abbrev pub call_in_form : ℕ
call_in_form = 2

abbrev pub fix_form : ℕ
fix_form = 3
