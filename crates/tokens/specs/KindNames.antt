-- The kinds of tokens by name (02 §1), in the order in which 'TokenNumbers' has words and signs and a stream has operators; each is the kind of its token
-- (`Laws/KindLaws.antt`, `kinds_named`).
use Rattle.std.specs.Prelude.{ℕ}

-- no token begins there
abbrev pub no_kind : ℕ
no_kind = 0

-- words
abbrev pub struct_kind : ℕ
struct_kind = 1

abbrev pub if_kind : ℕ
if_kind = 2

abbrev pub then_kind : ℕ
then_kind = 3

abbrev pub null_kind : ℕ
null_kind = 4

abbrev pub this_kind : ℕ
this_kind = 5

abbrev pub fix_kind : ℕ
fix_kind = 6

abbrev pub int_type_kind : ℕ
int_type_kind = 7

abbrev pub nat_type_kind : ℕ
nat_type_kind = 8

abbrev pub bool_type_kind : ℕ
bool_type_kind = 9

abbrev pub string_type_kind : ℕ
string_type_kind = 10

abbrev pub true_kind : ℕ
true_kind = 11

abbrev pub false_kind : ℕ
false_kind = 12

-- signs
abbrev pub lpar_kind : ℕ
lpar_kind = 13

abbrev pub rpar_kind : ℕ
rpar_kind = 14

abbrev pub lbrace_kind : ℕ
lbrace_kind = 15

abbrev pub rbrace_kind : ℕ
rbrace_kind = 16

abbrev pub comma_kind : ℕ
comma_kind = 17

abbrev pub colon_kind : ℕ
colon_kind = 18

abbrev pub semicolon_kind : ℕ
semicolon_kind = 19

abbrev pub assign_kind : ℕ
assign_kind = 20

abbrev pub dot_kind : ℕ
dot_kind = 21

abbrev pub bang_kind : ℕ
bang_kind = 22

-- operators
abbrev pub eq_kind : ℕ
eq_kind = 23

abbrev pub ne_kind : ℕ
ne_kind = 24

abbrev pub le_kind : ℕ
le_kind = 25

abbrev pub ge_kind : ℕ
ge_kind = 26

abbrev pub lt_kind : ℕ
lt_kind = 27

abbrev pub gt_kind : ℕ
gt_kind = 28

abbrev pub mul_kind : ℕ
mul_kind = 29

abbrev pub div_kind : ℕ
div_kind = 30

abbrev pub rem_kind : ℕ
rem_kind = 31

abbrev pub add_kind : ℕ
add_kind = 32

abbrev pub sub_kind : ℕ
sub_kind = 33

abbrev pub and_kind : ℕ
and_kind = 34

abbrev pub or_kind : ℕ
or_kind = 35

-- a name, literals
abbrev pub name_kind : ℕ
name_kind = 36

abbrev pub int_kind : ℕ
int_kind = 37

abbrev pub nat_kind : ℕ
nat_kind = 38

-- how many kinds there are, with 0
abbrev pub kinds : ℕ
kinds = 39
