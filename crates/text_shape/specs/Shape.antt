-- What the code keeps of a derivation in progress: a code for its state, and the codes of the places that are open, the last one first; trees are
-- forgotten. And what a token does to that, state by state, in the tests of `syntax/specs/Reading.antt`.
use Rattle.std.specs.Prelude.{ℕ, ◌+◌, Bool, true, false, ◌||◌, List, [], ◌∷◌, get_or, leb, eqb}
use Rattle.program.specs.Tree.{Op, Op.op_eq, Op.op_ne, Op.op_le, Op.op_ge, Op.op_lt, Op.op_gt, Op.op_mul, Op.op_div, Op.op_rem, Op.op_add, Op.op_sub, Op.op_and}
use Rattle.program.specs.Tree.{Op.op_or}
use Rattle.tokens.specs.Tokens.{Word.w_struct, Word.w_if, Word.w_then, Word.w_null, Word.w_this, Word.w_fix, Word.w_int, Word.w_nat, Word.w_bool, Word.w_string}
use Rattle.tokens.specs.Tokens.{Word.w_true, Word.w_false, Polarity.plus}
use Rattle.tokens.specs.Tokens.{Sign.lpar, Sign.rpar, Sign.lbrace, Sign.rbrace, Sign.comma, Sign.colon, Sign.semicolon, Sign.assign, Sign.dot as dot_sign}
use Rattle.tokens.specs.Tokens.{Sign.bang, Token, Token.word, Token.sign, Token.op, Token.name, Token.int, Token.nat}
use Rattle.syntax.specs.Syntax.{Struct}
use Rattle.syntax.specs.Bracketing.{level, comparisons}
use Rattle.syntax.specs.Expecting.{on_word, on_sign, on_name, on_op, on_less, on_literal, on_type_word, on_type}
use Rattle.syntax.specs.Places.{Body, Body.in_step, Body.in_then, Place, Place.in_brackets, Place.in_negation, Place.in_right, Place.in_constructor}
use Rattle.syntax.specs.Places.{Place.in_construct, Place.in_if, Place.in_assignment, Place.in_update, Row, Row.in_program, Row.in_fix}
use Rattle.syntax.specs.Places.{State, State.at_defs, State.at_struct, State.at_struct_open, State.at_pars, State.at_par, State.at_colon, State.at_par_type}
use Rattle.syntax.specs.Places.{State.behind_par, State.at_steps_open, State.at_steps, State.at_step_open}
use Rattle.syntax.specs.Places.{State.at_stats, State.behind_name, State.at_dot_name, State.behind_dot_name, State.at_local, State.at_assign}
use Rattle.syntax.specs.Places.{State.at_construct, State.at_semicolon, State.at_then_open}
use Rattle.syntax.specs.Places.{State.want, State.after, State.behind_id, State.at_dot_id, State.behind_dot_id, State.at_args, State.at_null_type}
use Rattle.syntax.specs.Places.{State.at_item, State.behind_execution, State.at_step_name, State.at_fix_open, State.behind_item, State.dead}
use Rattle.text_shape.specs.declared.Act.{Act}
use Rattle.text_shape.specs.declared.Act.TheVariants.{Go, Open, Below, Stop}
use Rattle.text_shape.specs.CodeNames.{dead_code, first_defs_code, more_defs_code, at_struct_code, at_struct_open_code, at_pars_code}
use Rattle.text_shape.specs.CodeNames.{at_par_code, at_colon_code, at_par_type_code, behind_par_code, at_steps_open_code, at_steps_code}
use Rattle.text_shape.specs.CodeNames.{at_step_open_code, at_stats_code, behind_name_code, at_dot_name_code, behind_dot_name_code}
use Rattle.text_shape.specs.CodeNames.{at_local_code, at_assign_code, at_construct_code, at_semicolon_code, at_then_open_code, want_code}
use Rattle.text_shape.specs.CodeNames.{after_code, behind_id_code, at_dot_id_code, behind_dot_id_code, at_args_code, at_null_type_code}
use Rattle.text_shape.specs.CodeNames.{at_item_code, behind_execution_code, at_step_name_code, at_fix_open_code, behind_item_code, in_fix_code}
use Rattle.text_shape.specs.CodeNames.{in_brackets_code, in_constructor_code, in_construct_code, in_if_code, in_value_code, in_step_code}
use Rattle.text_shape.specs.CodeNames.{in_then_code, compared_by}

-- The codes ------------------------------------------------------------------------------

-- 1 and 2 stand before a struct, behind none and behind some; the others follow the states' own order
unfoldable pub defs_code : List Struct → ℕ
defs_code [] = first_defs_code
defs_code (d ∷ ds) = more_defs_code

unfoldable pub code_of : State → ℕ
code_of (at_defs ds) = defs_code ds
code_of (at_struct ds) = at_struct_code
code_of (at_struct_open ds n) = at_struct_open_code
code_of (at_pars ds n) = at_pars_code
code_of (at_par ds n ps) = at_par_code
code_of (at_colon ds n ps x) = at_colon_code
code_of (at_par_type ds n ps x) = at_par_type_code
code_of (behind_par ds n ps q) = behind_par_code
code_of (at_steps_open ds n ps) = at_steps_open_code
code_of (at_steps ds n ps ts) = at_steps_code
code_of (at_step_open ds n ps ts x) = at_step_open_code
code_of (at_stats l c) = at_stats_code
code_of (behind_name l c x) = behind_name_code
code_of (at_dot_name l c xs) = at_dot_name_code
code_of (behind_dot_name l c xs y) = behind_dot_name_code
code_of (at_local l c a) = at_local_code
code_of (at_assign l c a x) = at_assign_code
code_of (at_construct l c x) = at_construct_code
code_of (at_semicolon l c x es) = at_semicolon_code
code_of (at_then_open l c e) = at_then_open_code
code_of (want p) = want_code
code_of (after p e) = after_code
code_of (behind_id p x) = behind_id_code
code_of (at_dot_id p xs) = at_dot_id_code
code_of (behind_dot_id p xs y) = behind_dot_id_code
code_of (at_args p x) = at_args_code
code_of (at_null_type p) = at_null_type_code
code_of (at_item l r) = at_item_code
code_of (behind_execution l r x) = behind_execution_code
code_of (at_step_name l r x) = at_step_name_code
code_of (at_fix_open l r) = at_fix_open_code
code_of (behind_item l r i) = behind_item_code
code_of dead = dead_code

-- what is open, from 34 on; a negation and an operator that waits leave nothing
unfoldable pub open_row : Row → List ℕ
open_row (in_program d) = []
open_row (in_fix l r) = in_fix_code ∷ open_row r

unfoldable pub open_body : Body → List ℕ
open_body (in_step ds n ps ts x) = in_step_code ∷ []
open_body (in_then e l c) = in_then_code ∷ open_body c

-- whether a comparison stands bare in the conjunct that is read: behind an operator; at a place
unfoldable pub turn : Bool → Op → Bool
unfolding level
turn b o = elim (eqb (level o) comparisons) [ true ↦ true | false ↦ elim (leb comparisons (level o)) [ true ↦ b | false ↦ false ] ]

unfoldable pub compared : Place → Bool
compared (in_brackets p) = false
compared (in_negation p) = compared p
compared (in_right o a p) = turn (compared p) o
compared (in_constructor x es p) = false
compared (in_construct x es l c) = false
compared (in_if l c) = false
compared (in_assignment a x l c) = false
compared (in_update v l c) = false

-- there, a place has a second code
unfoldable pub spot : Bool → ℕ → ℕ
spot b c = elim b [ true ↦ c + compared_by | false ↦ c ]

unfoldable pub open_at : Bool → Place → List ℕ
unfolding spot compared
open_at b (in_brackets p) = spot b in_brackets_code ∷ open_at (compared p) p
open_at b (in_negation p) = open_at b p
open_at b (in_right o a p) = open_at b p
open_at b (in_constructor x es p) = spot b in_constructor_code ∷ open_at (compared p) p
open_at b (in_construct x es l c) = spot b in_construct_code ∷ open_body c
open_at b (in_if l c) = spot b in_if_code ∷ open_body c
open_at b (in_assignment a x l c) = spot b in_value_code ∷ open_body c
open_at b (in_update v l c) = spot b in_value_code ∷ open_body c

unfoldable pub open_place : Place → List ℕ
unfolding open_at
open_place p = open_at (compared p) p

unfoldable pub open_of : State → List ℕ
open_of (at_defs ds) = []
open_of (at_struct ds) = []
open_of (at_struct_open ds n) = []
open_of (at_pars ds n) = []
open_of (at_par ds n ps) = []
open_of (at_colon ds n ps x) = []
open_of (at_par_type ds n ps x) = []
open_of (behind_par ds n ps q) = []
open_of (at_steps_open ds n ps) = []
open_of (at_steps ds n ps ts) = []
open_of (at_step_open ds n ps ts x) = []
open_of (at_stats l c) = open_body c
open_of (behind_name l c x) = open_body c
open_of (at_dot_name l c xs) = open_body c
open_of (behind_dot_name l c xs y) = open_body c
open_of (at_local l c a) = open_body c
open_of (at_assign l c a x) = open_body c
open_of (at_construct l c x) = in_construct_code ∷ open_body c
open_of (at_semicolon l c x es) = open_body c
open_of (at_then_open l c e) = open_body c
open_of (want p) = open_place p
open_of (after p e) = open_place p
open_of (behind_id p x) = open_place p
open_of (at_dot_id p xs) = open_place p
open_of (behind_dot_id p xs y) = open_place p
open_of (at_args p x) = in_constructor_code ∷ open_place p
open_of (at_null_type p) = open_place p
open_of (at_item l r) = open_row r
open_of (behind_execution l r x) = open_row r
open_of (at_step_name l r x) = open_row r
open_of (at_fix_open l r) = open_row r
open_of (behind_item l r i) = open_row r
open_of dead = []

pub data Shape : Type 0 where
  shape : ℕ → List ℕ → Shape

abbrev pub shape_of : State → Shape
shape_of s = shape (code_of s) (open_of s)

-- What a token does ----------------------------------------------------------------------------

-- `Go`: to a state; `Open`: to a state, with a place opened; `Below`: what was opened last takes the token; `Stop`: no derivation goes on

-- where an expression, an item are wanted; behind an item
unfoldable pub on_exp : Token → Act
on_exp t =
    on_name (λ x. Go behind_id_code)
    (on_sign lpar (Open want_code in_brackets_code)
    (on_sign bang (Go want_code) (on_literal (λ l. Go after_code) (on_word w_null (Go at_null_type_code) (on_word w_this (Go after_code) Stop t) t) t) t) t) t

unfoldable pub on_item : Token → Act
on_item t = on_name (λ x. Go behind_execution_code) (on_word w_fix (Go at_fix_open_code) Stop t) t

unfoldable pub past_item : Token → Act
past_item t = on_less (Go at_item_code) (on_sign rpar Below Stop t) t

-- behind an expression at a place of code c: an operator leads to its right operand, unless it is the second comparison
unfoldable pub clash : Bool → Op → Bool
unfolding level
clash false o = false
clash true o = eqb (level o) comparisons

unfoldable pub right_of : Bool → ℕ → Op → Act
unfolding clash turn spot
right_of b c o = elim (clash b o) [ true ↦ Stop | false ↦ Open want_code (spot (turn b o) c) ]

unfoldable pub on_operator : Bool → ℕ → Act → Token → Act
unfolding right_of
on_operator b c z t = on_op (right_of b c) z t

-- behind one in brackets, in an expression's arguments, in a statement's, in an if, at a statement's end
unfoldable pub past_exp : Bool → Token → List Act → List Act
unfolding on_operator
past_exp b t k =
    on_operator b in_brackets_code (on_sign rpar (Go after_code) Stop t) t
    ∷ on_operator b in_constructor_code (on_sign comma (Open want_code in_constructor_code) (on_sign rpar (Go after_code) Stop t) t) t
    ∷ on_operator b in_construct_code (on_sign comma (Open want_code in_construct_code) (on_sign rpar (Go at_semicolon_code) Stop t) t) t
    ∷ on_operator b in_if_code (on_word w_then (Go at_then_open_code) Stop t) t
    ∷ on_operator b in_value_code (on_sign semicolon (Go at_stats_code) Stop t) t
    ∷ k

-- by the codes, from 0 on
unfoldable pub acts : Token → List Act
unfolding past_exp
acts t =
    Stop
    ∷ on_word w_struct (Go at_struct_code) Stop t
    ∷ on_word w_struct (Go at_struct_code) (on_item t) t
    ∷ on_name (λ x. Go at_struct_open_code) Stop t
    ∷ on_sign lpar (Go at_pars_code) Stop t
    ∷ on_sign rpar (Go at_steps_open_code) (on_name (λ x. Go at_colon_code) Stop t) t
    ∷ on_name (λ x. Go at_colon_code) Stop t
    ∷ on_sign colon (Go at_par_type_code) Stop t
    ∷ on_type (λ a. Go behind_par_code) Stop t
    ∷ on_sign comma (Go at_par_code) (on_sign rpar (Go at_steps_open_code) Stop t) t
    ∷ on_sign lbrace (Go at_steps_code) Stop t
    ∷ on_name (λ x. Go at_step_open_code) (on_sign rbrace (Go more_defs_code) Stop t) t
    ∷ on_sign lbrace (Open at_stats_code in_step_code) Stop t
    ∷ on_word w_if (Open want_code in_if_code) (on_type_word (λ a. Go at_local_code) (on_name (λ x. Go behind_name_code) (on_sign rbrace Below Stop t) t) t) t
    ∷ on_name (λ y. Go at_assign_code) (on_sign assign (Open want_code in_value_code)
    (on_sign dot_sign (Go at_dot_name_code) (on_sign lpar (Open at_construct_code in_construct_code) Stop t) t) t) t
    ∷ on_name (λ y. Go behind_dot_name_code) Stop t
    ∷ on_sign dot_sign (Go at_dot_name_code) (on_sign assign (Open want_code in_value_code) Stop t) t
    ∷ on_name (λ x. Go at_assign_code) Stop t
    ∷ on_sign assign (Open want_code in_value_code) Stop t
    ∷ on_sign rpar Below (on_exp t) t
    ∷ on_sign semicolon (Go at_stats_code) Stop t
    ∷ on_sign lbrace (Open at_stats_code in_then_code) Stop t
    ∷ on_exp t
    ∷ Below
    ∷ on_sign lpar (Open at_args_code in_constructor_code) (on_sign dot_sign (Go at_dot_id_code) Below t) t
    ∷ on_name (λ y. Go behind_dot_id_code) Stop t
    ∷ on_sign dot_sign (Go at_dot_id_code) Below t
    ∷ on_sign rpar Below (on_exp t) t
    ∷ on_type (λ a. Go after_code) Stop t
    ∷ on_item t
    ∷ on_sign dot_sign (Go at_step_name_code) (past_item t) t
    ∷ on_name (λ y. Go behind_item_code) Stop t
    ∷ on_sign lpar (Open at_item_code in_fix_code) Stop t
    ∷ past_item t
    -- from 34 on: behind the items of a Fix, an expression, the statements of a step, of an if, an expression with a comparison
    ∷ on_sign rpar (Go behind_item_code) Stop t
    ∷ past_exp false t (on_sign rbrace (Go at_steps_code) Stop t ∷ on_sign rbrace (Go at_stats_code) Stop t ∷ past_exp true t [])

unfoldable pub act : ℕ → Token → Act
act q t = get_or (acts t) q Stop

-- what was opened last hands a token no further
unfoldable pub acted : Act → List ℕ → Shape
acted (Go q) st = shape q st
acted (Open q r) st = shape q (r ∷ st)
acted Below st = shape dead_code []
acted Stop st = shape dead_code []

unfoldable pub acted_below : List ℕ → Token → Shape
acted_below [] t = shape dead_code []
acted_below (r ∷ st) t = acted (act r t) st

unfoldable pub moved : Act → List ℕ → Token → Shape
moved (Go q) st t = shape q st
moved (Open q r) st t = shape q (r ∷ st)
moved Below st t = acted_below st t
moved Stop st t = shape dead_code []

unfoldable pub move : Shape → Token → Shape
move (shape q st) t = moved (act q t) st t

-- By kinds ---------------------------------------------------------------------------------------

-- a token of each kind; of what is no kind one that no derivation has
unfoldable pub samples : List Token
samples =
    word w_string
    ∷ word w_struct ∷ word w_if ∷ word w_then ∷ word w_null ∷ word w_this ∷ word w_fix ∷ word w_int ∷ word w_nat ∷ word w_bool ∷ word w_string ∷ word w_true
    ∷ word w_false ∷ sign lpar ∷ sign rpar ∷ sign lbrace ∷ sign rbrace ∷ sign comma ∷ sign colon ∷ sign semicolon ∷ sign assign ∷ sign dot_sign ∷ sign bang
    ∷ op op_eq ∷ op op_ne ∷ op op_le ∷ op op_ge ∷ op op_lt ∷ op op_gt ∷ op op_mul ∷ op op_div ∷ op op_rem ∷ op op_add ∷ op op_sub ∷ op op_and ∷ op op_or
    ∷ name [] ∷ int plus [] ∷ nat [] ∷ []

unfoldable pub sample : ℕ → Token
sample k = get_or samples k (word w_string)

unfoldable pub moves : Shape → List ℕ → Shape
moves s [] = s
moves s (k ∷ ks) = moves (move s (sample k)) ks

-- the tokens may end behind an item of the schedule, and there alone
unfoldable pub at_end : Shape → Bool
at_end (shape q []) = eqb q behind_execution_code || eqb q behind_item_code
at_end (shape q (r ∷ st)) = false

unfoldable pub derived : List ℕ → Bool
derived ks = at_end (moves (shape first_defs_code []) ks)
