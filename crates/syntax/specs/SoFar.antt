-- What was read in a state: the tokens before it, in front of some tokens k; and that its trees keep to the brackets.
use Rattle.std.specs.Prelude.{ℕ, suc, ◌≤◌, List, [], ◌∷◌}
use Rattle.program.specs.Tree.{Op.op_lt}
use Rattle.tokens.specs.Tokens.{Word.w_struct, Word.w_if, Word.w_then, Word.w_null, Word.w_fix, Sign.lpar, Sign.rpar, Sign.lbrace, Sign.comma}
use Rattle.tokens.specs.Tokens.{Sign.colon, Sign.assign, Sign.dot as dot_sign, Sign.bang, Token, Token.word, Token.sign, Token.op, Token.name}
use Rattle.syntax.specs.Syntax.{Id}
use Rattle.syntax.specs.Syntax.{Exp, Stat}
use Rattle.syntax.specs.Syntax.{Par, Step, Struct, Item}
use Rattle.syntax.specs.Places.{Body, Body.in_step, Body.in_then, Place, Place.in_brackets, Place.in_negation, Place.in_right}
use Rattle.syntax.specs.Places.{Place.in_constructor, Place.in_construct, Place.in_if, Place.in_assignment, Place.in_update, Row}
use Rattle.syntax.specs.Places.{Row.in_program, Row.in_fix}
use Rattle.syntax.specs.Places.{State, State.at_defs, State.at_struct, State.at_struct_open, State.at_pars, State.at_par, State.at_colon}
use Rattle.syntax.specs.Places.{State.at_par_type, State.behind_par, State.at_steps_open, State.at_steps, State.at_step_open}
use Rattle.syntax.specs.Places.{State.at_stats, State.behind_name, State.at_dot_name, State.behind_dot_name, State.at_local, State.at_assign}
use Rattle.syntax.specs.Places.{State.at_construct, State.at_semicolon, State.at_then_open}
use Rattle.syntax.specs.Places.{State.want, State.after, State.behind_id, State.at_dot_id, State.behind_dot_id, State.at_args}
use Rattle.syntax.specs.Places.{State.at_null_type, State.at_item, State.behind_execution, State.at_step_name, State.at_fix_open}
use Rattle.syntax.specs.Places.{State.behind_item, State.dead}
use Rattle.syntax.specs.Yield.{type_token, yield_var, yield_exp, yield_exps, yield_stat, yield_par, yield_pars, yield_step, yield_struct}
use Rattle.syntax.specs.Yield.{yield_defs, yield_item}
use Rattle.syntax.specs.Bracketing.{level, loosest, tightest, left, Fits, FitsExps, FitsStat, FitsSteps, FitsStruct, FitsDefs}

-- Tokens ----------------------------------------------------------------------------------------

-- rows, the last one first, by the tokens of an element before others
abbrev rev : {A : Type 0} → (A → List Token → List Token) → List A → List Token → List Token
rev f [] k = k
rev f (a ∷ l) k = rev f l (f a k)

-- what parts the elements stands behind each
unfoldable pub structs_rev : List Struct → List Token → List Token
structs_rev = rev yield_struct

unfoldable pub pars_rev : List Par → List Token → List Token
pars_rev = rev (λ p k. yield_par p (sign comma ∷ k))

unfoldable pub steps_rev : List Step → List Token → List Token
steps_rev = rev yield_step

unfoldable pub ids_rev : List Id → List Token → List Token
ids_rev = rev (λ x k. name x ∷ sign dot_sign ∷ k)

unfoldable pub exps_rev : List Exp → List Token → List Token
exps_rev = rev (λ e k. yield_exp e (sign comma ∷ k))

unfoldable pub stats_rev : List Stat → List Token → List Token
stats_rev = rev yield_stat

unfoldable pub items_rev : List Item → List Token → List Token
items_rev = rev (λ i k. yield_item i (op op_lt ∷ k))

-- before a struct's name, parameters, steps
unfoldable pub before_name : List Struct → List Token → List Token
before_name ds k = structs_rev ds (word w_struct ∷ k)

unfoldable pub before_pars : List Struct → Id → List Token → List Token
before_pars ds n k = before_name ds (name n ∷ sign lpar ∷ k)

unfoldable pub before_steps : List Struct → Id → List Par → List Token → List Token
before_steps ds n ps k = before_pars ds n (yield_pars ps (sign rpar ∷ sign lbrace ∷ k))

unfoldable pub before_body : Body → List Token → List Token
before_body (in_step ds n ps ts x) k = before_steps ds n ps (steps_rev ts (name x ∷ sign lbrace ∷ k))
before_body (in_then e l c) k = before_body c (stats_rev l (word w_if ∷ yield_exp e (word w_then ∷ sign lbrace ∷ k)))

unfoldable pub before_stat : List Stat → Body → List Token → List Token
before_stat l c k = before_body c (stats_rev l k)

unfoldable pub before : Place → List Token → List Token
before (in_brackets p) k = before p (sign lpar ∷ k)
before (in_negation p) k = before p (sign bang ∷ k)
before (in_right o a p) k = before p (yield_exp a (op o ∷ k))
before (in_constructor x es p) k = before p (name x ∷ sign lpar ∷ exps_rev es k)
before (in_construct x es l c) k = before_stat l c (name x ∷ sign lpar ∷ exps_rev es k)
before (in_if l c) k = before_stat l c (word w_if ∷ k)
before (in_assignment a x l c) k = before_stat l c (type_token a ∷ name x ∷ sign assign ∷ k)
before (in_update v l c) k = before_stat l c (yield_var v (sign assign ∷ k))

unfoldable pub before_row : Row → List Token → List Token
before_row (in_program d) k = yield_defs d k
before_row (in_fix l r) k = before_row r (items_rev l (word w_fix ∷ sign lpar ∷ k))

unfoldable pub before_item : List Item → Row → List Token → List Token
before_item l r k = before_row r (items_rev l k)

unfoldable pub so_far : State → List Token → List Token
so_far (at_defs ds) k = structs_rev ds k
so_far (at_struct ds) k = before_name ds k
so_far (at_struct_open ds n) k = before_name ds (name n ∷ k)
so_far (at_pars ds n) k = before_pars ds n k
so_far (at_par ds n ps) k = before_pars ds n (pars_rev ps k)
so_far (at_colon ds n ps x) k = before_pars ds n (pars_rev ps (name x ∷ k))
so_far (at_par_type ds n ps x) k = before_pars ds n (pars_rev ps (name x ∷ sign colon ∷ k))
so_far (behind_par ds n ps q) k = before_pars ds n (pars_rev ps (yield_par q k))
so_far (at_steps_open ds n ps) k = before_pars ds n (yield_pars ps (sign rpar ∷ k))
so_far (at_steps ds n ps ts) k = before_steps ds n ps (steps_rev ts k)
so_far (at_step_open ds n ps ts x) k = before_steps ds n ps (steps_rev ts (name x ∷ k))
so_far (at_stats l c) k = before_stat l c k
so_far (behind_name l c x) k = before_stat l c (name x ∷ k)
so_far (at_dot_name l c xs) k = before_stat l c (ids_rev xs k)
so_far (behind_dot_name l c xs y) k = before_stat l c (ids_rev xs (name y ∷ k))
so_far (at_local l c a) k = before_stat l c (type_token a ∷ k)
so_far (at_assign l c a x) k = before_stat l c (type_token a ∷ name x ∷ k)
so_far (at_construct l c x) k = before_stat l c (name x ∷ sign lpar ∷ k)
so_far (at_semicolon l c x es) k = before_stat l c (name x ∷ sign lpar ∷ yield_exps es (sign rpar ∷ k))
so_far (at_then_open l c e) k = before_stat l c (word w_if ∷ yield_exp e (word w_then ∷ k))
so_far (want p) k = before p k
so_far (after p e) k = before p (yield_exp e k)
so_far (behind_id p x) k = before p (name x ∷ k)
so_far (at_dot_id p xs) k = before p (ids_rev xs k)
so_far (behind_dot_id p xs y) k = before p (ids_rev xs (name y ∷ k))
so_far (at_args p x) k = before p (name x ∷ sign lpar ∷ k)
so_far (at_null_type p) k = before p (word w_null ∷ k)
so_far (at_item l r) k = before_item l r k
so_far (behind_execution l r x) k = before_item l r (name x ∷ k)
so_far (at_step_name l r x) k = before_item l r (name x ∷ sign dot_sign ∷ k)
so_far (at_fix_open l r) k = before_item l r (word w_fix ∷ k)
so_far (behind_item l r i) k = before_item l r (yield_item i k)
so_far dead k = []

-- Brackets ----------------------------------------------------------------------------------------

unfoldable pub FitsAll : List Exp → Type 0
FitsAll [] = Unit {0}
FitsAll (e ∷ es) = (Fits loosest e) × (FitsAll es)

unfoldable pub FitsBefore : List Stat → Type 0
FitsBefore [] = Unit {0}
FitsBefore (t ∷ ts) = (FitsStat t) × (FitsBefore ts)

unfoldable pub FitsStructs : List Struct → Type 0
FitsStructs [] = Unit {0}
FitsStructs (d ∷ ds) = (FitsStruct d) × (FitsStructs ds)

unfoldable pub SitsBody : Body → Type 0
SitsBody (in_step ds n ps ts x) = (FitsStructs ds) × (FitsSteps ts)
SitsBody (in_then e l c) = (Fits loosest e) × (FitsBefore l) × (SitsBody c)

-- the level of what may stand bare at a place; the operators that wait grow tighter
unfoldable pub room : Place → ℕ
room (in_brackets p) = loosest
room (in_negation p) = tightest
room (in_right o a p) = suc (level o)
room (in_constructor x es p) = loosest
room (in_construct x es l c) = loosest
room (in_if l c) = loosest
room (in_assignment a x l c) = loosest
room (in_update v l c) = loosest

unfoldable pub SitsPlace : Place → Type 0
SitsPlace (in_brackets p) = SitsPlace p
SitsPlace (in_negation p) = SitsPlace p
SitsPlace (in_right o a p) = (Fits (left o) a) × (room p ≤ level o) × (SitsPlace p)
SitsPlace (in_constructor x es p) = (FitsAll es) × (SitsPlace p)
SitsPlace (in_construct x es l c) = (FitsAll es) × (FitsBefore l) × (SitsBody c)
SitsPlace (in_if l c) = (FitsBefore l) × (SitsBody c)
SitsPlace (in_assignment a x l c) = (FitsBefore l) × (SitsBody c)
SitsPlace (in_update v l c) = (FitsBefore l) × (SitsBody c)

unfoldable pub SitsRow : Row → Type 0
SitsRow (in_program d) = FitsDefs d
SitsRow (in_fix l r) = SitsRow r

unfoldable pub Sits : State → Type 0
Sits (at_defs ds) = FitsStructs ds
Sits (at_struct ds) = FitsStructs ds
Sits (at_struct_open ds n) = FitsStructs ds
Sits (at_pars ds n) = FitsStructs ds
Sits (at_par ds n ps) = FitsStructs ds
Sits (at_colon ds n ps x) = FitsStructs ds
Sits (at_par_type ds n ps x) = FitsStructs ds
Sits (behind_par ds n ps q) = FitsStructs ds
Sits (at_steps_open ds n ps) = FitsStructs ds
Sits (at_steps ds n ps ts) = (FitsStructs ds) × (FitsSteps ts)
Sits (at_step_open ds n ps ts x) = (FitsStructs ds) × (FitsSteps ts)
Sits (at_stats l c) = (FitsBefore l) × (SitsBody c)
Sits (behind_name l c x) = (FitsBefore l) × (SitsBody c)
Sits (at_dot_name l c xs) = (FitsBefore l) × (SitsBody c)
Sits (behind_dot_name l c xs y) = (FitsBefore l) × (SitsBody c)
Sits (at_local l c a) = (FitsBefore l) × (SitsBody c)
Sits (at_assign l c a x) = (FitsBefore l) × (SitsBody c)
Sits (at_construct l c x) = (FitsBefore l) × (SitsBody c)
Sits (at_semicolon l c x es) = (FitsExps es) × (FitsBefore l) × (SitsBody c)
Sits (at_then_open l c e) = (Fits loosest e) × (FitsBefore l) × (SitsBody c)
Sits (want p) = SitsPlace p
Sits (after p e) = (Fits tightest e) × (SitsPlace p)
Sits (behind_id p x) = SitsPlace p
Sits (at_dot_id p xs) = SitsPlace p
Sits (behind_dot_id p xs y) = SitsPlace p
Sits (at_args p x) = SitsPlace p
Sits (at_null_type p) = SitsPlace p
Sits (at_item l r) = SitsRow r
Sits (behind_execution l r x) = SitsRow r
Sits (at_step_name l r x) = SitsRow r
Sits (at_fix_open l r) = SitsRow r
Sits (behind_item l r i) = SitsRow r
Sits dead = Unit {0}
