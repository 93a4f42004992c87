-- Reading, one token at a time and with no recursion over the text: what a token makes of a derivation in progress.
use Rattle.std.specs.Prelude.{ℕ, true, false, leb, eqb}
use mathlib.Core.List.{List, [], ◌∷◌, reverse_aux}
use Rattle.std.proofs.Math.Option.{Option, none, some}
use Rattle.program.specs.Tree.{Op}
use Rattle.tokens.specs.Tokens.{Word.w_struct, Word.w_if, Word.w_then, Word.w_null, Word.w_this, Word.w_fix, Sign.lpar, Sign.rpar, Sign.lbrace}
use Rattle.tokens.specs.Tokens.{Sign.rbrace, Sign.comma, Sign.colon, Sign.semicolon, Sign.assign, Sign.dot as dot_sign, Sign.bang, Token}
use Rattle.syntax.specs.Syntax.{TypeName.id_type, Var.id}
use Rattle.syntax.specs.Syntax.{Exp, Exp.binary, Exp.brackets, Exp.negation, Exp.constructor, Exp.variable, Exp.literal, Exp.null, Exp.this}
use Rattle.syntax.specs.Syntax.{Exps.no_exps, Exps.exps, Stat.if_then, Stat.assignment, Stat.update, Stat.construct, Stats, Stats.no_stats}
use Rattle.syntax.specs.Syntax.{Par.par, Step.step as a_step, Struct, Struct.struct, Defs.last_struct, Item, Item.execution}
use Rattle.syntax.specs.Syntax.{Item.typed_execution, Item.fixpoint, Sched.last_item, Program, Program.program}
use Rattle.syntax.specs.Bracketing.{level, loosest, left}
use Rattle.syntax.specs.Expecting.{on_word, on_sign, on_name, on_op, on_less, on_literal, on_type_word, on_type}
use Rattle.syntax.specs.Places.{Body, Body.in_step, Body.in_then, Place, Place.in_brackets, Place.in_negation, Place.in_right}
use Rattle.syntax.specs.Places.{Place.in_constructor, Place.in_construct, Place.in_if, Place.in_assignment, Place.in_update, Row}
use Rattle.syntax.specs.Places.{Row.in_program, Row.in_fix}
use Rattle.syntax.specs.Places.{State, State.at_defs, State.at_struct, State.at_struct_open, State.at_pars, State.at_par, State.at_colon}
use Rattle.syntax.specs.Places.{State.at_par_type, State.behind_par, State.at_steps_open, State.at_steps, State.at_step_open}
use Rattle.syntax.specs.Places.{State.at_stats, State.behind_name, State.at_dot_name, State.behind_dot_name, State.at_local, State.at_assign}
use Rattle.syntax.specs.Places.{State.at_construct, State.at_semicolon, State.at_then_open}
use Rattle.syntax.specs.Places.{State.want, State.after, State.behind_id, State.at_dot_id, State.behind_dot_id, State.at_args}
use Rattle.syntax.specs.Places.{State.at_null_type, State.at_item, State.behind_execution, State.at_step_name, State.at_fix_open}
use Rattle.syntax.specs.Places.{State.behind_item, State.dead}
use Rattle.syntax.specs.Places.{var_onto, exps_onto, stats_onto, defs_onto, sched_onto}

-- statements have ended
unfoldable pub closed : Stats → Body → State
closed b (in_step ds n ps ts x) = at_steps ds n ps (a_step x b ∷ ts)
closed b (in_then e l c) = at_stats (if_then e b ∷ l) c

-- the level of what may stand bare before a token
unfoldable pub least : Token → ℕ
least t = on_op (λ o. left o) loosest t

-- an operator behind an expression waits for its right operand
unfoldable pub extended : Place → Exp → State → Token → State
extended p e z t = on_op (λ o. want (in_right o e p)) z t

-- behind an operator that waits and its right operand, one that is tighter; at the same level these are two comparisons
unfoldable pub tighter : Op → Op → State → State
tighter o r s = elim (eqb (level o) (level r)) [ true ↦ dead | false ↦ s ]

-- a token behind an expression at its place; an operator that waits takes the expression, unless the token is a tighter one
unfoldable pub behind : Place → Exp → Token → State
behind (in_brackets p) e t = extended (in_brackets p) e (on_sign rpar (after p (brackets e)) dead t) t
behind (in_negation p) e t = behind p (negation e) t
behind (in_right o a p) e t =
    elim (leb (least t) (level o)) [
      | true ↦ behind p (binary o a e) t
      | false ↦ on_op (λ r. tighter o r (want (in_right r e (in_right o a p)))) dead t
    ]
behind (in_constructor x es p) e t =
    extended (in_constructor x es p) e
    (on_sign comma (want (in_constructor x (e ∷ es) p)) (on_sign rpar (after p (constructor x (exps_onto es (exps e no_exps)))) dead t) t) t
behind (in_construct x es l c) e t =
    extended (in_construct x es l c) e
    (on_sign comma (want (in_construct x (e ∷ es) l c)) (on_sign rpar (at_semicolon l c x (exps_onto es (exps e no_exps))) dead t) t) t
behind (in_if l c) e t = extended (in_if l c) e (on_word w_then (at_then_open l c e) dead t) t
behind (in_assignment a x l c) e t = extended (in_assignment a x l c) e (on_sign semicolon (at_stats (assignment a x e ∷ l) c) dead t) t
behind (in_update v l c) e t = extended (in_update v l c) e (on_sign semicolon (at_stats (update v e ∷ l) c) dead t) t

-- a token where an expression is wanted
unfoldable pub wanted : Place → Token → State
wanted p t =
    on_name (λ x. behind_id p x)
    (on_sign lpar (want (in_brackets p))
    (on_sign bang (want (in_negation p))
    (on_literal (λ l. after p (literal l)) (on_word w_null (at_null_type p) (on_word w_this (after p this) dead t) t) t) t) t) t

-- where an item is wanted; behind one
unfoldable pub item_wanted : List Item → Row → Token → State
item_wanted l r t = on_name (λ x. behind_execution l r x) (on_word w_fix (at_fix_open l r) dead t) t

unfoldable pub item_behind : List Item → Row → Item → Token → State
item_behind l (in_program d) i t = on_less (at_item (i ∷ l) (in_program d)) dead t
item_behind l (in_fix m r) i t =
    on_less (at_item (i ∷ l) (in_fix m r)) (on_sign rpar (behind_item m r (fixpoint (sched_onto l (last_item i)))) dead t) t

-- where a struct or, behind one, the schedule begins
unfoldable pub begun : List Struct → Token → State
begun [] t = on_word w_struct (at_struct []) dead t
begun (d ∷ ds) t = on_word w_struct (at_struct (d ∷ ds)) (item_wanted [] (in_program (defs_onto ds (last_struct d))) t) t

unfoldable pub step : State → Token → State
step (at_defs ds) t = begun ds t
step (at_struct ds) t = on_name (λ x. at_struct_open ds x) dead t
step (at_struct_open ds n) t = on_sign lpar (at_pars ds n) dead t
step (at_pars ds n) t = on_sign rpar (at_steps_open ds n []) (on_name (λ x. at_colon ds n [] x) dead t) t
step (at_par ds n ps) t = on_name (λ x. at_colon ds n ps x) dead t
step (at_colon ds n ps x) t = on_sign colon (at_par_type ds n ps x) dead t
step (at_par_type ds n ps x) t = on_type (λ a. behind_par ds n ps (par x a)) dead t
step (behind_par ds n ps q) t = on_sign comma (at_par ds n (q ∷ ps)) (on_sign rpar (at_steps_open ds n (reverse_aux ps (q ∷ []))) dead t) t
step (at_steps_open ds n ps) t = on_sign lbrace (at_steps ds n ps []) dead t
step (at_steps ds n ps ts) t = on_name (λ x. at_step_open ds n ps ts x) (on_sign rbrace (at_defs (struct n ps (reverse_aux ts []) ∷ ds)) dead t) t
step (at_step_open ds n ps ts x) t = on_sign lbrace (at_stats [] (in_step ds n ps ts x)) dead t
step (at_stats l c) t =
    on_word w_if (want (in_if l c))
    (on_type_word (λ a. at_local l c a) (on_name (λ x. behind_name l c x) (on_sign rbrace (closed (stats_onto l no_stats) c) dead t) t) t) t
step (behind_name l c x) t =
    on_name (λ y. at_assign l c (id_type x) y)
    (on_sign assign (want (in_update (id x) l c)) (on_sign dot_sign (at_dot_name l c (x ∷ [])) (on_sign lpar (at_construct l c x) dead t) t) t) t
step (at_dot_name l c xs) t = on_name (λ y. behind_dot_name l c xs y) dead t
step (behind_dot_name l c xs y) t = on_sign dot_sign (at_dot_name l c (y ∷ xs)) (on_sign assign (want (in_update (var_onto xs (id y)) l c)) dead t) t
step (at_local l c a) t = on_name (λ x. at_assign l c a x) dead t
step (at_assign l c a x) t = on_sign assign (want (in_assignment a x l c)) dead t
step (at_construct l c x) t = on_sign rpar (at_semicolon l c x no_exps) (wanted (in_construct x [] l c) t) t
step (at_semicolon l c x es) t = on_sign semicolon (at_stats (construct x es ∷ l) c) dead t
step (at_then_open l c e) t = on_sign lbrace (at_stats [] (in_then e l c)) dead t
step (want p) t = wanted p t
step (after p e) t = behind p e t
step (behind_id p x) t = on_sign lpar (at_args p x) (on_sign dot_sign (at_dot_id p (x ∷ [])) (behind p (variable (id x)) t) t) t
step (at_dot_id p xs) t = on_name (λ y. behind_dot_id p xs y) dead t
step (behind_dot_id p xs y) t = on_sign dot_sign (at_dot_id p (y ∷ xs)) (behind p (variable (var_onto xs (id y))) t) t
step (at_args p x) t = on_sign rpar (after p (constructor x no_exps)) (wanted (in_constructor x [] p) t) t
step (at_null_type p) t = on_type (λ a. after p (null a)) dead t
step (at_item l r) t = item_wanted l r t
step (behind_execution l r x) t = on_sign dot_sign (at_step_name l r x) (item_behind l r (execution x) t) t
step (at_step_name l r x) t = on_name (λ y. behind_item l r (typed_execution x y)) dead t
step (at_fix_open l r) t = on_sign lpar (at_item [] (in_fix l r)) dead t
step (behind_item l r i) t = item_behind l r i t
step dead t = dead

unfoldable pub run : State → List Token → State
run s [] = s
run s (t ∷ ts) = run (step s t) ts

-- the derivation at the end of the tokens, where an item of the schedule was read last
unfoldable pub whole : List Item → Row → Item → Option Program
whole l (in_program d) i = some (program d (sched_onto l (last_item i)))
whole l (in_fix m r) i = none

unfoldable pub ended : State → Option Program
ended (behind_execution l r x) = whole l r (execution x)
ended (behind_item l r i) = whole l r i
ended (at_defs ds) = none
ended (at_struct ds) = none
ended (at_struct_open ds n) = none
ended (at_pars ds n) = none
ended (at_par ds n ps) = none
ended (at_colon ds n ps x) = none
ended (at_par_type ds n ps x) = none
ended (behind_par ds n ps q) = none
ended (at_steps_open ds n ps) = none
ended (at_steps ds n ps ts) = none
ended (at_step_open ds n ps ts x) = none
ended (at_stats l c) = none
ended (behind_name l c x) = none
ended (at_dot_name l c xs) = none
ended (behind_dot_name l c xs y) = none
ended (at_local l c a) = none
ended (at_assign l c a x) = none
ended (at_construct l c x) = none
ended (at_semicolon l c x es) = none
ended (at_then_open l c e) = none
ended (want p) = none
ended (after p e) = none
ended (behind_id p x) = none
ended (at_dot_id p xs) = none
ended (behind_dot_id p xs y) = none
ended (at_args p x) = none
ended (at_null_type p) = none
ended (at_item l r) = none
ended (at_step_name l r x) = none
ended (at_fix_open l r) = none
ended dead = none

-- what the tokens are read as
unfoldable pub read : List Token → Option Program
read ts = ended (run (at_defs []) ts)
