-- The shape of a state moves as the state does, and the kinds of tokens are enough to tell: reading comes to a derivation exactly where the shape ends.
use Rattle.std.specs.Prelude.{ℕ, ◌<◌, ◌≤◌, ◌≡◌, Bool, List, [], ◌∷◌}
use Rattle.std.proofs.Common.{arith, sym, ◌∙◌}
use Rattle.std.proofs.Math.Path.{refl}
use Rattle.std.proofs.Math.Bool.{true, false}
use Rattle.std.proofs.Math.Dec.{leb, eqb}
use borrow.Author.Tests.{leb-true, leb-false, eqb-true, eqb-false}
use Rattle.program.specs.Tree.{Op}
use Rattle.tokens.specs.Tokens.{Word.w_struct, Word.w_if, Word.w_then, Word.w_null, Word.w_this, Word.w_fix}
use Rattle.tokens.specs.Tokens.{Sign.lpar, Sign.rpar, Sign.lbrace, Sign.rbrace, Sign.comma, Sign.colon, Sign.semicolon, Sign.assign, Sign.dot as dot_sign}
use Rattle.tokens.specs.Tokens.{Sign.bang, Token, Token.word, Token.sign, Token.op, Token.name, Token.int, Token.nat}
use Rattle.syntax.specs.Syntax.{Var.id}
use Rattle.syntax.specs.Syntax.{Exp, Exp.binary, Exp.negation, Exp.variable, Stats, Stats.no_stats, Item, Item.execution, Defs.last_struct}
use Rattle.syntax.specs.Bracketing.{level, left}
use Rattle.syntax.specs.Expecting.{sign_number, on_sign, on_op}
use Rattle.syntax.proofs.Laws.LevelLaws.{left_from}
use Rattle.syntax.specs.Places.{Body, Body.in_step, Body.in_then, Place, Place.in_brackets, Place.in_negation, Place.in_right, Place.in_constructor}
use Rattle.syntax.specs.Places.{Place.in_construct, Place.in_if, Place.in_assignment, Place.in_update, Row, Row.in_program, Row.in_fix}
use Rattle.syntax.specs.Places.{State, State.at_defs, State.at_struct, State.at_struct_open, State.at_pars, State.at_par, State.at_colon, State.at_par_type}
use Rattle.syntax.specs.Places.{State.behind_par, State.at_steps_open, State.at_steps, State.at_step_open}
use Rattle.syntax.specs.Places.{State.at_stats, State.behind_name, State.at_dot_name, State.behind_dot_name, State.at_local, State.at_assign}
use Rattle.syntax.specs.Places.{State.at_construct, State.at_semicolon, State.at_then_open}
use Rattle.syntax.specs.Places.{State.want, State.after, State.behind_id, State.at_dot_id, State.behind_dot_id, State.at_args, State.at_null_type}
use Rattle.syntax.specs.Places.{State.at_item, State.behind_execution, State.at_step_name, State.at_fix_open, State.behind_item, State.dead}
use Rattle.syntax.specs.Places.{var_onto, stats_onto, defs_onto}
use Rattle.syntax.specs.Reading.{closed, least, extended, tighter, behind, wanted, item_wanted, item_behind, begun, step}
use Rattle.text_shape.specs.Shape.{defs_code, code_of, open_body, turn, compared, open_at, open_place, open_row, open_of, Shape.shape, shape_of, on_exp}
use Rattle.text_shape.specs.Shape.{on_item, past_item, acts, act}
use Rattle.text_shape.specs.Shape.{acted, acted_below, moved, move}
use Rattle.text_shape.proofs.Laws.BothLaws.{word_both, sign_both, name_both, op_both, less_both, literal_both, type_word_both, type_both}
use Rattle.text_shape.proofs.Laws.SiteLaws.{clash_none, clash_two, below_goes, below_stops, below_same, Sited, sited}
use Rattle.text_shape.specs.declared.Act.{Act}
use Rattle.text_shape.specs.declared.Act.TheVariants.{Go, Open, Below, Stop}
use Rattle.text_shape.specs.CodeNames.{dead_code, at_semicolon_code, after_code, behind_item_code, in_fix_code, in_brackets_code}
use Rattle.text_shape.specs.CodeNames.{in_constructor_code, in_construct_code, in_if_code, in_value_code}

-- What an act says of the state that it leads to -----------------------------------------------------

data Leads (st : List ℕ) (t : Token) (s : State) : Act → Type 0 where
  goes : {q : ℕ} → code_of s ≡ q → open_of s ≡ st → Leads st t s (Go q)
  opens : {q r : ℕ} → code_of s ≡ q → open_of s ≡ r ∷ st → Leads st t s (Open q r)
  sinks : shape_of s ≡ acted_below st t → Leads st t s Below
  stops : shape_of s ≡ shape dead_code [] → Leads st t s Stop

shape_as : (s : State) (q : ℕ) (st : List ℕ) → code_of s ≡ q → open_of s ≡ st → shape_of s ≡ shape q st
shape_as s q st d e = rw (d, e) refl

leads_moved : (s : State) (a : Act) (st : List ℕ) (t : Token) → Leads st t s a → shape_of s ≡ moved a st t
unfolding moved
leads_moved s (Go q) st t (goes d e) = shape_as s q st d e
leads_moved s (Open q r) st t (opens d e) = shape_as s q (r ∷ st) d e
leads_moved s Below st t (sinks e) = e
leads_moved s Stop st t (stops e) = e

-- the same where what is opened last hands nothing on
data Does (st : List ℕ) (s : State) : Act → Type 0 where
  does_go : {q : ℕ} → code_of s ≡ q → open_of s ≡ st → Does st s (Go q)
  does_open : {q r : ℕ} → code_of s ≡ q → open_of s ≡ r ∷ st → Does st s (Open q r)
  does_stop : shape_of s ≡ shape dead_code [] → Does st s Stop

does_acted : (s : State) (a : Act) (st : List ℕ) → Does st s a → shape_of s ≡ acted a st
unfolding acted
does_acted s (Go q) st (does_go d e) = shape_as s q st d e
does_acted s (Open q r) st (does_open d e) = shape_as s q (r ∷ st) d e
does_acted s Stop st (does_stop e) = e
does_acted s Below st x' = elim x' [ ]

abbrev LeadsAt : List ℕ → Token → State → Act → Type 0
LeadsAt st t s a = Leads st t s a

abbrev DoesAt : List ℕ → Token → State → Act → Type 0
DoesAt st t s a = Does st s a

lost : {st : List ℕ} {t : Token} → Leads st t dead Stop
unfolding code_of open_of
lost = stops refl

gone : {st : List ℕ} → Does st dead Stop
unfolding code_of open_of
gone = does_stop refl

-- What was opened last -----------------------------------------------------------------------------------

-- behind an operator that waits: it takes its operand, or the token is a tighter operator
module _ (o : Op) (a : Exp) (p : Place) (e : Exp) (s : Sited p) where
  abbrev bit : Bool
  bit = turn (compared p) o

  took_below : (t : Token) → least t ≤ level o → acted_below (open_at (compared p) p) t ≡ acted_below (open_at bit p) t
  took_below t l = rw (s.opened (compared p), s.opened bit) (sym (below_same s.site s.rest (compared p) o t l))

  tight_below : (r : Op) → level o < left r → shape_of (tighter o r (want (in_right r e (in_right o a p)))) ≡ acted_below (open_at bit p) (op r)
  unfolding tighter code_of open_of open_place
  tight_below r l = go (eqb (level o) (level r)) refl
    where
      go : (x : Bool) → eqb (level o) (level r) ≡ x
          → shape_of (tighter o r (want (in_right r e (in_right o a p)))) ≡ acted_below (open_at bit p) (op r)
      go true u =
          rw (u, tighter, s.opened bit) (sym (below_stops s.site s.rest bit r (clash_two (compared p) o r (eqb-true (level o) (level r) u) l)))
      go false u =
          rw (u, tighter, s.opened bit, s.opened (turn bit r))
          (sym (below_goes s.site s.rest bit r
          (clash_none (compared p) o r (omega (arith, left_from r, eqb-false (level o) (level r) u)))))

  tighter_below : (t : Token) → level o < least t
      → shape_of (on_op (λ r. tighter o r (want (in_right r e (in_right o a p)))) dead t) ≡ acted_below (open_at bit p) t
  unfolding least on_op
  tighter_below (op r) l = tight_below r l
  tighter_below (word v) l = absurd (omega arith)
  tighter_below (sign g) l = absurd (omega arith)
  tighter_below (name x) l = absurd (omega arith)
  tighter_below (int r ds) l = absurd (omega arith)
  tighter_below (nat ds) l = absurd (omega arith)

  waits_below : (t : Token) → shape_of (behind p (binary o a e) t) ≡ acted_below (open_place p) t
      → shape_of (behind (in_right o a p) e t) ≡ acted_below (open_place (in_right o a p)) t
  unfolding behind open_place
  waits_below t h = go (leb (least t) (level o)) refl
    where
      go : (x : Bool) → leb (least t) (level o) ≡ x → shape_of (behind (in_right o a p) e t) ≡ acted_below (open_at bit p) t
      go true u = rw (u, behind) (h ∙ took_below t (leb-true (least t) (level o) u))
      go false u = rw (u, behind) (tighter_below t (leb-false (least t) (level o) u))

-- a token behind an expression goes to it
behind_below : (p : Place) (e : Exp) (t : Token) → shape_of (behind p e t) ≡ acted_below (open_place p) t
unfolding behind extended open_place acted_below act acts code_of open_of
behind_below (in_brackets p) e t =
    does_acted (behind (in_brackets p) e t) (act in_brackets_code t) (open_place p)
    (op_both (DoesAt (open_place p)) t (λ o. does_open refl refl) (sign_both (DoesAt (open_place p)) rpar t (does_go refl refl) gone))
behind_below (in_negation p) e t = behind_below p (negation e) t
behind_below (in_right o a p) e t = waits_below o a p e (sited p) t (behind_below p (binary o a e) t)
behind_below (in_constructor x es p) e t =
    does_acted (behind (in_constructor x es p) e t) (act in_constructor_code t) (open_place p)
    (op_both (DoesAt (open_place p)) t (λ o. does_open refl refl)
    (sign_both (DoesAt (open_place p)) comma t (does_open refl refl) (sign_both (DoesAt (open_place p)) rpar t (does_go refl refl) gone)))
behind_below (in_construct x es l c) e t =
    does_acted (behind (in_construct x es l c) e t) (act in_construct_code t) (open_body c)
    (op_both (DoesAt (open_body c)) t (λ o. does_open refl refl)
    (sign_both (DoesAt (open_body c)) comma t (does_open refl refl) (sign_both (DoesAt (open_body c)) rpar t (does_go refl refl) gone)))
behind_below (in_if l c) e t =
    does_acted (behind (in_if l c) e t) (act in_if_code t) (open_body c)
    (op_both (DoesAt (open_body c)) t (λ o. does_open refl refl) (word_both (DoesAt (open_body c)) w_then t (does_go refl refl) gone))
behind_below (in_assignment a x l c) e t =
    does_acted (behind (in_assignment a x l c) e t) (act in_value_code t) (open_body c)
    (op_both (DoesAt (open_body c)) t (λ o. does_open refl refl) (sign_both (DoesAt (open_body c)) semicolon t (does_go refl refl) gone))
behind_below (in_update v l c) e t =
    does_acted (behind (in_update v l c) e t) (act in_value_code t) (open_body c)
    (op_both (DoesAt (open_body c)) t (λ o. does_open refl refl) (sign_both (DoesAt (open_body c)) semicolon t (does_go refl refl) gone))

-- a body is closed; arguments and a Fix too
closed_below : (b : Stats) (c : Body) → shape_of (closed b c) ≡ acted_below (open_body c) (sign rbrace)
unfolding closed open_body acted_below act acts acted on_sign sign_number code_of open_of
closed_below b (in_step ds n ps ts x) = refl
closed_below b (in_then e l c) = refl

module _ (st : List ℕ) where
  args_below : shape after_code st ≡ acted_below (in_constructor_code ∷ st) (sign rpar)
  unfolding acted_below act acts acted on_op on_sign sign_number
  args_below = refl

  statement_args_below : shape at_semicolon_code st ≡ acted_below (in_construct_code ∷ st) (sign rpar)
  unfolding acted_below act acts acted on_op on_sign sign_number
  statement_args_below = refl

  fix_below : shape behind_item_code st ≡ acted_below (in_fix_code ∷ st) (sign rpar)
  unfolding acted_below act acts acted on_sign sign_number
  fix_below = refl

-- nothing is open
none_open : (t : Token) → Leads [] t dead (on_sign rpar Below Stop t)
unfolding on_sign code_of open_of acted_below
none_open (sign h) = go (eqb (sign_number rpar) (sign_number h)) refl
  where
    go : (x : Bool) → eqb (sign_number rpar) (sign_number h) ≡ x → Leads [] (sign h) dead (on_sign rpar Below Stop (sign h))
    go true e = rw (e, on_sign) (sinks refl)
    go false e = rw (e, on_sign) (stops refl)
none_open (word v) = stops refl
none_open (op o) = stops refl
none_open (name x) = stops refl
none_open (int r ds) = stops refl
none_open (nat ds) = stops refl

-- Every state ------------------------------------------------------------------------------------------------

wanted_leads : (p : Place) (t : Token) → Leads (open_place p) t (wanted p t) (on_exp t)
unfolding wanted on_exp code_of open_of open_place
wanted_leads p t =
    let P = LeadsAt (open_place p) in
    name_both P t (λ x. goes refl refl)
    (sign_both P lpar t (opens refl refl)
    (sign_both P bang t (goes refl refl)
    (literal_both P t (λ l. goes refl refl) (word_both P w_null t (goes refl refl) (word_both P w_this t (goes refl refl) lost)))))

item_leads : (l : List Item) (r : Row) (t : Token) → Leads (open_row r) t (item_wanted l r t) (on_item t)
unfolding item_wanted on_item code_of open_of
item_leads l r t = name_both (LeadsAt (open_row r)) t (λ x. goes refl refl) (word_both (LeadsAt (open_row r)) w_fix t (goes refl refl) lost)

past_leads : (l : List Item) (r : Row) (i : Item) (t : Token) → Leads (open_row r) t (item_behind l r i t) (past_item t)
unfolding item_behind past_item code_of open_of open_row
past_leads l (in_program d) i t = less_both (LeadsAt []) t (goes refl refl) (none_open t)
past_leads l (in_fix m r) i t =
    less_both (LeadsAt (in_fix_code ∷ open_row r)) t (goes refl refl)
    (sign_both (LeadsAt (in_fix_code ∷ open_row r)) rpar t (sinks (fix_below (open_row r))) lost)

step_leads : (s : State) (t : Token) → Leads (open_of s) t (step s t) (act (code_of s) t)
unfolding step act acts code_of open_of open_place open_body open_row begun defs_code
step_leads (at_defs []) t = word_both (LeadsAt []) w_struct t (goes refl refl) lost
step_leads (at_defs (d ∷ ds)) t = word_both (LeadsAt []) w_struct t (goes refl refl) (item_leads [] (in_program (defs_onto ds (last_struct d))) t)
step_leads (at_struct ds) t = name_both (LeadsAt []) t (λ x. goes refl refl) lost
step_leads (at_struct_open ds n) t = sign_both (LeadsAt []) lpar t (goes refl refl) lost
step_leads (at_pars ds n) t = sign_both (LeadsAt []) rpar t (goes refl refl) (name_both (LeadsAt []) t (λ x. goes refl refl) lost)
step_leads (at_par ds n ps) t = name_both (LeadsAt []) t (λ x. goes refl refl) lost
step_leads (at_colon ds n ps x) t = sign_both (LeadsAt []) colon t (goes refl refl) lost
step_leads (at_par_type ds n ps x) t = type_both (LeadsAt []) t (λ a. goes refl refl) lost
step_leads (behind_par ds n ps q) t = sign_both (LeadsAt []) comma t (goes refl refl) (sign_both (LeadsAt []) rpar t (goes refl refl) lost)
step_leads (at_steps_open ds n ps) t = sign_both (LeadsAt []) lbrace t (goes refl refl) lost
step_leads (at_steps ds n ps ts) t = name_both (LeadsAt []) t (λ x. goes refl refl) (sign_both (LeadsAt []) rbrace t (goes refl refl) lost)
step_leads (at_step_open ds n ps ts x) t = sign_both (LeadsAt []) lbrace t (opens refl refl) lost
step_leads (at_stats l c) t =
    let P = LeadsAt (open_body c) in
    word_both P w_if t (opens refl refl)
    (type_word_both P t (λ a. goes refl refl)
    (name_both P t (λ x. goes refl refl) (sign_both P rbrace t (sinks (closed_below (stats_onto l no_stats) c)) lost)))
step_leads (behind_name l c x) t =
    let P = LeadsAt (open_body c) in
    name_both P t (λ y. goes refl refl)
    (sign_both P assign t (opens refl refl) (sign_both P dot_sign t (goes refl refl) (sign_both P lpar t (opens refl refl) lost)))
step_leads (at_dot_name l c xs) t = name_both (LeadsAt (open_body c)) t (λ y. goes refl refl) lost
step_leads (behind_dot_name l c xs y) t =
    sign_both (LeadsAt (open_body c)) dot_sign t (goes refl refl) (sign_both (LeadsAt (open_body c)) assign t (opens refl refl) lost)
step_leads (at_local l c a) t = name_both (LeadsAt (open_body c)) t (λ x. goes refl refl) lost
step_leads (at_assign l c a x) t = sign_both (LeadsAt (open_body c)) assign t (opens refl refl) lost
step_leads (at_construct l c x) t =
    sign_both (LeadsAt (in_construct_code ∷ open_body c)) rpar t (sinks (statement_args_below (open_body c))) (wanted_leads (in_construct x [] l c) t)
step_leads (at_semicolon l c x es) t = sign_both (LeadsAt (open_body c)) semicolon t (goes refl refl) lost
step_leads (at_then_open l c e) t = sign_both (LeadsAt (open_body c)) lbrace t (opens refl refl) lost
step_leads (want p) t = wanted_leads p t
step_leads (after p e) t = sinks (behind_below p e t)
step_leads (behind_id p x) t =
    sign_both (LeadsAt (open_place p)) lpar t (opens refl refl)
    (sign_both (LeadsAt (open_place p)) dot_sign t (goes refl refl) (sinks (behind_below p (variable (id x)) t)))
step_leads (at_dot_id p xs) t = name_both (LeadsAt (open_place p)) t (λ y. goes refl refl) lost
step_leads (behind_dot_id p xs y) t =
    sign_both (LeadsAt (open_place p)) dot_sign t (goes refl refl) (sinks (behind_below p (variable (var_onto xs (id y))) t))
step_leads (at_args p x) t =
    sign_both (LeadsAt (in_constructor_code ∷ open_place p)) rpar t (sinks (args_below (open_place p))) (wanted_leads (in_constructor x [] p) t)
step_leads (at_null_type p) t = type_both (LeadsAt (open_place p)) t (λ a. goes refl refl) lost
step_leads (at_item l r) t = item_leads l r t
step_leads (behind_execution l r x) t = sign_both (LeadsAt (open_row r)) dot_sign t (goes refl refl) (past_leads l r (execution x) t)
step_leads (at_step_name l r x) t = name_both (LeadsAt (open_row r)) t (λ y. goes refl refl) lost
step_leads (at_fix_open l r) t = sign_both (LeadsAt (open_row r)) lpar t (opens refl refl) lost
step_leads (behind_item l r i) t = past_leads l r i t
step_leads dead t = lost

pub step_shape : (s : State) (t : Token) → shape_of (step s t) ≡ move (shape_of s) t
unfolding move
step_shape s t = leads_moved (step s t) (act (code_of s) t) (open_of s) t (step_leads s t)
