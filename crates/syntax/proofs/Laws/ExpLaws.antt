-- Reading is complete, for expressions: what an expression yields is read as it, wherever it stands.
use Rattle.std.specs.Prelude.{ℕ, suc, ◌≤◌, ◌≡◌, refl, true, false, List, [], ◌∷◌}
use Rattle.std.proofs.Common.{arith, ap, ◌∙◌, le-leb, ne_eqb}
use Rattle.std.proofs.lemmas.Bool.{lt-leb}
use Rattle.program.specs.Tree.{Op}
use Rattle.tokens.specs.Tokens.{Word.w_then, Sign.lpar, Sign.rpar, Sign.comma, Sign.semicolon, Sign.dot as dot_sign, Token, Token.word, Token.sign, Token.op}
use Rattle.syntax.specs.Syntax.{Id, TypeName, TypeName.int_type, TypeName.nat_type, TypeName.bool_type, TypeName.id_type, Literal}
use Rattle.syntax.specs.Syntax.{Literal.int_literal, Literal.nat_literal, Literal.bool_literal, Var, Var.id, Var.dot}
use Rattle.syntax.specs.Syntax.{Exp, Exp.binary, Exp.brackets, Exp.negation, Exp.constructor, Exp.variable, Exp.literal, Exp.null, Exp.this}
use Rattle.syntax.specs.Syntax.{Exps, Exps.no_exps, Exps.exps}
use Rattle.syntax.specs.Places.{Place, Place.in_brackets, Place.in_negation, Place.in_right, Place.in_constructor, Place.in_construct, Place.in_if}
use Rattle.syntax.specs.Places.{Place.in_assignment, Place.in_update}
use Rattle.syntax.specs.Places.{State}
use Rattle.syntax.specs.Places.{State.want, State.after, State.at_dot_id, State.at_args}
use Rattle.syntax.specs.Places.{var_onto, exps_onto}
use Rattle.syntax.specs.Expecting.{sign_number, on_sign, on_name, on_op}
use Rattle.syntax.specs.Yield.{type_token, literal_token, yield_var, yield_exp, yield_exps, yield_exp_list}
use Rattle.syntax.specs.Bracketing.{level, loosest, tightest, left, Fits, FitsExps}
use Rattle.syntax.specs.Reading.{least, extended, tighter, behind, wanted, step, run}
use Rattle.syntax.specs.SoFar.{room}
use Rattle.syntax.proofs.Laws.LevelLaws.{level_most, left_from, least_most}
use Rattle.syntax.specs.Unfold.{expecting, leaf_tokens}

-- a token that may follow an expression: none that a name at its end would go on with
pub record Follows (t : Token) : Type 0 where
  pub no_bracket : (s z : State) → on_sign lpar s z t ≡ z
  pub no_dot : (s z : State) → on_sign dot_sign s z t ≡ z

-- what e yields is read as e, where operators of level l may stand bare: at the place, and before the token behind it
abbrev pub Reads : ℕ → Exp → Type 0
Reads l e = (p : Place) (t : Token) (k : List Token) → Follows t → room p ≤ l → least t ≤ l → run (want p) (yield_exp e (t ∷ k)) ≡ run (behind p e t) k

pub follows_rpar : Follows (sign rpar)
unfolding on_sign sign_number
follows_rpar = record { no_bracket = λ s z. refl; no_dot = λ s z. refl }

pub follows_comma : Follows (sign comma)
unfolding on_sign sign_number
follows_comma = record { no_bracket = λ s z. refl; no_dot = λ s z. refl }

pub follows_semicolon : Follows (sign semicolon)
unfolding on_sign sign_number
follows_semicolon = record { no_bracket = λ s z. refl; no_dot = λ s z. refl }

pub follows_then : Follows (word w_then)
unfolding on_sign
follows_then = record { no_bracket = λ s z. refl; no_dot = λ s z. refl }

pub follows_op : (o : Op) → Follows (op o)
unfolding on_sign
follows_op o = record { no_bracket = λ s z. refl; no_dot = λ s z. refl }

-- Variables ------------------------------------------------------------------------------------

reads_dots : (v : Var) (xs : List Id) (p : Place) (t : Token) (k : List Token) → Follows t
    → run (at_dot_id p xs) (yield_var v (t ∷ k)) ≡ run (behind p (variable (var_onto xs v)) t) k
unfolding yield_var run step on_name on_sign sign_number var_onto
reads_dots (id x) xs p t k f = ap (λ s. run s k) (f.no_dot _ _)
reads_dots (dot x v) xs p t k f = reads_dots v (x ∷ xs) p t k f

reads_var : (l : ℕ) (v : Var) → Reads l (variable v)
unfolding yield_exp yield_var run step wanted on_name on_sign sign_number var_onto
reads_var l (id x) p t k f h g = ap (λ s. run s k) (f.no_bracket _ _ ∙ f.no_dot _ _)
reads_var l (dot x v) p t k f h g = reads_dots v (x ∷ []) p t k f

-- The others -----------------------------------------------------------------------------------

reads_literal : (l : ℕ) (a : Literal) → Reads l (literal a)
unfolding yield_exp run step wanted expecting leaf_tokens
reads_literal l (int_literal r ds) p t k f h g = refl
reads_literal l (nat_literal ds) p t k f h g = refl
reads_literal l (bool_literal true) p t k f h g = refl
reads_literal l (bool_literal false) p t k f h g = refl

reads_null : (l : ℕ) (a : TypeName) → Reads l (null a)
unfolding yield_exp run step wanted expecting leaf_tokens
reads_null l int_type p t k f h g = refl
reads_null l nat_type p t k f h g = refl
reads_null l bool_type p t k f h g = refl
reads_null l (id_type x) p t k f h g = refl

reads_this : (l : ℕ) → Reads l this
unfolding yield_exp run step wanted expecting leaf_tokens
reads_this l p t k f h g = refl

reads_brackets : (l : ℕ) (e : Exp) → Reads loosest e → Reads l (brackets e)
unfolding yield_exp run step wanted extended behind room least expecting leaf_tokens
reads_brackets l e r p t k f h g = r (in_brackets p) (sign rpar) (t ∷ k) follows_rpar (omega arith) (omega arith)

reads_negation : (l : ℕ) (e : Exp) → Reads tightest e → Reads l (negation e)
unfolding yield_exp run step wanted behind room expecting leaf_tokens
reads_negation l e r p t k f h g = r (in_negation p) t k f (omega arith) (least_most t)

-- an operator waits where looser ones wait, and takes its right operand where a looser one or none follows
waits : (o : Op) (a : Exp) (p : Place) → room p ≤ level o → behind p a (op o) ≡ want (in_right o a p)
unfolding behind extended tighter least on_op room
waits o a (in_brackets p) h = refl
waits o a (in_negation p) h = absurd (omega (arith, level_most o))
waits o a (in_right r b p) h =
    rw (lt-leb (left o) (level r) (omega (arith, left_from o)), behind, ne_eqb (level r) (level o) (omega arith), tighter) refl
waits o a (in_constructor x es p) h = refl
waits o a (in_construct x es l c) h = refl
waits o a (in_if l c) h = refl
waits o a (in_assignment b x l c) h = refl
waits o a (in_update v l c) h = refl

takes : (o : Op) (a b : Exp) (p : Place) (t : Token) → least t ≤ level o → behind (in_right o a p) b t ≡ behind p (binary o a b) t
unfolding behind
takes o a b p t h = rw (le-leb (least t) (level o) h, behind) refl

reads_binary : (l : ℕ) (o : Op) (a b : Exp) → l ≤ level o → Reads (left o) a → Reads (suc (level o)) b → Reads l (binary o a b)
unfolding yield_exp room least on_op
reads_binary l o a b m r q p t k f h g =
    r p (op o) (yield_exp b (t ∷ k)) (follows_op o) (omega (arith, left_from o)) (omega arith)
    ∙ ap (λ s. run s (yield_exp b (t ∷ k))) (waits o a p (omega arith))
    ∙ q (in_right o a p) t k f (omega arith) (omega arith)
    ∙ ap (λ s. run s k) (takes o a b p t (omega arith))

-- Arguments ------------------------------------------------------------------------------------

-- where arguments are read: before the first, behind some, and the state behind them all
pub record Args : Type 0 where
  pub start : State
  pub place : List Exp → Place
  pub outer : (es : List Exp) → room (place es) ≡ loosest
  pub finish : Exps → State
  pub empty : step start (sign rpar) ≡ finish no_exps
  pub enter : (t : Token) → ((s z : State) → on_sign rpar s z t ≡ z) → step start t ≡ wanted (place []) t
  pub more : (es : List Exp) (e : Exp) → behind (place es) e (sign comma) ≡ want (place (e ∷ es))
  pub last : (es : List Exp) (e : Exp) → behind (place es) e (sign rpar) ≡ finish (exps_onto es (exps e no_exps))

abbrev pub ReadsArgs : Exps → Type 0
ReadsArgs es = (A : Args) (k : List Token) → run A.start (yield_exps es (sign rpar ∷ k)) ≡ run (A.finish es) k

-- the arguments behind one that is read
abbrev ReadsList : Exps → Type 0
ReadsList es = (A : Args) (l : List Exp) (e : Exp) (k : List Token) → Reads loosest e
    → run (want (A.place l)) (yield_exp e (yield_exp_list es (sign rpar ∷ k))) ≡ run (A.finish (exps_onto l (exps e es))) k

list_ends : ReadsList no_exps
unfolding yield_exp_list least on_op
list_ends A l e k r = r (A.place l) (sign rpar) k follows_rpar (omega (arith, A.outer l)) (omega arith) ∙ ap (λ s. run s k) (A.last l e)

list_goes_on : (f : Exp) (es : Exps) → Reads loosest f → ReadsList es → ReadsList (exps f es)
unfolding yield_exp_list exps_onto least on_op
list_goes_on f es q rec A l e k r =
    r (A.place l) (sign comma) _ follows_comma (omega (arith, A.outer l)) (omega arith)
    ∙ ap (λ s. run s (yield_exp f (yield_exp_list es (sign rpar ∷ k)))) (A.more l e)
    ∙ rec A (e ∷ l) f k q

-- the first argument's first token is no closing bracket
enters : (e : Exp) (A : Args) (k : List Token) → run A.start (yield_exp e k) ≡ run (want (A.place [])) (yield_exp e k)
unfolding yield_exp yield_var run step on_sign sign_number leaf_tokens
enters (binary o a b) A k = enters a A (op o ∷ yield_exp b k)
enters (brackets e) A k = ap (λ s. run s (yield_exp e (sign rpar ∷ k))) (A.enter _ (λ s z. refl))
enters (negation e) A k = ap (λ s. run s (yield_exp e k)) (A.enter _ (λ s z. refl))
enters (constructor x es) A k = ap (λ s. run s (sign lpar ∷ yield_exps es (sign rpar ∷ k))) (A.enter _ (λ s z. refl))
enters (variable v) A k = go v
  where
    go : (v : Var) → run A.start (yield_var v k) ≡ run (want (A.place [])) (yield_var v k)
    go (id x) = ap (λ s. run s k) (A.enter _ (λ s z. refl))
    go (dot x w) = ap (λ s. run s (sign dot_sign ∷ yield_var w k)) (A.enter _ (λ s z. refl))
enters (literal l) A k = go l
  where
    go : (l : Literal) → run A.start (literal_token l ∷ k) ≡ run (want (A.place [])) (literal_token l ∷ k)
    go (int_literal r ds) = ap (λ s. run s k) (A.enter _ (λ s z. refl))
    go (nat_literal ds) = ap (λ s. run s k) (A.enter _ (λ s z. refl))
    go (bool_literal true) = ap (λ s. run s k) (A.enter _ (λ s z. refl))
    go (bool_literal false) = ap (λ s. run s k) (A.enter _ (λ s z. refl))
enters (null t) A k = ap (λ s. run s (type_token t ∷ k)) (A.enter _ (λ s z. refl))
enters this A k = ap (λ s. run s k) (A.enter _ (λ s z. refl))

args_none : ReadsArgs no_exps
unfolding yield_exps run
args_none A k = ap (λ s. run s k) A.empty

args_some : (e : Exp) (es : Exps) → Reads loosest e → ReadsList es → ReadsArgs (exps e es)
unfolding yield_exps exps_onto
args_some e es r rec A k = enters e A _ ∙ rec A [] e k r

-- of a constructor expression
args_of : Id → Place → Args
unfolding step extended behind room expecting leaf_tokens
args_of x p =
    record {
      start = at_args p x;
      place = λ es. in_constructor x es p;
      outer = λ es. refl;
      finish = λ es. after p (constructor x es);
      empty = refl;
      enter = λ t n. n _ _;
      more = λ es e. refl;
      last = λ es e. refl;
    }

reads_constructor : (l : ℕ) (x : Id) (es : Exps) → ReadsArgs es → Reads l (constructor x es)
unfolding yield_exp run step wanted args_of expecting leaf_tokens
reads_constructor l x es r p t k f h g = r (args_of x p) (t ∷ k)

-- Every expression -----------------------------------------------------------------------------

mutual
  pub reads : (e : Exp) (l : ℕ) → Fits l e → Reads l e
  reads (binary o a b) l f = reads_binary l o a b f.0 (reads a (left o) f.1) (reads b (suc (level o)) f.2)
  reads (brackets e) l f = reads_brackets l e (reads e loosest f)
  reads (negation e) l f = reads_negation l e (reads e tightest f)
  reads (constructor x es) l f = reads_constructor l x es (reads_args es f)
  reads (variable v) l f = reads_var l v
  reads (literal a) l f = reads_literal l a
  reads (null a) l f = reads_null l a
  reads this l f = reads_this l

  pub reads_args : (es : Exps) → FitsExps es → ReadsArgs es
  reads_args no_exps f = args_none
  reads_args (exps e es) f = args_some e es (reads e loosest f.0) (reads_list es f.1)

  reads_list : (es : Exps) → FitsExps es → ReadsList es
  reads_list no_exps f = list_ends
  reads_list (exps e es) f = list_goes_on e es (reads e loosest f.0) (reads_list es f.1)
