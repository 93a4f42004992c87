-- The roles from codes and kinds are those that the grammar gives: expressions, by the derivation alone.
use Rattle.std.specs.Prelude.{ℕ, suc, ◌<◌, ◌≤◌, ◌≡◌, Bool, true, false, List, ◌∷◌, map}
use Rattle.std.proofs.Common.{arith, ◌∙◌}
use Rattle.std.proofs.Math.Path.{refl, sym, ap}
use Rattle.std.proofs.lemmas.Bool.{false≢true}
use Rattle.program.specs.Tree.{Op, Op.op_eq, Op.op_ne, Op.op_le, Op.op_ge, Op.op_lt, Op.op_gt, Op.op_mul, Op.op_div, Op.op_rem, Op.op_add, Op.op_sub, Op.op_and}
use Rattle.program.specs.Tree.{Op.op_or}
use Rattle.tokens.specs.Tokens.{Sign.rpar, Token, Token.sign, Token.op}
use Rattle.syntax.specs.Syntax.{Id, TypeName, TypeName.int_type, TypeName.nat_type, TypeName.bool_type, TypeName.id_type, Literal, Literal.int_literal}
use Rattle.syntax.specs.Syntax.{Literal.nat_literal, Literal.bool_literal, Var, Var.id, Var.dot}
use Rattle.syntax.specs.Syntax.{Exp, Exp.binary, Exp.brackets, Exp.negation, Exp.constructor, Exp.variable, Exp.literal, Exp.null, Exp.this, Exps, Exps.no_exps}
use Rattle.syntax.specs.Syntax.{Exps.exps}
use Rattle.syntax.specs.Expecting.{sign_number, word_number, on_word, on_op, literal_word, on_literal}
use Rattle.syntax.specs.Yield.{type_token, literal_token, yield_var, yield_exp, yield_exps, yield_exp_list}
use Rattle.syntax.specs.Bracketing.{level, loosest, comparisons, tightest, left, Fits, FitsExps}
use Rattle.syntax.specs.Reading.{least}
use Rattle.syntax.proofs.Laws.LevelLaws.{left_from, least_most}
use Rattle.tokens.specs.Kinds.{word_kind, sign_kind, op_kind, kind}
use Rattle.text_shape.specs.Roles.{Part.args_close, Role, Role.part, naming_code, code, roles_later}
use Rattle.text_shape.specs.Roles.{roles_var, close_of, roles_exp, roles_exps, roles_exp_list}
use Rattle.text_shape.specs.Shape.{Shape, Shape.shape, on_exp, on_item, past_item, acts, act, acted, acted_below, moved, move, samples, sample}
use Rattle.text_shape.specs.Shape.{turn, spot, clash}
use Rattle.text_shape.proofs.Laws.KindShapeLaws.{sample_move}
use Rattle.text_shape.proofs.Laws.SiteLaws.{Site, Site.brackets_site, Site.args_site, Site.statement_site, Site.if_site, Site.value_site}
use Rattle.text_shape.proofs.Laws.SiteLaws.{turn_tight, clash_tight}
use Rattle.text_shape.proofs.Laws.SiteLaws.{below_goes, below_same}
use Rattle.text_shape.specs.RoleMarks.{by_kind, mark, said, said_below, role, waits, other_role, kept_or}
use Rattle.text_shape.specs.RoleMarks.{by_next, settled, role_codes}
use Rattle.text_shape.specs.CodeNames.{want_code, after_code, behind_id_code, at_dot_id_code, behind_dot_id_code, at_args_code}
use Rattle.text_shape.specs.CodeNames.{in_constructor_code}
use Rattle.text_shape.specs.RoleNames.{first_read_role, later_variable_role, made_role, null_int_role, null_nat_role, null_bool_role}
use Rattle.text_shape.specs.RoleNames.{null_struct_role, brackets_open_role, brackets_close_role, args_open_role, args_close_role}
use Rattle.text_shape.specs.RoleNames.{no_args_close_role, arg_comma_role}
use Rattle.tokens.specs.KindNames.{then_kind, null_kind, this_kind, true_kind, false_kind, rpar_kind, comma_kind, semicolon_kind, dot_kind, bang_kind}
use Rattle.tokens.specs.KindNames.{name_kind, int_kind, nat_kind}

-- `role_codes`, with all that it computes with
unfoldable found_roles : Shape → List ℕ → List ℕ
unfolding mark said said_below role waits other_role kept_or by_next settled role_codes sign_kind word_kind op_kind kind code
found_roles s ks = role_codes s ks

unfoldable pub found : Shape → List ℕ → List ℕ
unfolding act acts on_exp on_item past_item acted acted_below moved move samples sample on_word word_number on_literal literal_word found_roles
found s ks = found_roles s ks

-- from a shape on, the tokens have the roles rs
pub data Comes (q : ℕ) (st : List ℕ) (ts : List Token) (rs : List Role) : Type 0 where
  comes : found (shape q st) (map kind ts) ≡ map code rs → Comes q st ts rs

pub codes : {q : ℕ} {st : List ℕ} {ts : List Token} {rs : List Role} → Comes q st ts rs → found (shape q st) (map kind ts) ≡ map code rs
codes (comes e) = e

-- one more in front
pub onto : (n : ℕ) {xs ys : List ℕ} → xs ≡ ys → ◌≡◌ {A = List ℕ} (n ∷ xs) (n ∷ ys)
onto n e = ap (λ l. n ∷ l) e

-- What follows an expression ---------------------------------------------------------------------

-- behind an expression that ends in a name, a token of kind k is met as behind any other
pub record Follows (k : ℕ) : Type 0 where
  pub behind_name : (st ks : List ℕ) → found (shape behind_id_code st) (k ∷ ks) ≡ found (shape after_code st) (k ∷ ks)
  pub behind_later : (st ks : List ℕ) → found (shape behind_dot_id_code st) (k ∷ ks) ≡ found (shape after_code st) (k ∷ ks)
  pub keeps : kept_or first_read_role (other_role behind_id_code k) ≡ first_read_role

pub follows_rpar : Follows rpar_kind
unfolding found
follows_rpar = record { behind_name = λ st ks. refl; behind_later = λ st ks. refl; keeps = refl }

pub follows_comma : Follows comma_kind
unfolding found
follows_comma = record { behind_name = λ st ks. refl; behind_later = λ st ks. refl; keeps = refl }

pub follows_semicolon : Follows semicolon_kind
unfolding found
follows_semicolon = record { behind_name = λ st ks. refl; behind_later = λ st ks. refl; keeps = refl }

pub follows_then : Follows then_kind
unfolding found
follows_then = record { behind_name = λ st ks. refl; behind_later = λ st ks. refl; keeps = refl }

pub follows_op : (o : Op) → Follows (op_kind o)
unfolding found
follows_op op_eq = record { behind_name = λ st ks. refl; behind_later = λ st ks. refl; keeps = refl }
follows_op op_ne = record { behind_name = λ st ks. refl; behind_later = λ st ks. refl; keeps = refl }
follows_op op_le = record { behind_name = λ st ks. refl; behind_later = λ st ks. refl; keeps = refl }
follows_op op_ge = record { behind_name = λ st ks. refl; behind_later = λ st ks. refl; keeps = refl }
follows_op op_lt = record { behind_name = λ st ks. refl; behind_later = λ st ks. refl; keeps = refl }
follows_op op_gt = record { behind_name = λ st ks. refl; behind_later = λ st ks. refl; keeps = refl }
follows_op op_mul = record { behind_name = λ st ks. refl; behind_later = λ st ks. refl; keeps = refl }
follows_op op_div = record { behind_name = λ st ks. refl; behind_later = λ st ks. refl; keeps = refl }
follows_op op_rem = record { behind_name = λ st ks. refl; behind_later = λ st ks. refl; keeps = refl }
follows_op op_add = record { behind_name = λ st ks. refl; behind_later = λ st ks. refl; keeps = refl }
follows_op op_sub = record { behind_name = λ st ks. refl; behind_later = λ st ks. refl; keeps = refl }
follows_op op_and = record { behind_name = λ st ks. refl; behind_later = λ st ks. refl; keeps = refl }
follows_op op_or = record { behind_name = λ st ks. refl; behind_later = λ st ks. refl; keeps = refl }

-- Places -------------------------------------------------------------------------------------------

-- a place that has code r, where operators of level l may stand bare: with a comparison before them, they are tighter
pub data At (l : ℕ) : ℕ → Type 0 where
  at : {c : ℕ} → Site c → (b : Bool) → (b ≡ true → comparisons < l) → At l (spot b c)

pub at_first : {c : ℕ} → Site c → (l : ℕ) → At l c
unfolding spot
at_first s l = at s false (λ e. absurd (false≢true e))

-- one token, by its role and where it leads
found_on : (s z : Shape) (k r : ℕ) (ks : List ℕ) → role s k ≡ r → move s (sample k) ≡ z → found s (k ∷ ks) ≡ settled r z ks ∷ found z ks
unfolding found
found_on s z k r ks d e = rw (← d, ← e) refl

site_mark : {c : ℕ} → Site c → (b : Bool) (t : Token) → mark (spot b c) t ≡ mark c t
unfolding mark spot
site_mark brackets_site false t = refl
site_mark brackets_site true t = refl
site_mark args_site false t = refl
site_mark args_site true t = refl
site_mark statement_site false t = refl
site_mark statement_site true t = refl
site_mark if_site false t = refl
site_mark if_site true t = refl
site_mark value_site false t = refl
site_mark value_site true t = refl

site_plain : {c : ℕ} → Site c → (o : Op) → mark c (op o) ≡ by_kind
unfolding mark
site_plain brackets_site o = refl
site_plain args_site o = refl
site_plain statement_site o = refl
site_plain if_site o = refl
site_plain value_site o = refl

sample_op : (o : Op) → sample (op_kind o) ≡ op o
unfolding sample samples op_kind
sample_op op_eq = refl
sample_op op_ne = refl
sample_op op_le = refl
sample_op op_ge = refl
sample_op op_lt = refl
sample_op op_gt = refl
sample_op op_mul = refl
sample_op op_div = refl
sample_op op_rem = refl
sample_op op_add = refl
sample_op op_sub = refl
sample_op op_and = refl
sample_op op_or = refl

module _ {c : ℕ} (s : Site c) (b : Bool) (st : List ℕ) where
  -- an operator leads to its right operand
  goes_on : (o : Op) (ks : List ℕ) → clash b o ≡ false
      → found (shape after_code (spot b c ∷ st)) (op_kind o ∷ ks) ≡ op_kind o ∷ found (shape want_code (spot (turn b o) c ∷ st)) ks
  unfolding role said_below said mark move moved act acts settled waits
  goes_on o ks h =
      let m : mark (spot b c) (sample (op_kind o)) ≡ by_kind = rw (sample_op o) (site_mark s b (op o) ∙ site_plain s o) in
      found_on (shape after_code (spot b c ∷ st)) (shape want_code (spot (turn b o) c ∷ st)) (op_kind o) (op_kind o) ks (rw m refl)
      (rw (sample_op o) (below_goes s st b o h))

  -- once an operator that waited took its operand, a token that is no tighter is met as before
  found_same : (o : Op) (t : Token) (ks : List ℕ) → least t ≤ level o
      → found (shape after_code (spot (turn b o) c ∷ st)) (kind t ∷ ks) ≡ found (shape after_code (spot b c ∷ st)) (kind t ∷ ks)
  unfolding role said_below mark move moved act acts
  found_same o t ks h =
      let x : Shape = shape after_code (spot (turn b o) c ∷ st) in
      let y : Shape = shape after_code (spot b c ∷ st) in
      let u = site_mark s (turn b o) (sample (kind t)) ∙ sym (site_mark s b (sample (kind t))) in
      let m : role x (kind t) ≡ role y (kind t) = ap (λ v. said v (kind t)) u in
      let n : move x (sample (kind t)) ≡ move y (sample (kind t)) = sample_move x t ∙ below_same s st b o t h ∙ sym (sample_move y t) in
      let z : Shape = move y (sample (kind t)) in
      found_on x z (kind t) (role y (kind t)) ks m n ∙ sym (found_on y z (kind t) (role y (kind t)) ks refl refl)

-- Variables ----------------------------------------------------------------------------------------

-- later variables: before one in state q, behind one in state p
pub record Dots (q p : ℕ) : Type 0 where
  pub a_variable : (st ks : List ℕ) → found (shape q st) (name_kind ∷ ks) ≡ later_variable_role ∷ found (shape p st) ks
  pub a_dot : (st ks : List ℕ) → found (shape p st) (dot_kind ∷ ks) ≡ dot_kind ∷ found (shape q st) ks

pub later_comes : {q p : ℕ} → Dots q p → (v : Var) {st : List ℕ} {ts : List Token} {rs : List Role} → Comes p st ts rs
    → Comes q st (yield_var v ts) (roles_later v rs)
unfolding yield_var roles_later kind sign_kind sign_number code naming_code
later_comes d (id x) {st} h = comes (d.a_variable st _ ∙ onto later_variable_role (codes h))
later_comes d (dot x v) {st} h = comes (d.a_variable st _ ∙ onto later_variable_role (d.a_dot st _ ∙ onto dot_kind (codes (later_comes d v h))))

dots_read : Dots at_dot_id_code behind_dot_id_code
unfolding found
dots_read = record { a_variable = λ st ks. refl; a_dot = λ st ks. refl }

-- what e yields has the roles of e, where operators of level l may stand bare
pub record ComesExp (l : ℕ) (e : Exp) : Type 0 where
  pub there : {r : ℕ} → At l r → {st : List ℕ} {t : Token} {ts : List Token} {rs : List Role} → Follows (kind t) → least t ≤ l
      → Comes after_code (r ∷ st) (t ∷ ts) rs → Comes want_code (r ∷ st) (yield_exp e (t ∷ ts)) (roles_exp e rs)

var_comes : (l : ℕ) (v : Var) → ComesExp l (variable v)
unfolding yield_exp roles_exp yield_var roles_var found
var_comes l (id x) = record { there = λ {r} a {st} f m h. comes (rw f.keeps (onto first_read_role (f.behind_name (r ∷ st) _ ∙ codes h))) }
var_comes l (dot x v) =
    record {
      there = λ {r} a {st} f m h. comes (onto first_read_role
          (onto dot_kind (codes (later_comes dots_read v (comes (f.behind_later (r ∷ st) _ ∙ codes h))))));
    }

literal_comes : (l : ℕ) (a : Literal) → ComesExp l (literal a)
unfolding yield_exp roles_exp literal_token found
literal_comes l (int_literal p ds) = record { there = λ a f m h. comes (onto int_kind (codes h)) }
literal_comes l (nat_literal ds) = record { there = λ a f m h. comes (onto nat_kind (codes h)) }
literal_comes l (bool_literal true) = record { there = λ a f m h. comes (onto true_kind (codes h)) }
literal_comes l (bool_literal false) = record { there = λ a f m h. comes (onto false_kind (codes h)) }

null_comes : (l : ℕ) (a : TypeName) → ComesExp l (null a)
unfolding yield_exp roles_exp type_token found
null_comes l int_type = record { there = λ a f m h. comes (onto null_kind (onto null_int_role (codes h))) }
null_comes l nat_type = record { there = λ a f m h. comes (onto null_kind (onto null_nat_role (codes h))) }
null_comes l bool_type = record { there = λ a f m h. comes (onto null_kind (onto null_bool_role (codes h))) }
null_comes l (id_type x) = record { there = λ a f m h. comes (onto null_kind (onto null_struct_role (codes h))) }

this_comes : (l : ℕ) → ComesExp l this
unfolding yield_exp roles_exp found
this_comes l = record { there = λ a f m h. comes (onto this_kind (codes h)) }

brackets_come : (l : ℕ) {e : Exp} → ComesExp loosest e → ComesExp l (brackets e)
unfolding yield_exp roles_exp least on_op found
brackets_come l c =
    record {
      there = λ a f m h. comes (onto brackets_open_role
          (codes (c.there (at_first brackets_site loosest) follows_rpar (omega arith) (comes (onto brackets_close_role (codes h))))));
    }

negation_comes : (l : ℕ) {e : Exp} → ComesExp tightest e → ComesExp l (negation e)
unfolding yield_exp roles_exp found
negation_comes l c = record { there = λ a {st} {t} f m h. comes (onto bang_kind (codes (c.there (tighter_at a) f (least_most t) h))) }
  where
    tighter_at : {r : ℕ} → At l r → At tightest r
    tighter_at (at s b g) = at s b (λ e. omega arith)

binary_comes : (l : ℕ) (o : Op) {a b : Exp} → l ≤ level o → ComesExp (left o) a → ComesExp (suc (level o)) b → ComesExp l (binary o a b)
unfolding yield_exp roles_exp least on_op kind code
binary_comes l o {a} {b} n c d = record { there = go }
  where
    go : {r : ℕ} → At l r → {st : List ℕ} {t : Token} {ts : List Token} {rs : List Role} → Follows (kind t) → least t ≤ l
        → Comes after_code (r ∷ st) (t ∷ ts) rs → Comes want_code (r ∷ st) (yield_exp (binary o a b) (t ∷ ts)) (roles_exp (binary o a b) rs)
    go (at s x g) {st} {t} {ts} {rs} f m h =
        let behind : Comes after_code (spot (turn x o) _ ∷ st) (t ∷ ts) rs = comes (found_same s x st o t _ (omega arith) ∙ codes h) in
        let right = d.there (at s (turn x o) (λ e. omega (arith, turn_tight x o e))) f (omega arith) behind in
        c.there (at s x (λ e. omega (arith, g e, left_from o))) (follows_op o) (omega arith)
        (comes (goes_on s x st o _ (clash_tight x o (λ e. omega (arith, g e))) ∙ onto (op_kind o) (codes right)))

-- Arguments ------------------------------------------------------------------------------------------

-- arguments that opened r and end in state p
pub record Args (r p : ℕ) : Type 0 where
  pub site : Site r
  pub empty : (st ks : List ℕ) → found (shape at_args_code (r ∷ st)) (rpar_kind ∷ ks) ≡ no_args_close_role ∷ found (shape p st) ks
  pub more : (st ks : List ℕ) → found (shape after_code (r ∷ st)) (comma_kind ∷ ks) ≡ arg_comma_role ∷ found (shape want_code (r ∷ st)) ks
  pub last : (st ks : List ℕ) → found (shape after_code (r ∷ st)) (rpar_kind ∷ ks) ≡ args_close_role ∷ found (shape p st) ks

constructor_args : Args in_constructor_code after_code
unfolding found
constructor_args = record { site = args_site; empty = λ st ks. refl; more = λ st ks. refl; last = λ st ks. refl }

-- the first argument is met as any expression
first_argument : (e : Exp) (st : List ℕ) (k : List Token) → found (shape at_args_code st) (map kind (yield_exp e k)) ≡ found (shape want_code st) (map kind
    (yield_exp e k))
unfolding yield_exp yield_var literal_token found
first_argument (binary o a b) st k = first_argument a st (op o ∷ yield_exp b k)
first_argument (brackets e) st k = refl
first_argument (negation e) st k = refl
first_argument (constructor x es) st k = refl
first_argument (variable (id x)) st k = refl
first_argument (variable (dot x v)) st k = refl
first_argument (literal (int_literal p ds)) st k = refl
first_argument (literal (nat_literal ds)) st k = refl
first_argument (literal (bool_literal true)) st k = refl
first_argument (literal (bool_literal false)) st k = refl
first_argument (null t) st k = refl
first_argument this st k = refl

-- what es yield has the roles of es
pub record ComesArgs (es : Exps) : Type 0 where
  pub all : {r p : ℕ} → Args r p → {st : List ℕ} {ts : List Token} {rs : List Role} → Comes p st ts rs
      → Comes at_args_code (r ∷ st) (yield_exps es (sign rpar ∷ ts)) (roles_exps es (close_of es ∷ rs))

-- behind an argument e
record ComesList (es : Exps) : Type 0 where
  behind : {e : Exp} → ComesExp loosest e → {r p : ℕ} → Args r p → {st : List ℕ} {ts : List Token} {rs : List Role} → Comes p st ts rs
      → Comes want_code (r ∷ st) (yield_exp e (yield_exp_list es (sign rpar ∷ ts))) (roles_exp e (roles_exp_list es (part args_close ∷ rs)))

list_ends : ComesList no_exps
unfolding yield_exp_list roles_exp_list least on_op found
list_ends = record {
  behind = λ c a {st} h. c.there (at_first a.site loosest) follows_rpar (omega arith)
      (comes (a.last st _ ∙ onto args_close_role (codes h)));
}

list_goes_on : {e : Exp} {es : Exps} → ComesExp loosest e → ComesList es → ComesList (exps e es)
unfolding yield_exp_list roles_exp_list least on_op found
list_goes_on d l =
    record {
      behind = λ c a {st} h. c.there (at_first a.site loosest) follows_comma (omega arith)
          (comes (a.more st _ ∙ onto arg_comma_role (codes (l.behind d a h))));
    }

args_none : ComesArgs no_exps
unfolding yield_exps roles_exps close_of found
args_none = record { all = λ a {st} h. comes (a.empty st _ ∙ onto no_args_close_role (codes h)) }

args_some : {e : Exp} {es : Exps} → ComesExp loosest e → ComesList es → ComesArgs (exps e es)
unfolding yield_exps roles_exps close_of
args_some {e} c l = record { all = λ {r} a {st} h. comes (first_argument e (r ∷ st) _ ∙ codes (l.behind c a h)) }

constructor_comes : (l : ℕ) (x : Id) {es : Exps} → ComesArgs es → ComesExp l (constructor x es)
unfolding yield_exp roles_exp found
constructor_comes l x c = record { there = λ a f m h. comes (onto made_role (onto args_open_role (codes (c.all constructor_args h)))) }

-- Every expression -----------------------------------------------------------------------------------

mutual
  pub exp_comes : (e : Exp) (l : ℕ) → Fits l e → ComesExp l e
  exp_comes (binary o a b) l f = binary_comes l o f.0 (exp_comes a (left o) f.1) (exp_comes b (suc (level o)) f.2)
  exp_comes (brackets e) l f = brackets_come l (exp_comes e loosest f)
  exp_comes (negation e) l f = negation_comes l (exp_comes e tightest f)
  exp_comes (constructor x es) l f = constructor_comes l x (args_come es f)
  exp_comes (variable v) l f = var_comes l v
  exp_comes (literal a) l f = literal_comes l a
  exp_comes (null a) l f = null_comes l a
  exp_comes this l f = this_comes l

  pub args_come : (es : Exps) → FitsExps es → ComesArgs es
  args_come no_exps f = args_none
  args_come (exps e es) f = args_some (exp_comes e loosest f.0) (list_comes es f.1)

  list_comes : (es : Exps) → FitsExps es → ComesList es
  list_comes no_exps f = list_ends
  list_comes (exps e es) f = list_goes_on (exp_comes e loosest f.0) (list_comes es f.1)
