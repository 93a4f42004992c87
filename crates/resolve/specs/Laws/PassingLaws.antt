-- The pass over the roles of an expression goes on behind it with the numbers of what the expression means, and finds nothing where it means nothing.
use Prim.Native.Nat.{ℕ, zero, suc}
use Rattle.std.proofs.Common.{arith, sym, ◌∙◌, true≢false}
use Rattle.std.specs.Prelude.{◌≡◌, Bool, List, [], ◌∷◌, ◌++◌, length, ltb}
use Rattle.std.proofs.Math.Path.{refl, ap}
use Rattle.std.proofs.Math.Bool.{true, false}
use Rattle.std.proofs.Math.Option.{Option, none, some}
use Rattle.std.proofs.Math.Dec.{eqb}
use borrow.Author.Tests.{eq-eqb, ne_eqb, eqb-true, eqb-false}
use Rattle.types.specs.Limits.{nat_end}
use Rattle.types.specs.Types.{Ty}
use Rattle.types.specs.Values.{in_int, int_word}
use Rattle.program.specs.Tree.{Op, Expr, Expr.inv, Expr.make, Expr.path as path_of, Expr.int_lit, Expr.nat_lit, Expr.op as op_of, Exprs, Exprs.none as no_args}
use Rattle.program.specs.Tree.{Exprs.more, args}
use Rattle.program.specs.Encoding.{var_code}
use Rattle.tokens.specs.Tokens.{Sign.dot as dot_sign, Token.op, Token.sign}
use Rattle.syntax.specs.Syntax.{Id, TypeName, Par, Struct, Literal, Literal.int_literal, Literal.nat_literal, Literal.bool_literal, Var, Var.id as one_id}
use Rattle.syntax.specs.Syntax.{Var.dot, Exp, Exp.binary, Exp.brackets, Exp.negation, Exp.constructor, Exp.variable, Exp.literal, Exp.null, Exp.this, Exps}
use Rattle.syntax.specs.Syntax.{Exps.no_exps, Exps.exps}
use Rattle.syntax.specs.Yield.{literal_token}
use Rattle.meaning.specs.Scope.{par_id, par_type, pars_of, struct_id}
use Rattle.meaning.specs.Values.{decimal, signed}
use Rattle.meaning.specs.Finding.{Place, find}
use Rattle.meaning.specs.Meant.{then, provided, literal_meaning, type_meaning, referred, further, Start, start, PathOf, path_meaning, exp_meaning}
use Rattle.meaning.specs.Meant.{exps_meaning}
use Rattle.text_shape.specs.Roles.{Naming, Naming.first_read, Naming.made, Part.brackets_close, Part.args_open, Part.args_close, Part.no_args_close, Role}
use Rattle.text_shape.specs.Roles.{Role.plain, Role.naming, Role.part, roles_later, roles_var, close_of, roles_exp, roles_exps, roles_exp_list}
use Rattle.resolve.specs.Passing.{Pass, moves, leaves, opens, goes_on, closes, makes, starts, pass, passes, pass_part, pass_name, pass_token, pass_type}
use Rattle.resolve.specs.Numbers.{expr_numbers, exprs_numbers}
use Rattle.resolve.specs.Outcomes.{onto, onto_both, Outcome, Outcome.fails, Outcome.refuses, Outcome.goes, as_well, by_test, never, followed, made_of}
use Rattle.resolve.specs.Outcomes.{made_if, past}

-- numbers are told, and argument lists are closed
unfoldable pub told_to : Pass → List ℕ → List ℕ → TypeName → Pass
unfolding onto
told_to p l ns t = moves p p.left p.own t l (onto ns p.out)

abbrev pub told : Pass → List ℕ → TypeName → Pass
told p ns t = told_to p p.dues ns t

pub told_both : (p : Pass) (l m a b : List ℕ) (t u : TypeName) → told_to (told_to p l a t) m b u ≡ told_to p m (a ++ b) u
unfolding told_to
told_both p l m a b t u = ap (λ o. moves p p.left p.own u m o) (onto_both a b p.out)

module _ (ds : List Struct) (names : List Id) where
  -- an expression from a state: what it means, with its numbers told
  abbrev pub Told : Pass → Exp → Type 0
  Told p e =
      Outcome ds names {A = Expr} (λ c. true) (λ c t. told p (expr_numbers c) t) (exp_meaning ds p.own p.alive e) (λ k. passes ds names (roles_exp e k) p)

  brackets_told : (p : Pass) (e : Exp) → Told p e → Told p (brackets e)
  unfolding roles_exp exp_meaning passes pass pass_part then
  brackets_told p e r = past ds names (part brackets_close) (λ a t. refl) r

  negation_told : (p : Pass) (e : Exp) → Told p e → Told p (negation e)
  unfolding roles_exp exp_meaning passes pass pass_token then expr_numbers
  negation_told p e r = made_of ds names inv (λ a. refl) r (λ a t. refl)

  binary_told : (p : Pass) (o : Op) (a b : Exp) → Told p a → ((q : Pass) → Told q b) → Told p (binary o a b)
  unfolding roles_exp exp_meaning passes pass pass_token then expr_numbers told_to
  binary_told p o a b r h =
      followed ds names p (roles_exp a) (λ k. plain (op o) ∷ roles_exp b k) (λ c y. absurd (true≢false y)) r
      (λ c t y. made_of ds names (op_of o c) (λ d. refl) (h (told p (expr_numbers c) t))
      (λ d u. told_both p p.dues p.dues (expr_numbers c) (expr_numbers d) t u))

  this_told : (p : Pass) → Told p this
  unfolding roles_exp exp_meaning passes pass pass_token then expr_numbers told_to onto
  this_told p = goes refl p.type (λ k. refl)

  null_told : (p : Pass) (u : TypeName) → Told p (null u)
  unfolding roles_exp exp_meaning passes pass pass_token pass_type then expr_numbers told_to onto leaves
  null_told p u = go (type_meaning ds u) refl
    where
      go : (o : Option Ty) → type_meaning ds u ≡ o → Told p (null u)
      go none e = rw e (fails (λ k. refl))
      go (some v) e = rw e (goes refl u (λ k. refl))

  -- Literals -------------------------------------------------------------------------------------

  -- one that leaves no number, if it is of its type
  literal_of : (p : Pass) (t : Bool) (c : Expr) → expr_numbers c ≡ []
      → Outcome ds names (λ d. true) (λ d u. told p (expr_numbers d) u) (provided t (some c))
      (λ k. then (then (provided t (some c)) (λ d. some p)) (passes ds names k))
  unfolding provided then told_to onto
  literal_of p true c e = goes refl p.type (λ k. ap (λ ns. passes ds names k (told p ns p.type)) (sym e))
  literal_of p false c e = fails (λ k. refl)

  literal_told : (p : Pass) (l : Literal) → Told p (literal l)
  unfolding roles_exp exp_meaning passes pass pass_token then expr_numbers told_to onto literal_token literal_meaning provided
  literal_told p (int_literal g l) = literal_of p (in_int (signed g (decimal l))) (int_lit (int_word (signed g (decimal l)))) refl
  literal_told p (nat_literal l) = literal_of p (ltb (decimal l) nat_end) (nat_lit (decimal l)) refl
  literal_told p (bool_literal true) = goes refl p.type (λ k. refl)
  literal_told p (bool_literal false) = goes refl p.type (λ k. refl)

  -- Paths ----------------------------------------------------------------------------------------

  later_fails : (v : Var) (q : Pass) (k : List Role) → referred ds q.type ≡ none → passes ds names (roles_later v k) q ≡ none
  unfolding roles_later passes pass pass_name then
  later_fails (one_id x) q k e = rw e refl
  later_fails (dot x v) q k e = rw e refl

  -- the variables behind one that refers to a struct
  abbrev Later : Pass → Struct → Var → Type 0
  Later q d v = Outcome ds names {A = List ℕ} (λ c. true) (λ vs t. told q vs t) (further ds d v) (λ k. passes ds names (roles_later v k) q)

  later_told : (d : Struct) (v : Var) (q : Pass) → referred ds q.type ≡ some d → Later q d v
  unfolding roles_later passes pass pass_name pass_token then further told_to leaves onto
  later_told d (one_id x) q e = go (find par_id x (pars_of d)) refl
    where
      go : (o : Option (Place Par)) → find par_id x (pars_of d) ≡ o → Later q d (one_id x)
      go none f = rw (e, f) (fails (λ k. refl))
      go (some b) f = rw (e, f) (goes refl (par_type b.element) (λ k. refl))
  later_told d (dot x v) q e = go (find par_id x (pars_of d)) refl (λ c r. later_told c v r)
    where
      Rest : Type 0
      Rest = (c : Struct) (r : Pass) → referred ds r.type ≡ some c → Later r c v

      on : (b : Place Par) → find par_id x (pars_of d) ≡ some b → (o : Option Struct) → referred ds (par_type b.element) ≡ o → Rest
          → Later q d (dot x v)
      on b f none g rec = rw (e, f, g) (fails (λ k. later_fails v (leaves q (par_type b.element) b.at) k g))
      on b f (some c) g rec =
          rw (e, f, g) (made_of ds names (λ vs. b.at ∷ vs) (λ a. refl) (rec c (leaves q (par_type b.element) b.at) g) (λ vs t. refl))

      go : (o : Option (Place Par)) → find par_id x (pars_of d) ≡ o → Rest → Later q d (dot x v)
      go none f rec = rw (e, f) (fails (λ k. refl))
      go (some b) f rec = on b f (referred ds (par_type b.element)) refl rec

  -- a path, by what its first variable is
  pub var_told : (p : Pass) (n : Naming) → ((x : Id) → pass ds names (naming n x) p ≡ starts ds names x p) → (v : Var)
      → Outcome ds names {A = PathOf} (λ c. true) (λ u t. told p (var_code u.first ∷ u.rest) t) (path_meaning ds p.own p.alive v)
      (λ k. passes ds names (roles_var n v k) p)
  unfolding roles_var passes pass pass_token then path_meaning told_to leaves onto starts
  var_told p n s (one_id x) = as_well ds names (go (start ds p.own p.alive x) refl) (λ k. ap (λ o. then o (passes ds names k)) (s x))
    where
      go : (o : Option Start) → start ds p.own p.alive x ≡ o
          → Outcome ds names {A = PathOf} (λ c. true) (λ u t. told p (var_code u.first ∷ u.rest) t) (path_meaning ds p.own p.alive (one_id x))
          (λ k. then (starts ds names x p) (passes ds names k))
      go none e = rw e (fails (λ k. refl))
      go (some b) e = rw e (goes refl b.type_of (λ k. refl))
  var_told p n s (dot x v) =
      as_well ds names (go (start ds p.own p.alive x) refl) (λ k. ap (λ o. then o (passes ds names (plain (sign dot_sign) ∷ roles_later v k))) (s x))
    where
      Goal : Type 0
      Goal =
          Outcome ds names {A = PathOf} (λ c. true) (λ u t. told p (var_code u.first ∷ u.rest) t) (path_meaning ds p.own p.alive (dot x v))
          (λ k. then (starts ds names x p) (passes ds names (plain (sign dot_sign) ∷ roles_later v k)))

      on : (b : Start) → start ds p.own p.alive x ≡ some b → (o : Option Struct) → referred ds b.type_of ≡ o → Goal
      on b f none g = rw (f, g) (fails (λ k. later_fails v (leaves p b.type_of (var_code b.variable_of)) k g))
      on b f (some c) g =
          rw (f, g)
          (made_of ds names (λ vs. record { first = b.variable_of; rest = vs }) (λ a. refl)
          (later_told c v (leaves p b.type_of (var_code b.variable_of)) g) (λ vs t. refl))

      go : (o : Option Start) → start ds p.own p.alive x ≡ o → Goal
      go none f = rw f (fails (λ k. refl))
      go (some b) f = on b f (referred ds b.type_of) refl

  -- Arguments ----------------------------------------------------------------------------------------

  -- arguments of which w are due, with their end; those behind an argument that is not told to be at its end
  abbrev pub Closed : Pass → ℕ → List ℕ → Exps → Type 0
  Closed q w l es =
      Outcome ds names {A = Exprs} (λ cs. eqb (args cs) w) (λ cs t. told_to q l (exprs_numbers cs) t) (exps_meaning ds q.own q.alive es)
      (λ k. passes ds names (roles_exps es (close_of es ∷ k)) (opens q (w ∷ l)))

  abbrev Listed : Pass → ℕ → List ℕ → Exps → Type 0
  Listed q w l es =
      Outcome ds names {A = Exprs} (λ cs. eqb (suc (args cs)) w) (λ cs t. told_to q l (exprs_numbers cs) t) (exps_meaning ds q.own q.alive es)
      (λ k. passes ds names (roles_exp_list es (part args_close ∷ k)) (opens q (w ∷ l)))

  -- a last bracket, if as many arguments are due
  ended : (ok : Exprs → Bool) (q : Pass) (n w : ℕ) (l : List ℕ) (r : Role) → ok no_args ≡ eqb n w
      → pass ds names r (opens q (w ∷ l)) ≡ closes n (opens q (w ∷ l)) (w ∷ l)
      → Outcome ds names ok (λ cs t. told_to q l (exprs_numbers cs) t) (some no_args) (λ k. passes ds names (r ∷ k) (opens q (w ∷ l)))
  unfolding passes then closes provided opens told_to onto exprs_numbers
  ended ok q n w l r s e = go (eqb n w) refl
    where
      go : (t : Bool) → eqb n w ≡ t
          → Outcome ds names ok (λ cs t. told_to q l (exprs_numbers cs) t) (some no_args) (λ k. passes ds names (r ∷ k) (opens q (w ∷ l)))
      go true t = goes {f = λ k. passes ds names (r ∷ k) (opens q (w ∷ l))} (s ∙ t) q.type (λ k. rw (e, t) refl)
      go false t = refuses {f = λ k. passes ds names (r ∷ k) (opens q (w ∷ l))} (s ∙ t) (λ k. rw (e, t) refl)

  listed_none : (q : Pass) (w : ℕ) (l : List ℕ) → Listed q w l no_exps
  unfolding roles_exp_list exp_meaning args pass pass_part opens
  listed_none q w l = ended (λ cs. eqb (suc (args cs)) w) q 1 w l (part args_close) refl refl

  closed_none : (q : Pass) (w : ℕ) (l : List ℕ) → Closed q w l no_exps
  unfolding roles_exps exp_meaning close_of args pass pass_part opens
  closed_none q w l = ended (λ cs. eqb (args cs) w) q 0 w l (part no_args_close) refl refl

  eqb_suc : (a b : ℕ) → eqb (suc a) (suc b) ≡ eqb a b
  eqb_suc a b = go (eqb a b) refl
    where
      go : (t : Bool) → eqb a b ≡ t → eqb (suc a) (suc b) ≡ eqb a b
      go true e = eq-eqb (suc a) (suc b) (ap suc (eqb-true a b e)) ∙ sym e
      go false e = ne_eqb (suc a) (suc b) (λ f. eqb-false a b e (omega arith)) ∙ sym e

  -- an argument that w are due behind, and the others
  more_told : (q : Pass) (w : ℕ) (l : List ℕ) (e : Exp) (es : Exps) → ((r : Pass) → Told r e) → ((r : Pass) → Listed r w l es)
      → Outcome ds names {A = Exprs} (λ cs. eqb (args cs) w) (λ cs t. told_to q l (exprs_numbers cs) t) (exps_meaning ds q.own q.alive (exps e es))
      (λ k. passes ds names (roles_exp e (roles_exp_list es (part args_close ∷ k))) (opens q (w ∷ l)))
  unfolding exp_meaning exprs_numbers args told_to opens
  more_told q w l e es h hs =
      followed ds names (opens q (w ∷ l)) (roles_exp e) (λ k. roles_exp_list es (part args_close ∷ k)) (λ a y. absurd (true≢false y)) (h (opens q (w ∷ l)))
      (λ c t y. made_of ds names (more c) (λ cs. refl) (hs (told_to q l (expr_numbers c) t)) (λ cs u. told_both q l l (expr_numbers c) (exprs_numbers cs) t u))

  listed_more : (q : Pass) (w : ℕ) (l : List ℕ) (e : Exp) (es : Exps) → ((r : Pass) → Told r e) → ((r : Pass) (v : ℕ) → Listed r v l es)
      → Listed q w l (exps e es)
  unfolding roles_exp_list passes pass pass_part goes_on then opens
  listed_more q zero l e es h hs =
      never ds names (exps_meaning ds q.own q.alive (exps e es)) (λ cs f. ne_eqb (suc (args cs)) 0 (λ z. omega arith)) (λ k. refl)
  listed_more q (suc w) l e es h hs = by_test ds names (λ cs. eqb_suc (args cs) w) (more_told q w l e es h (λ r. hs r w))

  closed_more : (q : Pass) (w : ℕ) (l : List ℕ) (e : Exp) (es : Exps) → ((r : Pass) → Told r e) → ((r : Pass) (v : ℕ) → Listed r v l es)
      → Closed q w l (exps e es)
  unfolding roles_exps close_of
  closed_more q w l e es h hs = more_told q w l e es h (λ r. hs r w)

  -- a struct is made, by an expression or a statement: n says which
  pub make_told : {B : Type 0} {ok : B → Bool} {last : B → TypeName → Pass} (p : Pass) (n : Naming) (x : Id) (es : Exps) (tree : ℕ → Exprs → B)
      → ((k : ℕ) (cs : Exprs) → ok (tree k cs) ≡ true) → pass ds names (naming n x) p ≡ makes ds names x p → ((q : Pass) (w : ℕ) (l : List ℕ) → Closed q w l es)
      → ((k : ℕ) (cs : Exprs) (t : TypeName) → told p (k ∷ exprs_numbers cs) t ≡ last (tree k cs) t)
      → Outcome ds names ok last
      (then (find struct_id x ds) (λ f. then (exps_meaning ds p.own p.alive es) (λ cs.
      provided (eqb (args cs) (length (pars_of f.element))) (some (tree f.at cs)))))
      (λ k. passes ds names (naming n x ∷ part args_open ∷ roles_exps es (close_of es ∷ k)) p)
  unfolding passes pass pass_part makes then leaves opens told_to onto
  make_told {ok = ok} {last = last} p n x es tree y s h e =
      as_well ds names (go (find struct_id x ds) refl) (λ k. ap (λ o. then o (passes ds names (part args_open ∷ roles_exps es (close_of es ∷ k)))) s)
    where
      go : (o : Option (Place Struct)) → find struct_id x ds ≡ o
          → Outcome ds names ok last
          (then (find struct_id x ds) (λ f. then (exps_meaning ds p.own p.alive es) (λ cs.
          provided (eqb (args cs) (length (pars_of f.element))) (some (tree f.at cs)))))
          (λ k. then (makes ds names x p) (passes ds names (part args_open ∷ roles_exps es (close_of es ∷ k))))
      go none f = rw f (fails (λ k. refl))
      go (some b) f =
          rw f
          (made_if ds names (tree b.at) (y b.at) (h (leaves p p.type b.at) (length (pars_of b.element)) p.dues) (λ cs t. e b.at cs t))

  constructor_told : (p : Pass) (x : Id) (es : Exps) → ((q : Pass) (w : ℕ) (l : List ℕ) → Closed q w l es) → Told p (constructor x es)
  unfolding roles_exp exp_meaning expr_numbers pass pass_name
  constructor_told p x es h = make_told p made x es make (λ k cs. refl) refl h (λ k cs t. refl)

  variable_told : (p : Pass) (v : Var) → Told p (variable v)
  unfolding roles_exp exp_meaning expr_numbers pass pass_name
  variable_told p v = made_of ds names (λ u. path_of u.first u.rest) (λ u. refl) (var_told p first_read (λ x. refl) v) (λ u t. refl)

  -- Every expression ---------------------------------------------------------------------------------

  mutual
    pub exp_told : (e : Exp) (p : Pass) → Told p e
    exp_told (binary o a b) p = binary_told p o a b (exp_told a p) (λ q. exp_told b q)
    exp_told (brackets e) p = brackets_told p e (exp_told e p)
    exp_told (negation e) p = negation_told p e (exp_told e p)
    exp_told (constructor x es) p = constructor_told p x es (λ q w l. closed_told es q w l)
    exp_told (variable v) p = variable_told p v
    exp_told (literal l) p = literal_told p l
    exp_told (null t) p = null_told p t
    exp_told this p = this_told p

    pub closed_told : (es : Exps) (q : Pass) (w : ℕ) (l : List ℕ) → Closed q w l es
    closed_told no_exps q w l = closed_none q w l
    closed_told (exps e es) q w l = closed_more q w l e es (λ r. exp_told e r) (λ r v. listed_told es r v l)

    listed_told : (es : Exps) (q : Pass) (w : ℕ) (l : List ℕ) → Listed q w l es
    listed_told no_exps q w l = listed_none q w l
    listed_told (exps e es) q w l = listed_more q w l e es (λ r. exp_told e r) (λ r v. listed_told es r v l)
