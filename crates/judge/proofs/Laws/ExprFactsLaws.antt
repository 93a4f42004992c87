-- What is computed of an expression is right: its names and its type (01, numbers 7 and 8).
use Rattle.std.specs.Prelude.{ℕ, suc, ◌+◌, ◌*◌, ◌-◌, ◌<◌, Bool, ◌&&◌, length, get_or, eqb, ltb}
use native.Mathlib.Omega.{arith}
use Rattle.std.proofs.Common.{zero-add, add-zero, add-suc, suc-add, sym, ◌∙◌, eq-eqb, ne_eqb, le-leb, le-ltb, ltb-true}
use Rattle.std.proofs.Math.Bool.{true, false}
use mathlib.Core.List.{List, [], ◌∷◌}
use Rattle.std.proofs.Math.Path.{◌≡◌, refl, ap, subst}
use Rattle.std.proofs.lemmas.Bool.{lt-leb}
use Rattle.types.specs.Limits.{max_params}
use Rattle.types.specs.Numbers.{wrong_names, wrong_types}
use Rattle.types.specs.Types.{Ty, Ty.int, Ty.nat, Ty.bool, Ty.ref, struct_code, code, same_type, type_of}
use Rattle.program.specs.Tree.{Var, Var.par, Var.loc, Expr, Expr.inv, Expr.make, Expr.path, Expr.int_lit, Expr.nat_lit, Expr.bool_lit, Expr.null}
use Rattle.program.specs.Tree.{Expr.self, Expr.op, Exprs, Exprs.none, Exprs.more, args}
use Rattle.program.specs.Counts.{IsVar, IsPath, CountsExpr, CountsExprs}
use Rattle.types.proofs.Laws.TypeLaws.{type_of_code, same_exact}
use Rattle.types.specs.Reflects.{Reflects, Reflects.holds, Reflects.fails}
use Rattle.commands.specs.Context.{Ctx, typ}
use Rattle.commands.specs.Typing.{Sort, Sort.equality, Sort.order, Sort.arithmetic, Sort.logic, sort}
use Rattle.commands.specs.Decide.{member}
use Rattle.commands.specs.Decide.NamesDecide.{start_named, expr_named, args_named}
use Rattle.commands.specs.Decide.TypingDecide.{Judgement, Judgement.untypable, is_of, agree, given, result, operate, lead as type_lead, path_type}
use Rattle.commands.specs.Decide.TypingDecide.{expr_type, args_typed}
use Rattle.judge.specs.Facts.{worst, demand, judged, param, lead_by, lead, start_of, path_of, takes, gives}
use Rattle.judge.specs.Facts.{expr_facts, args_facts}
use Rattle.judge.specs.declared.Judged.{Judged}
use Rattle.judge.specs.Verdicts.{Says, Says.misnamed, Says.mistyped, Says.right, Shows, Shows.unnamed, Shows.untyped, Shows.typed, Tables, tagged, Living}
use Rattle.judge.proofs.Laws.FaultLaws.{says_both, says_demand}
use Rattle.judge.specs.Unfold.{expr_judging}

-- Types by their bytes -------------------------------------------------------------

-- bytes are equal exactly where types are, either way round
pub code_same : (t u : Ty) → eqb (code t) (code u) ≡ same_type t u
code_same t u = go (same_exact t u)
  where
    go : {b : Bool} → Reflects (t ≡ u) b → eqb (code t) (code u) ≡ b
    go (holds e) = eq-eqb (code t) (code u) (ap code e)
    go (fails n) = ne_eqb (code t) (code u) (λ q. n (sym (type_of_code t) ∙ ap type_of q ∙ type_of_code u))

pub code_other : (t u : Ty) → eqb (code u) (code t) ≡ same_type t u
code_other t u = go (same_exact t u)
  where
    go : {b : Bool} → Reflects (t ≡ u) b → eqb (code u) (code t) ≡ b
    go (holds e) = eq-eqb (code u) (code t) (ap code (sym e))
    go (fails n) = ne_eqb (code u) (code t) (λ q. n (sym (type_of_code t) ∙ ap type_of (sym q) ∙ type_of_code u))

-- Names and types, by the parts of an expression -------------------------------------

-- against a type that is wanted
pub wanted : {f t n : ℕ} {b : Bool} {j : Judgement} (u : Ty) → n ≡ code u → Shows f t b j → Says (demand f (eqb t n)) b (is_of u j)
unfolding demand is_of
wanted u q (unnamed e) = misnamed (rw e)
wanted u q (untyped e) = mistyped (rw e)
wanted u q (typed {u = v} e c) = rw (e, c, q, code_other u v) (says_demand (same_type u v) (right refl))

negated_shows : {f t : ℕ} {b : Bool} {j : Judgement} → Shows f t b j → Shows (demand f (eqb t 2)) 2 b (given (is_of bool j) bool)
unfolding given code
negated_shows {f} {t} {b} {j} s = go (wanted bool refl s)
  where
    go : {f : ℕ} {b c : Bool} → Says f b c → Shows f 2 b (given c bool)
    go (misnamed e) = unnamed e
    go (mistyped e) = untyped e
    go (right e) = typed e refl

made_shows : {f : ℕ} {b c : Bool} (k : ℕ) → Says f b c → Shows f (struct_code + k) b (given c (ref k))
unfolding given code
made_shows k (misnamed e) = unnamed e
made_shows k (mistyped e) = untyped e
made_shows k (right e) = typed e refl

-- operators of a sort, of a type
sort_shows : (s : Sort) (u : Ty) → Shows (demand 0 (takes s (code u))) (gives s (code u)) true (result s u)
unfolding demand takes gives code result
sort_shows equality u = typed refl refl
sort_shows order int = typed refl refl
sort_shows order nat = typed refl refl
sort_shows order bool = untyped refl
sort_shows order (ref k) = untyped (rw (le-ltb (16 + k) 2 (omega arith)))
sort_shows arithmetic int = typed refl refl
sort_shows arithmetic nat = typed refl refl
sort_shows arithmetic bool = untyped refl
sort_shows arithmetic (ref k) = untyped (rw (le-ltb (16 + k) 2 (omega arith)))
sort_shows logic int = untyped refl
sort_shows logic nat = untyped refl
sort_shows logic bool = typed refl refl
sort_shows logic (ref k) = untyped (rw (ne_eqb (16 + k) 2 (omega arith)))

op_shows : {f t g u : ℕ} {a b : Bool} {i j : Judgement} (s : Sort) → Shows f t a i → Shows g u b j
    → Shows (demand (worst f g) (eqb t u && takes s t)) (gives s t) (a && b) (operate s i j)
unfolding demand worst operate is_of
op_shows s (unnamed e) (unnamed h) = unnamed (rw (e, h))
op_shows s (unnamed e) (untyped h) = unnamed (rw (e, h))
op_shows s (unnamed e) (typed h d) = unnamed (rw (e, h))
op_shows s (untyped e) (unnamed h) = unnamed (rw (e, h))
op_shows s (untyped e) (untyped h) = untyped (rw (e, h))
op_shows s (untyped e) (typed h d) = untyped (rw (e, h))
op_shows s (typed e c) (unnamed h) = unnamed (rw (e, h))
op_shows s (typed e c) (untyped h) = untyped (rw (e, h))
op_shows s (typed {u = t} e c) (typed {u = u} h d) = rw (e, h, c, d, code_same t u) (go (same_type t u))
  where
    go : (q : Bool) → Shows (demand 0 (q && takes s (code t))) (gives s (code t)) true (elim q [ true ↦ result s t | false ↦ untypable ])
    go true = sort_shows s t
    go false = untyped refl

-- two that are to be of one type
pub agree_says : {f t g u : ℕ} {a b : Bool} {i j : Judgement} → Shows f t a i → Shows g u b j → Says (demand (worst f g) (eqb t u)) (a && b) (agree i j)
unfolding demand worst agree is_of
agree_says (unnamed e) (unnamed h) = misnamed (rw (e, h))
agree_says (unnamed e) (untyped h) = misnamed (rw (e, h))
agree_says (unnamed e) (typed h d) = misnamed (rw (e, h))
agree_says (untyped e) (unnamed h) = misnamed (rw (e, h))
agree_says (untyped e) (untyped h) = mistyped (rw (e, h))
agree_says (untyped e) (typed h d) = mistyped (rw (e, h))
agree_says (typed e c) (unnamed h) = misnamed (rw (e, h))
agree_says (typed e c) (untyped h) = mistyped (rw (e, h))
agree_says (typed {u = t} e c) (typed {u = u} h d) = rw (e, h, c, d, code_same t u) (says_demand (same_type t u) (right refl))

-- Paths ----------------------------------------------------------------------------

abbrev pub Judges : Judged → Bool → Judgement → Type 0
Judges j = Shows j.fault j.typ

-- the start of a path at a local, by its digit
abbrev begun : ℕ → Judged
begun d = elim (eqb d 0) [ true ↦ judged wrong_names 0 | false ↦ judged 0 (d - 1) ]

begun_alive : (t : Ty) → begun (suc (code t)) ≡ judged 0 (code t)
begun_alive t =
    let e : suc (code t) - 1 ≡ code t = omega arith in
    rw (ne_eqb (suc (code t)) 0 (λ q. omega arith), e, begun)

module _ (ar types : List ℕ) where
  -- one parameter on: a fault stays; a plain value has none; a reference has its struct's
  by_fault : (f t x : ℕ) → (f ≡ 0 → ⊥) → lead_by ar types (judged f t) x ≡ judged f t
  unfolding lead_by
  by_fault f t x n = rw (ne_eqb f 0 n, lead_by)

  by_plain : (t x : ℕ) → t < struct_code → lead_by ar types (judged 0 t) x ≡ judged wrong_types 0
  unfolding lead_by
  by_plain t x h = rw (lt-leb struct_code t h, lead_by)

  by_ref : (k x : ℕ) → lead_by ar types (judged 0 (struct_code + k)) x ≡ param ar types wrong_types k x
  unfolding lead_by
  by_ref k x =
      let e : struct_code + k - struct_code ≡ k = omega arith in
      rw (le-leb struct_code (struct_code + k) (omega arith), e, lead_by)

  -- a fault stays to the end of a path
  stays : (f t : ℕ) (xs : List ℕ) → (f ≡ 0 → ⊥) → lead ar types (judged f t) xs ≡ judged f t
  unfolding lead
  stays f t [] n = refl
  stays f t (x ∷ xs) n = ap (λ j. lead ar types j xs) (by_fault f t x n) ∙ stays f t xs n

  plain_shows : (t x : ℕ) (xs : List ℕ) → t < struct_code → Judges (lead ar types (judged 0 t) (x ∷ xs)) true untypable
  unfolding lead
  plain_shows t x xs h =
      subst (λ j. Judges j true untypable) (sym (ap (λ j. lead ar types j xs) (by_plain t x h) ∙ stays wrong_types 0 xs (λ e. omega arith)))
      (untyped refl)

module _ {cs ar types : List ℕ} {G : Ctx} (T : Tables cs ar types G) where
  abbrev has : ℕ → ℕ → Bool
  has k x = ltb x (length (G.params k))

  -- a parameter, by the context; and what lies behind it
  param_is : (f k x : ℕ) → param ar types f k x ≡ elim (has k x) [ true ↦ judged 0 (code (typ G k x)) | false ↦ judged f 0 ]
  unfolding param
  param_is f k x = rw (T.arities k, param) (go (has k x) refl)
    where
      go : (b : Bool) → has k x ≡ b
          → ◌≡◌ {A = Judged} (elim b [ true ↦ judged 0 (get_or types (max_params * k + x) 0) | false ↦ judged f 0 ])
          (elim b [ true ↦ judged 0 (code (typ G k x)) | false ↦ judged f 0 ])
      go true e = rw (T.codes k x (ltb-true x (length (G.params k)) e))
      go false e = refl

  behind : (f k x : ℕ) (xs : List ℕ) → (f ≡ 0 → ⊥)
      → lead ar types (param ar types f k x) xs ≡ elim (has k x) [ true ↦ lead ar types (judged 0 (code (typ G k x))) xs | false ↦ judged f 0 ]
  behind f k x xs n = ap (λ j. lead ar types j xs) (param_is f k x) ∙ go (has k x)
    where
      go : (b : Bool) → lead ar types (elim b [ true ↦ judged 0 (code (typ G k x)) | false ↦ judged f 0 ]) xs
          ≡ elim b [ true ↦ lead ar types (judged 0 (code (typ G k x))) xs | false ↦ judged f 0 ]
      go true = refl
      go false = stays ar types f 0 xs n

  -- parameters lead on from a value of a type as the context says
  lead_shows : (xs : List ℕ) (u : Ty) → Judges (lead ar types (judged 0 (code u)) xs) true (type_lead G u xs)
  unfolding lead type_lead code
  lead_shows [] u = typed refl refl
  lead_shows (x ∷ xs) int = plain_shows ar types 0 x xs (omega arith)
  lead_shows (x ∷ xs) nat = plain_shows ar types 1 x xs (omega arith)
  lead_shows (x ∷ xs) bool = plain_shows ar types 2 x xs (omega arith)
  lead_shows (x ∷ xs) (ref k) =
      let e = ap (λ j. lead ar types j xs) (by_ref ar types k x) ∙ behind wrong_types k x xs (λ e. omega arith) in
      subst (λ j. Judges j true (type_lead G (ref k) (x ∷ xs))) (sym e) (go (has k x) (lead_shows xs (typ G k x)))
    where
      go : (b : Bool) {j : Judged} {i : Judgement} → Judges j true i
          → Judges (elim b [ true ↦ j | false ↦ judged wrong_types 0 ]) true (elim b [ true ↦ i | false ↦ untypable ])
      go true s = s
      go false s = untyped refl

  module _ (w : ℕ) (live : List ℕ) (l : Living w live G.local) where
    -- a path begins at a parameter or a living local, and is of the type that the context says
    pub path_shows : (v : Var) (vs : List ℕ) → IsVar v
        → Judges (path_of ar types G.own w v vs) (start_named (length (G.params G.own)) live v) (path_type G v vs)
    unfolding path_of start_of start_named path_type type_lead IsVar
    path_shows (par x) vs h = subst (λ j. Judges j (has G.own x) (path_type G (par x) vs)) (sym (behind wrong_names G.own x vs (λ e. omega arith)))
        (go (has G.own x) (lead_shows vs (typ G G.own x)))
      where
        go : (b : Bool) {j : Judged} {i : Judgement} → Judges j true i
            → Judges (elim b [ true ↦ j | false ↦ judged wrong_names 0 ]) b (elim b [ true ↦ i | false ↦ untypable ])
        go true s = s
        go false s = unnamed refl
    path_shows (loc x) vs h =
        subst (λ d. Judges (lead ar types (begun d) vs) (member x live) (type_lead G (G.local x) vs)) (sym (l x h)) (go (member x live))
      where
        go : (b : Bool) → Judges (lead ar types (begun (tagged b (G.local x))) vs) b (type_lead G (G.local x) vs)
        go true =
            subst (λ j. Judges (lead ar types j vs) true (type_lead G (G.local x) vs)) (sym (begun_alive (G.local x))) (lead_shows vs (G.local x))
        go false =
            subst (λ j. Judges j false (type_lead G (G.local x) vs)) (sym (stays ar types wrong_names 0 vs (λ e. omega arith))) (unnamed refl)

    -- Expressions ------------------------------------------------------------------

    mutual
      unfolding expr_judging CountsExpr CountsExprs IsPath args code

      -- an expression's fault is 7 where a name is wrong in it, else 8 where it has no type, else 0, and its type is told
      pub expr_shows : (e : Expr) → CountsExpr cs e
          → Shows (expr_facts ar types G.own w e).fault (expr_facts ar types G.own w e).typ (expr_named e (length (G.params G.own)) live)
          (expr_type G e)
      expr_shows (inv e) c = negated_shows (expr_shows e c)
      expr_shows (make k es) c = made_shows k (args_says es c.2 k 0 (G.params k) (c.1 ∙ T.counts k) (λ i h. rw zero-add (T.codes k i h)))
      expr_shows (path v vs) c = path_shows v vs c.0
      expr_shows (int_lit n) c = typed refl refl
      expr_shows (nat_lit n) c = typed refl refl
      expr_shows (bool_lit n) c = typed refl refl
      expr_shows (null t) c = typed refl refl
      expr_shows self c = typed refl refl
      expr_shows (op o a b) c = op_shows (sort o) (expr_shows a c.0) (expr_shows b c.1)

      -- and that of arguments for parameters of these types, from parameter x of struct k on
      pub args_says : (es : Exprs) → CountsExprs cs es → (k x : ℕ) (ts : List Ty) → args es ≡ length ts
          → ((i : ℕ) → i < length ts → get_or types (max_params * k + (x + i)) 0 ≡ code (get_or ts i int))
          → Says (args_facts ar types G.own w es k x).fault (args_named es (length (G.params G.own)) live) (args_typed G es ts)
      args_says none c k x [] a h = right refl
      args_says none c k x (t ∷ ts) a h = absurd (omega arith)
      args_says (more e es) c k x [] a h = absurd (omega arith)
      args_says (more e es) c k x (t ∷ ts) a h =
          says_both (wanted t (rw add-zero at (h 0 (omega arith))) (expr_shows e c.0))
          (args_says es c.1 k (suc x) ts (omega arith) (λ i l. rw (suc-add, ← add-suc) (h (suc i) (omega arith))))
