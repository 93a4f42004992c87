-- The computed type is the one type of an expression, and the test of types is exact (01, number 8).
use Rattle.std.specs.Prelude.{ℕ, suc, ◌<◌, Bool, ◌↔◌, ◌≡◌, refl}
use Rattle.std.proofs.Math.Bool.{true, false}
use mathlib.Core.List.{List, [], ◌∷◌}
use Rattle.std.proofs.Common.{sym, ◌∙◌, subst, arith}
use Rattle.std.proofs.Math.ListN.{length}
use Rattle.types.specs.Types.{Ty, Ty.int, Ty.nat, Ty.bool, Ty.ref}
use Rattle.program.specs.Tree.{Var, Var.par, Var.loc, Op, Expr, Expr.inv, Expr.make, Expr.path, Expr.int_lit, Expr.nat_lit, Expr.bool_lit, Expr.null}
use Rattle.program.specs.Tree.{Expr.self, Expr.op, Exprs, Exprs.none, Exprs.more, Stmt, Stmt.when, Stmt.declare, Stmt.update, Stmt.create, Stmts}
use Rattle.program.specs.Tree.{Stmts.end, Stmts.next, Step, Program}
use Rattle.types.proofs.Laws.TypeLaws.{same_exact}
use Rattle.types.specs.Reflects.{Reflects, Reflects.holds, Reflects.fails, reflects_iff, reflects_map, reflects_both, lt_reflects}
use Rattle.commands.specs.Context.{Ctx, typ, context}
use Rattle.commands.specs.Typing.{Sort, Sort.equality, Sort.order, Sort.arithmetic, Sort.logic, sort, Takes, Takes.any_equal, Takes.order_int}
use Rattle.commands.specs.Typing.{Takes.order_nat, Takes.arith_int, Takes.arith_nat, Takes.logic_bool, Leads, Leads.arrived, Leads.onward}
use Rattle.commands.specs.Typing.{Reaches, Reaches.from_own, Reaches.from_local, Types, Types.t_not, Types.t_make, Types.t_path, Types.t_int}
use Rattle.commands.specs.Typing.{Types.t_nat, Types.t_bool, Types.t_null, Types.t_this, Types.t_op, TypesAll, TypesAll.t_none}
use Rattle.commands.specs.Typing.{TypesAll.t_more, TypedStmt, TypedStmt.t_when, TypedStmt.t_declare, TypedStmt.t_update}
use Rattle.commands.specs.Typing.{TypedStmt.t_create, Typed, Typed.t_end, Typed.t_next, TypedSteps, TypesRight}
use Rattle.commands.proofs.Decide.DecideLaws.{every_reflects}
use Rattle.commands.specs.Decide.TypingDecide.{Judgement, Judgement.untypable, Judgement.of_type, is_of, agree, given, result, operate, lead}
use Rattle.commands.specs.Decide.TypingDecide.{path_type, expr_type, args_typed, stmt_typed, body_typed, steps_typed, types_right}

-- what a judgement says of a condition on types: it holds of that type alone, or of none
pub data Judges (T : Ty → Type 0) : Judgement → Type 0 where
  only : {t : Ty} → T t → ((u : Ty) → T u → t ≡ u) → Judges T (of_type t)
  no_type : ((u : Ty) → T u → ⊥) → Judges T untypable

-- conditions that follow from each other have the same judgement
judges_map : {T U : Ty → Type 0} {j : Judgement} → ((t : Ty) → T t → U t) → ((t : Ty) → U t → T t) → Judges T j → Judges U j
judges_map f g (only {t = t} h one) = only (f t h) (λ u r. one u (g u r))
judges_map f g (no_type n) = no_type (λ u r. n u (g u r))

-- what is judged holds of at most one type
judges_unique : {T : Ty → Type 0} {j : Judgement} {t u : Ty} → Judges T j → T t → T u → t ≡ u
judges_unique {t = t} {u = u} (only h one) a b = sym (one t a) ∙ one u b
judges_unique {t = t} (no_type n) a b = absurd (n t a)

-- comparing the judgement with a type decides the condition at that type; comparing two, at some common type
is_of_reflects : {T : Ty → Type 0} {j : Judgement} → Judges T j → (t : Ty) → Reflects (T t) (is_of t j)
unfolding is_of
is_of_reflects {T} (only {t = u} h one) t = reflects_map (λ e. subst T (sym e) h) (λ r. sym (one t r)) (same_exact t u)
is_of_reflects (no_type n) t = fails (n t)

agree_reflects : {T U : Ty → Type 0} {i j : Judgement} → Judges T i → Judges U j → Reflects ((t : Ty) × T t × U t) (agree i j)
unfolding agree
agree_reflects {U = U} (only {t = t} h one) s =
    reflects_map (λ r. (t, h, r)) (λ r. subst U (sym (one r.0 r.1)) r.2) (is_of_reflects s t)
agree_reflects (no_type n) s = fails (λ r. n r.0 r.1)

-- a type under a test, where the condition holds of that type alone and only where the tested one does
given_judges : {A : Type 0} {T : Ty → Type 0} {b : Bool} {t : Ty} → (A → T t) → ((u : Ty) → T u → A × (t ≡ u)) → Reflects A b → Judges T (given b t)
unfolding given
given_judges f g (holds a) = only (f a) (λ u r. (g u r).1)
given_judges f g (fails n) = no_type (λ u r. n (g u r).0)

-- Operators --------------------------------------------------------------------

-- the result type is computed
takes_result : {s : Sort} {t u : Ty} → Takes s t u → result s t ≡ of_type u
unfolding result
takes_result any_equal = refl
takes_result order_int = refl
takes_result order_nat = refl
takes_result arith_int = refl
takes_result arith_nat = refl
takes_result logic_bool = refl

same : {t u : Ty} → of_type t ≡ of_type u → t ≡ u
same e = cc

apart : {u : Ty} → untypable ≡ of_type u → ⊥
apart e = let z : ◌≡◌ {A = ℕ} 0 1 = cc in omega arith

result_judges : (s : Sort) (t : Ty) → Judges (Takes s t) (result s t)
unfolding result
result_judges equality t = only any_equal (λ u h. same (takes_result h))
result_judges order int = only order_int (λ u h. same (takes_result h))
result_judges order nat = only order_nat (λ u h. same (takes_result h))
result_judges order bool = no_type (λ u h. apart (takes_result h))
result_judges order (ref k) = no_type (λ u h. apart (takes_result h))
result_judges arithmetic int = only arith_int (λ u h. same (takes_result h))
result_judges arithmetic nat = only arith_nat (λ u h. same (takes_result h))
result_judges arithmetic bool = no_type (λ u h. apart (takes_result h))
result_judges arithmetic (ref k) = no_type (λ u h. apart (takes_result h))
result_judges logic int = no_type (λ u h. apart (takes_result h))
result_judges logic nat = no_type (λ u h. apart (takes_result h))
result_judges logic bool = only logic_bool (λ u h. same (takes_result h))
result_judges logic (ref k) = no_type (λ u h. apart (takes_result h))

-- operators of a sort on two operands, which are of one type
abbrev Operated : Sort → (Ty → Type 0) → (Ty → Type 0) → Ty → Type 0
Operated s T U u = (t : Ty) × Takes s t u × T t × U t

-- two operands' judgements give that of the operation
operate_judges : {T U : Ty → Type 0} {i j : Judgement} (s : Sort) → Judges T i → Judges U j → Judges (Operated s T U) (operate s i j)
unfolding operate
operate_judges {T} {U} s (only {t = t} h one) r = go (is_of_reflects r t) (result_judges s t)
  where
    -- the operands' type is t
    taken : (u : Ty) → Operated s T U u → Takes s t u
    taken u x = subst (λ (v : Ty). Takes s v u) (sym (one x.0 x.2)) x.1

    go : {b : Bool} {k : Judgement} → Reflects (U t) b → Judges (Takes s t) k → Judges (Operated s T U) (elim b [ true ↦ k | false ↦ untypable ])
    go (holds y) (only {t = u} x only_u) = only (t, x, h, y) (λ v z. only_u v (taken v z))
    go (holds y) (no_type n) = no_type (λ u z. n u (taken u z))
    go (fails n) q = no_type (λ u z. n (subst U (sym (one z.0 z.2)) z.3))
operate_judges s (no_type n) r = no_type (λ u z. n z.0 z.2)

-- Paths --------------------------------------------------------------------------

module _ (G : Ctx) where
  -- each rule read backwards, here and below
  leads_nowhere : {t u : Ty} → Leads G t [] u → t ≡ u
  leads_nowhere arrived = refl

  leads_on : {k x : ℕ} {xs : List ℕ} {u : Ty} → Leads G (ref k) (x ∷ xs) u → (x < length (G.params k)) × (Leads G (typ G k x) xs u)
  leads_on (onward h l) = (h, l)

  -- parameters lead to the computed type and no other, or nowhere; so does a path
  lead_judges : (t : Ty) (xs : List ℕ) → Judges (Leads G t xs) (lead G t xs)
  unfolding lead
  lead_judges t [] = only arrived (λ u h. leads_nowhere h)
  lead_judges int (x ∷ xs) = no_type (λ u h. elim h [ ])
  lead_judges nat (x ∷ xs) = no_type (λ u h. elim h [ ])
  lead_judges bool (x ∷ xs) = no_type (λ u h. elim h [ ])
  lead_judges (ref k) (x ∷ xs) = go (lt_reflects x (length (G.params k))) (lead_judges (typ G k x) xs)
    where
      go : {b : Bool} {j : Judgement} → Reflects (x < length (G.params k)) b → Judges (Leads G (typ G k x) xs) j
          → Judges (Leads G (ref k) (x ∷ xs)) (elim b [ true ↦ j | false ↦ untypable ])
      go (holds h) r = judges_map (λ u l. onward h l) (λ u l. (leads_on l).1) r
      go (fails n) r = no_type (λ u l. n (leads_on l).0)

  from_own_back : {x : ℕ} {xs : List ℕ} {u : Ty} → Reaches G (par x) xs u → Leads G (ref G.own) (x ∷ xs) u
  from_own_back (from_own l) = l

  from_local_back : {x : ℕ} {xs : List ℕ} {u : Ty} → Reaches G (loc x) xs u → Leads G (G.local x) xs u
  from_local_back (from_local l) = l

  path_judges : (v : Var) (xs : List ℕ) → Judges (Reaches G v xs) (path_type G v xs)
  unfolding path_type
  path_judges (par x) xs = judges_map (λ u l. from_own l) (λ u l. from_own_back l) (lead_judges (ref G.own) (x ∷ xs))
  path_judges (loc x) xs = judges_map (λ u l. from_local l) (λ u l. from_local_back l) (lead_judges (G.local x) xs)

  -- Expressions --------------------------------------------------------------------

  t_not_back : {e : Expr} (u : Ty) → Types G (inv e) u → (Types G e bool) × (bool ≡ u)
  t_not_back u (t_not h) = (h, refl)

  t_make_back : {k : ℕ} {es : Exprs} (u : Ty) → Types G (make k es) u → (TypesAll G es (G.params k)) × (ref k ≡ u)
  t_make_back u (t_make h) = (h, refl)

  t_path_back : {v : Var} {vs : List ℕ} (u : Ty) → Types G (path v vs) u → Reaches G v vs u
  t_path_back u (t_path h) = h

  t_int_back : {w : ℕ} (u : Ty) → Types G (int_lit w) u → int ≡ u
  t_int_back u t_int = refl

  t_nat_back : {w : ℕ} (u : Ty) → Types G (nat_lit w) u → nat ≡ u
  t_nat_back u t_nat = refl

  t_bool_back : {w : ℕ} (u : Ty) → Types G (bool_lit w) u → bool ≡ u
  t_bool_back u t_bool = refl

  t_null_back : {t : Ty} (u : Ty) → Types G (null t) u → t ≡ u
  t_null_back u t_null = refl

  t_this_back : (u : Ty) → Types G self u → ref G.own ≡ u
  t_this_back u t_this = refl

  t_op_back : {o : Op} {a b : Expr} (u : Ty) → Types G (op o a b) u → Operated (sort o) (Types G a) (Types G b) u
  t_op_back u (t_op {t = t} k h l) = (t, k, h, l)

  t_more_back : {e : Expr} {es : Exprs} {t : Ty} {ts : List Ty} → TypesAll G (more e es) (t ∷ ts) → (Types G e t) × (TypesAll G es ts)
  t_more_back (t_more h l) = (h, l)

  mutual
    unfolding expr_type args_typed

    -- an expression has the computed type and no other, or none
    pub expr_judges : (e : Expr) → Judges (Types G e) (expr_type G e)
    expr_judges (inv e) = given_judges (λ h. t_not h) t_not_back (is_of_reflects (expr_judges e) bool)
    expr_judges (make k es) = given_judges (λ h. t_make h) t_make_back (args_reflects es (G.params k))
    expr_judges (path v vs) = judges_map (λ u h. t_path h) t_path_back (path_judges v vs)
    expr_judges (int_lit w) = only t_int t_int_back
    expr_judges (nat_lit w) = only t_nat t_nat_back
    expr_judges (bool_lit w) = only t_bool t_bool_back
    expr_judges (null t) = only t_null t_null_back
    expr_judges self = only t_this t_this_back
    expr_judges (op o a b) =
        judges_map (λ u h. t_op h.1 h.2 h.3) t_op_back (operate_judges (sort o) (expr_judges a) (expr_judges b))

    -- and the test of arguments decides whether each is of its parameter's type
    pub args_reflects : (es : Exprs) (ts : List Ty) → Reflects (TypesAll G es ts) (args_typed G es ts)
    args_reflects none [] = holds t_none
    args_reflects none (t ∷ ts) = fails (λ h. elim h [ ])
    args_reflects (more e es) [] = fails (λ h. elim h [ ])
    args_reflects (more e es) (t ∷ ts) =
        reflects_map (λ h. t_more h.0 h.1) t_more_back (reflects_both (is_of_reflects (expr_judges e) t) (args_reflects es ts))

  -- Statements --------------------------------------------------------------------

  t_when_back : {e : Expr} {b : Stmts} → TypedStmt G (when e b) → (Types G e bool) × (Typed G b)
  t_when_back (t_when h l) = (h, l)

  t_declare_back : {t : Ty} {x : ℕ} {e : Expr} → TypedStmt G (declare t x e) → Types G e t
  t_declare_back (t_declare h) = h

  t_update_back : {v : Var} {vs : List ℕ} {e : Expr} → TypedStmt G (update v vs e) → (t : Ty) × Reaches G v vs t × Types G e t
  t_update_back (t_update {t = t} r h) = (t, r, h)

  t_create_back : {k : ℕ} {es : Exprs} → TypedStmt G (create k es) → TypesAll G es (G.params k)
  t_create_back (t_create h) = h

  t_next_back : {s : Stmt} {b : Stmts} → Typed G (next s b) → (TypedStmt G s) × (Typed G b)
  t_next_back (t_next h l) = (h, l)

  mutual
    unfolding stmt_typed body_typed

    stmt_reflects : (s : Stmt) → Reflects (TypedStmt G s) (stmt_typed G s)
    stmt_reflects (when e b) =
        reflects_map (λ h. t_when h.0 h.1) t_when_back (reflects_both (is_of_reflects (expr_judges e) bool) (body_reflects b))
    stmt_reflects (declare t x e) = reflects_map (λ h. t_declare h) t_declare_back (is_of_reflects (expr_judges e) t)
    stmt_reflects (update v vs e) =
        reflects_map (λ h. t_update h.1 h.2) t_update_back (agree_reflects (path_judges v vs) (expr_judges e))
    stmt_reflects (create k es) = reflects_map (λ h. t_create h) t_create_back (args_reflects es (G.params k))

    body_reflects : (b : Stmts) → Reflects (Typed G b) (body_typed G b)
    body_reflects end = holds t_end
    body_reflects (next s b) = reflects_map (λ h. t_next h.0 h.1) t_next_back (reflects_both (stmt_reflects s) (body_reflects b))

-- an expression has at most one type
pub types_unique : {G : Ctx} {e : Expr} {t u : Ty} → Types G e t → Types G e u → t ≡ u
types_unique {G} {e} h l = judges_unique (expr_judges G e) h l

-- Programs -----------------------------------------------------------------------

steps_reflects : (p : Program) (k : ℕ) (tss : List (List Step)) → Reflects (TypedSteps p k tss) (steps_typed p k tss)
unfolding steps_typed
steps_reflects p k [] = holds tt
steps_reflects p k (ts ∷ tss) =
    reflects_both (every_reflects (λ t. body_reflects (context p k t.body) t.body) ts) (steps_reflects p (suc k) tss)

-- the test decides whether a program's types are right
pub types_reflects : (p : Program) → Reflects (TypesRight p) (types_right p)
unfolding TypesRight types_right
types_reflects p = steps_reflects p 0 p.steps

-- the test is true exactly where a program's types are right
pub types_exact : (p : Program) → (types_right p ≡ true) ↔ TypesRight p
types_exact p = reflects_iff (types_reflects p)
