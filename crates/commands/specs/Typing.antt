-- When a program's types are right (01, 'Names, types, commands'; number 8).
use Rattle.std.specs.Prelude.{ℕ, suc, ◌<◌, List, [], ◌∷◌, length}
use Rattle.types.specs.Types.{Ty, Ty.int, Ty.nat, Ty.bool, Ty.ref}
use Rattle.program.specs.Tree.{Var, Var.par, Var.loc, Op, Op.op_eq, Op.op_ne, Op.op_le, Op.op_ge, Op.op_lt, Op.op_gt, Op.op_mul, Op.op_div, Op.op_rem}
use Rattle.program.specs.Tree.{Op.op_add, Op.op_sub, Op.op_and, Op.op_or, Expr, Expr.inv, Expr.make, Expr.path, Expr.int_lit, Expr.nat_lit}
use Rattle.program.specs.Tree.{Expr.bool_lit, Expr.null, Expr.self, Expr.op, Exprs, Exprs.none, Exprs.more, Stmt, Stmt.when, Stmt.declare}
use Rattle.program.specs.Tree.{Stmt.update, Stmt.create, Stmts, Stmts.end, Stmts.next, Step, Program}
use Rattle.program.specs.Counts.{All}
use Rattle.commands.specs.Context.{Ctx, typ, context}

-- =, ≠; ≤, ≥, <, >; ×, /, %, +, −; and, or
pub data Sort : Type 0 where
  equality order arithmetic logic : Sort

abbrev pub sort : Op → Sort
sort op_eq = equality
sort op_ne = equality
sort op_le = order
sort op_ge = order
sort op_lt = order
sort op_gt = order
sort op_mul = arithmetic
sort op_div = arithmetic
sort op_rem = arithmetic
sort op_add = arithmetic
sort op_sub = arithmetic
sort op_and = logic
sort op_or = logic

-- operators of a sort take two of the first type and give the second
pub data Takes : Sort → Ty → Ty → Type 0 where
  any_equal : {t : Ty} → Takes equality t bool
  order_int : Takes order int bool
  order_nat : Takes order nat bool
  arith_int : Takes arithmetic int int
  arith_nat : Takes arithmetic nat nat
  logic_bool : Takes logic bool bool

-- from a value of the first type these parameters lead to the second: each is one of the struct that its predecessor refers to
pub data Leads (G : Ctx) : Ty → List ℕ → Ty → Type 0 where
  arrived : {t : Ty} → Leads G t [] t
  onward : {k x : ℕ} {xs : List ℕ} {t : Ty} → x < length (G.params k) → Leads G (typ G k x) xs t → Leads G (ref k) (x ∷ xs) t

-- a path from its first variable
pub data Reaches (G : Ctx) : Var → List ℕ → Ty → Type 0 where
  from_own : {x : ℕ} {xs : List ℕ} {t : Ty} → Leads G (ref G.own) (x ∷ xs) t → Reaches G (par x) xs t
  from_local : {x : ℕ} {xs : List ℕ} {t : Ty} → Leads G (G.local x) xs t → Reaches G (loc x) xs t

mutual
  pub data Types (G : Ctx) : Expr → Ty → Type 0 where
    t_not : {e : Expr} → Types G e bool → Types G (inv e) bool
    t_make : {k : ℕ} {es : Exprs} → TypesAll G es (G.params k) → Types G (make k es) (ref k)
    t_path : {v : Var} {vs : List ℕ} {t : Ty} → Reaches G v vs t → Types G (path v vs) t
    t_int : {w : ℕ} → Types G (int_lit w) int
    t_nat : {w : ℕ} → Types G (nat_lit w) nat
    t_bool : {w : ℕ} → Types G (bool_lit w) bool
    t_null : {t : Ty} → Types G (null t) t
    t_this : Types G self (ref G.own)
    t_op : {o : Op} {a b : Expr} {t u : Ty} → Takes (sort o) t u → Types G a t → Types G b t → Types G (op o a b) u

  -- one expression per parameter, of its type exactly
  pub data TypesAll (G : Ctx) : Exprs → List Ty → Type 0 where
    t_none : TypesAll G none []
    t_more : {e : Expr} {es : Exprs} {t : Ty} {ts : List Ty} → Types G e t → TypesAll G es ts → TypesAll G (more e es) (t ∷ ts)

mutual
  pub data TypedStmt (G : Ctx) : Stmt → Type 0 where
    t_when : {e : Expr} {b : Stmts} → Types G e bool → Typed G b → TypedStmt G (when e b)
    t_declare : {t : Ty} {x : ℕ} {e : Expr} → Types G e t → TypedStmt G (declare t x e)
    t_update : {v : Var} {vs : List ℕ} {t : Ty} {e : Expr} → Reaches G v vs t → Types G e t → TypedStmt G (update v vs e)
    t_create : {k : ℕ} {es : Exprs} → TypesAll G es (G.params k) → TypedStmt G (create k es)

  pub data Typed (G : Ctx) : Stmts → Type 0 where
    t_end : Typed G end
    t_next : {s : Stmt} {b : Stmts} → TypedStmt G s → Typed G b → Typed G (next s b)

-- the steps of each struct, from struct k on
abbrev pub TypedSteps : Program → ℕ → List (List Step) → Type 0
TypedSteps p k [] = Unit {0}
TypedSteps p k (ts ∷ tss) = (All (λ t. Typed (context p k t.body) t.body) ts) × (TypedSteps p (suc k) tss)

unfoldable pub TypesRight : Program → Type 0
TypesRight p = TypedSteps p 0 p.steps
