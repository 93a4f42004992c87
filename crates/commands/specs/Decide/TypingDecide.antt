-- Whether a program's types are right (01, number 8), as a test: the type of each expression is computed.
use Rattle.std.specs.Prelude.{ℕ, suc, Bool, true, false, ◌&&◌, List, [], ◌∷◌, length, ltb}
use Rattle.types.specs.Types.{Ty, Ty.int, Ty.nat, Ty.bool, Ty.ref, same_type}
use Rattle.program.specs.Tree.{Var, Var.par, Var.loc, Expr, Expr.inv, Expr.make, Expr.path, Expr.int_lit, Expr.nat_lit, Expr.bool_lit, Expr.null}
use Rattle.program.specs.Tree.{Expr.self, Expr.op, Exprs, Exprs.none, Exprs.more, Stmt, Stmt.when, Stmt.declare, Stmt.update, Stmt.create, Stmts}
use Rattle.program.specs.Tree.{Stmts.end, Stmts.next, Step, Program}
use Rattle.commands.specs.Context.{Ctx, typ, context}
use Rattle.commands.specs.Typing.{Sort, Sort.equality, Sort.order, Sort.arithmetic, Sort.logic, sort}
use Rattle.commands.specs.Decide.{every}

-- the type of an expression or a path, where it has one
pub data Judgement : Type 0 where
  untypable : Judgement
  of_type : Ty → Judgement

-- whether it is this type; whether two are one
unfoldable pub is_of : Ty → Judgement → Bool
is_of t untypable = false
is_of t (of_type u) = same_type t u

unfoldable pub agree : Judgement → Judgement → Bool
agree untypable j = false
agree (of_type t) j = is_of t j

-- a type under a test
unfoldable pub given : Bool → Ty → Judgement
given true t = of_type t
given false t = untypable

-- what operators of a sort give of two of a type; of two operands
unfoldable pub result : Sort → Ty → Judgement
result equality t = of_type bool
result order int = of_type bool
result order nat = of_type bool
result order bool = untypable
result order (ref k) = untypable
result arithmetic int = of_type int
result arithmetic nat = of_type nat
result arithmetic bool = untypable
result arithmetic (ref k) = untypable
result logic int = untypable
result logic nat = untypable
result logic bool = of_type bool
result logic (ref k) = untypable

unfoldable pub operate : Sort → Judgement → Judgement → Judgement
operate s untypable j = untypable
operate s (of_type t) j = elim (is_of t j) [ true ↦ result s t | false ↦ untypable ]

module _ (G : Ctx) where
  -- where these parameters lead from a value of this type
  unfoldable pub lead : Ty → List ℕ → Judgement
  lead t [] = of_type t
  lead int (x ∷ xs) = untypable
  lead nat (x ∷ xs) = untypable
  lead bool (x ∷ xs) = untypable
  lead (ref k) (x ∷ xs) = elim (ltb x (length (G.params k))) [ true ↦ lead (typ G k x) xs | false ↦ untypable ]

  unfoldable pub path_type : Var → List ℕ → Judgement
  path_type (par x) xs = lead (ref G.own) (x ∷ xs)
  path_type (loc x) xs = lead (G.local x) xs

  unfoldable mutual
    pub expr_type : Expr → Judgement
    expr_type (inv e) = given (is_of bool (expr_type e)) bool
    expr_type (make k es) = given (args_typed es (G.params k)) (ref k)
    expr_type (path v vs) = path_type v vs
    expr_type (int_lit w) = of_type int
    expr_type (nat_lit w) = of_type nat
    expr_type (bool_lit w) = of_type bool
    expr_type (null t) = of_type t
    expr_type self = of_type (ref G.own)
    expr_type (op o a b) = operate (sort o) (expr_type a) (expr_type b)

    pub args_typed : Exprs → List Ty → Bool
    args_typed none [] = true
    args_typed none (t ∷ ts) = false
    args_typed (more e es) [] = false
    args_typed (more e es) (t ∷ ts) = is_of t (expr_type e) && args_typed es ts

  unfoldable mutual
    pub stmt_typed : Stmt → Bool
    stmt_typed (when e b) = is_of bool (expr_type e) && body_typed b
    stmt_typed (declare t x e) = is_of t (expr_type e)
    stmt_typed (update v vs e) = agree (path_type v vs) (expr_type e)
    stmt_typed (create k es) = args_typed es (G.params k)

    pub body_typed : Stmts → Bool
    body_typed end = true
    body_typed (next s b) = stmt_typed s && body_typed b

-- the steps of each struct, from struct k on
unfoldable pub steps_typed : Program → ℕ → List (List Step) → Bool
steps_typed p k [] = true
steps_typed p k (ts ∷ tss) = every (λ t. body_typed (context p k t.body) t.body) ts && steps_typed p (suc k) tss

unfoldable pub types_right : Program → Bool
types_right p = steps_typed p 0 p.steps
