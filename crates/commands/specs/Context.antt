-- What a step is read against: each struct's parameter types, its own struct, the type of each local (01, 'Names, types, commands').
use Rattle.std.specs.Prelude.{ℕ, true, false, List, [], ◌∷◌, get_or, eqb}
use Rattle.std.proofs.Math.Option.{Option, none, some}
use Rattle.types.specs.Types.{Ty, Ty.int}
use Rattle.program.specs.Tree.{Stmt, Stmt.when, Stmt.declare, Stmt.update, Stmt.create, Stmts, Stmts.end, Stmts.next, Step, Program}

pub record Ctx : Type 0 where
  pub params : ℕ → List Ty
  pub own : ℕ
  pub local : ℕ → Ty

-- the type of parameter x of struct k
abbrev pub typ : Ctx → ℕ → ℕ → Ty
typ G k x = get_or (G.params k) x int

-- the type that a body declares for the local x, or d where it declares none: a number is declared once in a step (number 7)
unfoldable mutual
  pub stmt_local : Stmt → ℕ → Ty → Ty
  stmt_local (when e b) x d = body_local b x d
  stmt_local (declare t y e) x d = elim (eqb x y) [ true ↦ t | false ↦ d ]
  stmt_local (update v vs e) x d = d
  stmt_local (create k es) x d = d

  pub body_local : Stmts → ℕ → Ty → Ty
  body_local end x d = d
  body_local (next s b) x d = stmt_local s x (body_local b x d)

-- the parameter types of struct k of a program
abbrev pub params_of : Program → ℕ → List Ty
params_of p k = get_or p.params k []

-- a body of struct k
abbrev pub context : Program → ℕ → Stmts → Ctx
context p k b = record { params = params_of p; own = k; local = λ x. body_local b x int }

-- 000's S: the statements of the step n of struct k, where it has one
unfoldable pub find_step : List Step → ℕ → Option Stmts
find_step [] n = none
find_step (t ∷ ts) n = elim (eqb t.name n) [ true ↦ some t.body | false ↦ find_step ts n ]

abbrev pub step_of : Program → ℕ → ℕ → Option Stmts
step_of p k n = find_step (get_or p.steps k []) n
