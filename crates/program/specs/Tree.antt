-- Programs as trees (01, 'Program stream'; the abstract syntax of 000, section 3). Nothing here speaks of bytes.
use Rattle.std.specs.Prelude.{ℕ, suc, List}
use Rattle.types.specs.Types.{Ty}

-- the first variable of a path: a parameter by position, or a local by its number from 0
pub data Var : Type 0 where
  par loc : ℕ → Var

-- =, ≠, ≤, ≥, <, >, ×, /, %, +, −, and, or
pub data Op : Type 0 where
  op_eq op_ne op_le op_ge op_lt op_gt op_mul op_div op_rem op_add op_sub op_and op_or : Op

mutual
  pub data Expr : Type 0 where
    -- not
    inv : Expr → Expr
    -- construct an instance of a struct, one expression per parameter
    make : ℕ → Exprs → Expr
    -- a path: its first variable and the parameters behind it
    path : Var → List ℕ → Expr
    -- literals, by the number that their bytes are
    int_lit nat_lit bool_lit : ℕ → Expr
    null : Ty → Expr
    self : Expr
    op : Op → Expr → Expr → Expr

  pub data Exprs : Type 0 where
    none : Exprs
    more : Expr → Exprs → Exprs

mutual
  pub data Stmt : Type 0 where
    when : Expr → Stmts → Stmt
    -- a type, a local's number from 0, its value
    declare : Ty → ℕ → Expr → Stmt
    update : Var → List ℕ → Expr → Stmt
    create : ℕ → Exprs → Stmt

  pub data Stmts : Type 0 where
    end : Stmts
    next : Stmt → Stmts → Stmts

mutual
  pub data Item : Type 0 where
    -- a step name, on every struct that has it; a struct and a step name
    call : ℕ → Item
    call_in : ℕ → ℕ → Item
    fix : Items → Item

  pub data Items : Type 0 where
    stop : Items
    item : Item → Items → Items

pub record Step : Type 0 where
  pub name : ℕ
  pub body : Stmts

-- the types of each struct's parameters, each struct's steps, and the schedule
pub record Program : Type 0 where
  pub params : List (List Ty)
  pub steps : List (List Step)
  pub schedule : Items

-- how many stand in a row
unfoldable pub args : Exprs → ℕ
args none = 0
args (more e es) = suc (args es)

unfoldable pub size : Stmts → ℕ
size end = 0
size (next t b) = suc (size b)

unfoldable pub items : Items → ℕ
items stop = 0
items (item i is) = suc (items is)
