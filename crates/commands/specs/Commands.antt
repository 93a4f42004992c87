-- Commands and the interpretation function (000, definitions 1 and 2; 01, 'Names, types, commands').
-- 000's `if(C)` holds its commands; the list handed out has `if n` before its n body commands.
use Rattle.std.specs.Prelude.{ℕ, List, [], ◌∷◌, ◌++◌, length}
use Rattle.types.specs.Types.{Ty, Ty.int, Ty.nat, Ty.bool}
use Rattle.types.specs.Values.{Val, default, value_of}
use Rattle.program.specs.Tree.{Var, Var.loc, Op, Expr, Expr.inv, Expr.make, Expr.path, Expr.int_lit, Expr.nat_lit, Expr.bool_lit, Expr.null}
use Rattle.program.specs.Tree.{Expr.self, Expr.op, Exprs, Exprs.none, Exprs.more, Stmt, Stmt.when, Stmt.declare, Stmt.update, Stmt.create, Stmts}
use Rattle.program.specs.Tree.{Stmts.end, Stmts.next}
use Rattle.program.specs.Encoding.{var_code}

-- 000, definition 1: a command other than if; `push T V` with its type, as 01 lists it
pub data Com : Type 0 where
  push : Ty → Val → Com
  push_this : Com
  rd wr : ℕ → Com
  cons : ℕ → Com
  not : Com
  -- 000's op(o)
  oper : Op → Com

-- lists of commands: ε, a command before others, if(C) before others
pub data Coms : Type 0 where
  nil : Coms
  act : Com → Coms → Coms
  if_then : Coms → Coms → Coms

-- 000 writes `;`
unfoldable pub then : Coms → Coms → Coms
then nil d = d
then (act m c) d = act m (then c d)
then (if_then b c) d = if_then b (then c d)

abbrev pub one : Com → Coms
one m = act m nil

-- ⟦v₁; ..; vₙ⟧: push this, then rd of each variable
unfoldable pub reads : List ℕ → Coms
reads [] = nil
reads (x ∷ xs) = act (rd x) (reads xs)

abbrev pub path_coms : List ℕ → Coms
path_coms xs = act push_this (reads xs)

-- all but the last of x, xs; and the last
unfoldable pub front : ℕ → List ℕ → List ℕ
front x [] = []
front x (y ∷ ys) = x ∷ front y ys

unfoldable pub last : ℕ → List ℕ → ℕ
last x [] = x
last x (y ∷ ys) = last y ys

-- 000, definition 2, of expressions
unfoldable mutual
  pub expr_coms : Expr → Coms
  expr_coms (inv e) = then (expr_coms e) (one not)
  expr_coms (make k es) = then (args_coms es) (one (cons k))
  expr_coms (path v vs) = path_coms (var_code v ∷ vs)
  expr_coms (int_lit w) = one (push int (value_of int w))
  expr_coms (nat_lit w) = one (push nat (value_of nat w))
  expr_coms (bool_lit w) = one (push bool (value_of bool w))
  expr_coms (null t) = one (push t (default t))
  expr_coms self = one push_this
  expr_coms (op o a b) = then (expr_coms a) (then (expr_coms b) (one (oper o)))

  pub args_coms : Exprs → Coms
  args_coms none = nil
  args_coms (more e es) = then (expr_coms e) (args_coms es)

-- ⟦v₁; ..; vₙ; v := a⟧
unfoldable pub update_coms : Var → List ℕ → Expr → Coms
update_coms v vs e =
    then (expr_coms e) (then (path_coms (front (var_code v) vs)) (one (wr (last (var_code v) vs))))

-- 000, definition 2, of statements
unfoldable mutual
  pub stmt_coms : Stmt → Coms
  stmt_coms (when e b) = then (expr_coms e) (if_then (body_coms b) nil)
  stmt_coms (declare t x e) = update_coms (loc x) [] e
  stmt_coms (update v vs e) = update_coms v vs e
  stmt_coms (create k es) = then (args_coms es) (one (cons k))

  pub body_coms : Stmts → Coms
  body_coms end = nil
  body_coms (next s b) = then (stmt_coms s) (body_coms b)

-- The list that is handed out -------------------------------------------------

pub data Flat : Type 0 where
  plain : Com → Flat
  if_n : ℕ → Flat

unfoldable pub flatten : Coms → List Flat
flatten nil = []
flatten (act m c) = plain m ∷ flatten c
flatten (if_then b c) = if_n (length (flatten b)) ∷ flatten b ++ flatten c

-- the commands of a step's statements
unfoldable pub commands : Stmts → List Flat
commands b = flatten (body_coms b)
