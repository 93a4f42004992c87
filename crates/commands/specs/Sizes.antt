-- How many commands a tree gives, counted without building them (01, number 6; 000, definition 2).
use Rattle.std.specs.Prelude.{ℕ, suc, ◌+◌, length}
use Rattle.program.specs.Tree.{Expr, Expr.inv, Expr.make, Expr.path, Expr.int_lit, Expr.nat_lit, Expr.bool_lit, Expr.null, Expr.self, Expr.op, Exprs}
use Rattle.program.specs.Tree.{Exprs.none, Exprs.more, Stmt, Stmt.when, Stmt.declare, Stmt.update, Stmt.create, Stmts, Stmts.end, Stmts.next}

unfoldable mutual
  pub expr_size : Expr → ℕ
  expr_size (inv e) = suc (expr_size e)
  expr_size (make k es) = suc (args_size es)
  -- push this and an rd of each variable
  expr_size (path v vs) = suc (suc (length vs))
  expr_size (int_lit w) = 1
  expr_size (nat_lit w) = 1
  expr_size (bool_lit w) = 1
  expr_size (null t) = 1
  expr_size self = 1
  expr_size (op o a b) = suc (expr_size a + expr_size b)

  pub args_size : Exprs → ℕ
  args_size none = 0
  args_size (more e es) = expr_size e + args_size es

unfoldable mutual
  pub stmt_size : Stmt → ℕ
  -- `if n` is one, beside the condition and the body
  stmt_size (when e b) = expr_size e + suc (body_size b)
  stmt_size (declare t x e) = suc (suc (expr_size e))
  -- push this, an rd or wr of each variable
  stmt_size (update v vs e) = expr_size e + suc (suc (length vs))
  stmt_size (create k es) = suc (args_size es)

  pub body_size : Stmts → ℕ
  body_size end = 0
  body_size (next s b) = stmt_size s + body_size b
