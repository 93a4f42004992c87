-- Sizes and heights stay below the bytes that the tree takes in the stream (for 01, number 6: they are counted past every limit).
use Rattle.std.specs.Prelude.{◌≤◌, length}
use Rattle.std.proofs.Common.{arith, length-append}
use Rattle.program.specs.Tree.{Expr, Expr.inv, Expr.make, Expr.path, Expr.int_lit, Expr.nat_lit, Expr.bool_lit, Expr.null, Expr.self, Expr.op, Exprs}
use Rattle.program.specs.Tree.{Exprs.none, Exprs.more, Stmt, Stmt.when, Stmt.declare, Stmt.update, Stmt.create, Stmts, Stmts.end, Stmts.next}
use Rattle.program.specs.Encoding.{enc_path, enc_expr, enc_exprs, enc_stmt, enc_stmts}
use Rattle.commands.specs.Sizes.{expr_size, args_size, stmt_size, body_size}
use Rattle.commands.specs.Depth.{peak, peaks, stmt_growth, growth, stmt_height, height}

-- Commands ---------------------------------------------------------------------------

mutual
  unfolding expr_size args_size enc_expr enc_exprs enc_path

  -- each command has a byte of its own
  pub expr_size_bytes : (e : Expr) → expr_size e ≤ length (enc_expr e)
  expr_size_bytes (inv e) = omega (arith, expr_size_bytes e)
  expr_size_bytes (make k es) = omega (arith, args_size_bytes es)
  expr_size_bytes (path v vs) = omega arith
  expr_size_bytes (int_lit w) = omega arith
  expr_size_bytes (nat_lit w) = omega arith
  expr_size_bytes (bool_lit w) = omega arith
  expr_size_bytes (null t) = omega arith
  expr_size_bytes self = omega arith
  expr_size_bytes (op o a b) = rw length-append (omega (arith, expr_size_bytes a, expr_size_bytes b))

  pub args_size_bytes : (es : Exprs) → args_size es ≤ length (enc_exprs es)
  args_size_bytes none = omega arith
  args_size_bytes (more e es) = rw length-append (omega (arith, expr_size_bytes e, args_size_bytes es))

mutual
  unfolding stmt_size body_size enc_stmt enc_stmts enc_path

  pub stmt_size_bytes : (s : Stmt) → stmt_size s ≤ length (enc_stmt s)
  stmt_size_bytes (when e b) = rw (length-append (enc_expr e)) (omega (arith, expr_size_bytes e, body_size_bytes b))
  stmt_size_bytes (declare t x e) = omega (arith, expr_size_bytes e)
  stmt_size_bytes (update v vs e) = rw length-append (omega (arith, expr_size_bytes e))
  stmt_size_bytes (create k es) = omega (arith, args_size_bytes es)

  pub body_size_bytes : (b : Stmts) → body_size b ≤ length (enc_stmts b)
  body_size_bytes end = omega arith
  body_size_bytes (next s b) = rw length-append (omega (arith, stmt_size_bytes s, body_size_bytes b))

-- Heights ----------------------------------------------------------------------------

mutual
  unfolding expr_size args_size peak peaks

  -- a stack is no higher than there are commands
  pub peak_size : (e : Expr) → (1 ≤ expr_size e) × (peak e ≤ expr_size e)
  peak_size (inv e) = omega (arith, peak_size e)
  peak_size (make k es) = omega (arith, peaks_size es)
  peak_size (path v vs) = omega arith
  peak_size (int_lit w) = omega arith
  peak_size (nat_lit w) = omega arith
  peak_size (bool_lit w) = omega arith
  peak_size (null t) = omega arith
  peak_size self = omega arith
  peak_size (op o a b) = omega (arith, peak_size a, peak_size b)

  pub peaks_size : (es : Exprs) → peaks es ≤ args_size es
  peaks_size none = omega arith
  peaks_size (more e es) = omega (arith, peak_size e, peaks_size es)

mutual
  unfolding stmt_size body_size growth height

  -- nor are the labels that statements leave, nor is the height
  pub stmt_height_size : (s : Stmt) → (stmt_growth s ≤ stmt_size s) × (stmt_height s ≤ stmt_size s)
  stmt_height_size (when e b) = omega (arith, peak_size e, height_size b)
  stmt_height_size (declare t x e) = omega (arith, peak_size e)
  stmt_height_size (update v vs e) = omega (arith, peak_size e)
  stmt_height_size (create k es) = omega (arith, peaks_size es)

  pub height_size : (b : Stmts) → (growth b ≤ body_size b) × (height b ≤ body_size b)
  height_size end = omega arith
  height_size (next s b) = omega (arith, stmt_height_size s, height_size b)
