-- The counts on the tree are the lengths of the command lists (01, 'Names, types, commands').
use Rattle.std.specs.Prelude.{ℕ, suc, ◌+◌, ◌≡◌, refl, List, [], ◌∷◌, length}
use Rattle.std.proofs.Common.{arith, ap, append-nil, length-append}
use Rattle.std.proofs.Math.Path.{fun_ext}
use Rattle.program.specs.Tree.{Var, Var.loc, Expr, Expr.inv, Expr.make, Expr.path, Expr.int_lit, Expr.nat_lit, Expr.bool_lit, Expr.null, Expr.self}
use Rattle.program.specs.Tree.{Expr.op, Exprs, Exprs.none, Exprs.more, Stmt, Stmt.when, Stmt.declare, Stmt.update, Stmt.create, Stmts, Stmts.end}
use Rattle.program.specs.Tree.{Stmts.next, Step, Program}
use Rattle.commands.specs.Commands.{Coms, then, reads, front, expr_coms, args_coms, update_coms, stmt_coms, body_coms, flatten, commands}
use Rattle.commands.proofs.Laws.CommandLaws.{flatten_then}
use Rattle.commands.specs.Bounds.{total, program_size}
use Rattle.commands.specs.Sizes.{expr_size, args_size, stmt_size, body_size}

-- the length of the flat list
abbrev len : Coms → ℕ
len c = length (flatten c)

len_then : (c d : Coms) → len (then c d) ≡ len c + len d
len_then c d = rw flatten_then (length-append (flatten c) (flatten d))

len_reads : (xs : List ℕ) → len (reads xs) ≡ length xs
unfolding reads flatten
len_reads [] = refl
len_reads (x ∷ xs) = ap suc (len_reads xs)

length_front : (x : ℕ) (xs : List ℕ) → length (front x xs) ≡ length xs
unfolding front
length_front x [] = refl
length_front x (y ∷ ys) = ap suc (length_front y ys)

mutual
  unfolding expr_coms expr_size flatten

  -- an expression gives as many commands as counted
  pub expr_length : (e : Expr) → len (expr_coms e) ≡ expr_size e
  expr_length (inv e) = rw (len_then, expr_length e) (omega arith)
  expr_length (make k es) = rw (len_then, args_length es) (omega arith)
  expr_length (path v vs) = rw len_reads
  expr_length (int_lit w) = refl
  expr_length (nat_lit w) = refl
  expr_length (bool_lit w) = refl
  expr_length (null t) = refl
  expr_length self = refl
  expr_length (op o a b) = rw (len_then, len_then (expr_coms b), expr_length a, expr_length b) (omega arith)

  -- and so do expressions
  pub args_length : (es : Exprs) → len (args_coms es) ≡ args_size es
  args_length none = refl
  args_length (more e es) = rw (len_then, expr_length e, args_length es)

update_length : (v : Var) (vs : List ℕ) (e : Expr) → len (update_coms v vs e) ≡ expr_size e + suc (suc (length vs))
unfolding update_coms flatten
update_length v vs e = rw (len_then, len_then, expr_length e, len_reads, length_front) (omega arith)

mutual
  unfolding stmt_coms stmt_size flatten

  -- and a statement
  pub stmt_length : (s : Stmt) → len (stmt_coms s) ≡ stmt_size s
  stmt_length (when e b) = rw (len_then, expr_length e, append-nil (flatten (body_coms b)), body_len b)
  stmt_length (declare t x e) = omega (arith, update_length (loc x) [] e)
  stmt_length (update v vs e) = update_length v vs e
  stmt_length (create k es) = rw (len_then, args_length es) (omega arith)

  body_len : (b : Stmts) → len (body_coms b) ≡ body_size b
  body_len end = refl
  body_len (next s b) = rw (len_then, stmt_length s, body_len b)

-- and a step
pub body_length : (b : Stmts) → length (commands b) ≡ body_size b
unfolding commands
body_length b = body_len b

-- the commands of a program, counted on its trees
pub program_size_is : (p : Program) → program_size p ≡ total (total (λ t. body_size t.body)) p.steps
unfolding program_size
program_size_is p = ap (λ f. total (total f) p.steps) (fun_ext (λ (t : Step). body_length t.body))
