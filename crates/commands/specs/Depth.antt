-- Depth: the greatest stack height over both ways through each if (01, 'Names, types, commands').
use Rattle.std.specs.Prelude.{ℕ, zero, suc, ◌+◌, ◌-◌, max, List, [], ◌∷◌, map, length, get_or}
use Rattle.program.specs.Tree.{Expr, Expr.inv, Expr.make, Expr.path, Expr.int_lit, Expr.nat_lit, Expr.bool_lit, Expr.null, Expr.self, Expr.op, Exprs}
use Rattle.program.specs.Tree.{Exprs.none, Exprs.more, Stmt, Stmt.when, Stmt.declare, Stmt.update, Stmt.create, Stmts, Stmts.end, Stmts.next}
use Rattle.commands.specs.Commands.{Com, Com.push, Com.push_this, Com.rd, Com.wr, Com.cons, Com.not, Com.oper, Flat, Flat.plain, Flat.if_n}

-- the height after a command; `ar` has the parameter count of each struct
abbrev pub after : List ℕ → Com → ℕ → ℕ
after ar (push t v) h = suc h
after ar push_this h = suc h
after ar (rd x) h = suc (h - 1)
after ar (wr x) h = h - 2
after ar (cons k) h = suc (h - get_or ar k 0)
after ar not h = suc (h - 1)
after ar (oper o) h = suc (h - 2)

-- the greatest height of these commands from height h, where the first j of them are left out
unfoldable pub depth : List ℕ → List Flat → ℕ → ℕ → ℕ
depth ar [] j h = h
depth ar (m ∷ c) (suc j) h = depth ar c j h
depth ar (plain m ∷ c) zero h = max h (depth ar c 0 (after ar m h))
depth ar (if_n n ∷ c) zero h = max h (max (depth ar c 0 (h - 1)) (depth ar c n (h - 1)))

-- The same on the tree, in one walk --------------------------------------------

unfoldable mutual
  pub peak : Expr → ℕ
  peak (inv e) = peak e
  peak (make k es) = max 1 (peaks es)
  peak (path v vs) = 1
  peak (int_lit w) = 1
  peak (nat_lit w) = 1
  peak (bool_lit w) = 1
  peak (null t) = 1
  peak self = 1
  peak (op o a b) = max (peak a) (suc (peak b))

  pub peaks : Exprs → ℕ
  peaks none = 0
  peaks (more e es) = max (peak e) (suc (peaks es))

-- the labels that construct statements leave, where every body is taken
unfoldable mutual
  pub stmt_growth : Stmt → ℕ
  stmt_growth (when e b) = growth b
  stmt_growth (declare t x e) = 0
  stmt_growth (update v vs e) = 0
  stmt_growth (create k es) = 1

  pub growth : Stmts → ℕ
  growth end = 0
  growth (next s b) = stmt_growth s + growth b

-- the greatest height, where every body is taken
unfoldable mutual
  pub stmt_height : Stmt → ℕ
  stmt_height (when e b) = max (peak e) (height b)
  stmt_height (declare t x e) = max (peak e) 2
  stmt_height (update v vs e) = max (peak e) 2
  stmt_height (create k es) = max 1 (peaks es)

  pub height : Stmts → ℕ
  height end = 0
  height (next s b) = max (stmt_height s) (stmt_growth s + height b)
