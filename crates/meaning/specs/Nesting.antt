-- Nesting within 01's levels: what the checker asks of a program beside what a stream holds (02 §1, 17: "nesting apart").
use Rattle.std.specs.Prelude.{◌≤◌}
use Rattle.types.specs.Limits.{fix_levels, if_levels, expr_levels}
use Rattle.program.specs.Tree.{Stmt, Stmt.when, Stmt.declare, Stmt.update, Stmt.create, Stmts, Stmts.end, Stmts.next, Step, Program}
use Rattle.program.specs.Counts.{All, expr_height, args_height, nests, fixes_in}

unfoldable mutual
  pub ShallowStmt : Stmt → Type 0
  ShallowStmt (when e b) = (expr_height e ≤ expr_levels) × (ShallowStmts b)
  ShallowStmt (declare t x e) = expr_height e ≤ expr_levels
  ShallowStmt (update v vs e) = expr_height e ≤ expr_levels
  ShallowStmt (create k es) = args_height es ≤ expr_levels

  pub ShallowStmts : Stmts → Type 0
  ShallowStmts end = Unit {0}
  ShallowStmts (next t b) = (ShallowStmt t) × (ShallowStmts b)

unfoldable pub ShallowStep : Step → Type 0
ShallowStep t = (ShallowStmts t.body) × (nests t.body ≤ if_levels)

unfoldable pub Shallow : Program → Type 0
Shallow p = (All (All ShallowStep) p.steps) × (fixes_in p.schedule ≤ fix_levels)
