-- What is written of a program: its stream behind the parameters' types; from which numbers; and what writing asks, at most so many statements in a body,
-- items in a row, steps in a struct, variables in a path, in the order of writing.
use Rattle.std.specs.Prelude.{ℕ, Bool, true, ◌&&◌, List, [], ◌∷◌, ◌++◌, length, leb, ltb}
use Rattle.types.specs.Limits.{max_statements, max_steps}
use Rattle.program.specs.Tree.{Expr, Expr.inv, Expr.make, Expr.path, Expr.int_lit, Expr.nat_lit, Expr.bool_lit, Expr.null, Expr.self, Expr.op, Exprs}
use Rattle.program.specs.Tree.{Exprs.none, Exprs.more}
use Rattle.program.specs.Tree.{Stmt, Stmt.when, Stmt.declare, Stmt.update, Stmt.create, Stmts, Stmts.end, Stmts.next, Item, Item.call, Item.call_in, Item.fix}
use Rattle.program.specs.Tree.{Items, Items.stop, Items.item, Step, Program, size, items}
use Rattle.program.specs.Encoding.{flat, enc_list, enc_step, enc_items}
use Rattle.resolve.specs.Uses.{uses_numbers}
use Rattle.compose.specs.Writing.{max_later}

unfoldable mutual
  pub checks_expr : Expr → Bool → Bool
  checks_expr (inv e) f = checks_expr e f
  checks_expr (make k es) f = checks_exprs es f
  checks_expr (path v vs) f = f && leb (length vs) max_later
  checks_expr (int_lit w) f = f
  checks_expr (nat_lit w) f = f
  checks_expr (bool_lit w) f = f
  checks_expr (null t) f = f
  checks_expr self f = f
  checks_expr (op o a b) f = checks_expr a (checks_expr b f)

  pub checks_exprs : Exprs → Bool → Bool
  checks_exprs none f = f
  checks_exprs (more e es) f = checks_expr e (checks_exprs es f)

unfoldable mutual
  unfolding checks_expr checks_exprs

  pub checks_stmt : Stmt → Bool → Bool
  checks_stmt (when e b) f = checks_expr e (checks_stmts b f)
  checks_stmt (declare t x e) f = checks_expr e f
  checks_stmt (update v vs e) f = checks_expr e f && leb (length vs) max_later
  checks_stmt (create k es) f = checks_exprs es f

  pub checks_stmts : Stmts → Bool → Bool
  checks_stmts end f = f
  checks_stmts (next t b) f = checks_stmt t (checks_stmts b f) && ltb (size b) max_statements

unfoldable pub checks_steps : List Step → Bool → Bool
unfolding checks_stmts
checks_steps [] f = f
checks_steps (t ∷ l) f = checks_stmts t.body (checks_steps l f) && ltb (length l) max_steps

unfoldable mutual
  pub checks_item : Item → Bool → Bool
  checks_item (call n) f = f
  checks_item (call_in k n) f = f
  checks_item (fix is) f = checks_items is f

  pub checks_items : Items → Bool → Bool
  checks_items stop f = f
  checks_items (item i is) f = checks_item i (checks_items is f) && ltb (items is) max_statements

-- of the steps of structs in a row
unfoldable pub checks_structs : List (List Step) → Bool → Bool
unfolding checks_steps
checks_structs [] f = f
checks_structs (l ∷ ls) f = checks_steps l (checks_structs ls f)

-- Of a program -------------------------------------------------------------------------------------

unfoldable pub checks : Program → Bool
unfolding checks_structs checks_items
checks p = checks_structs p.steps (checks_items p.schedule true)

unfoldable pub stream_behind : Program → List ℕ
stream_behind p = flat (enc_list enc_step) p.steps ++ (items p.schedule ∷ enc_items p.schedule)

-- the numbers of its names and types in the order of the text
unfoldable pub numbers_of : Program → List ℕ
unfolding uses_numbers
numbers_of p = uses_numbers (record { steps = p.steps; schedule = p.schedule })
