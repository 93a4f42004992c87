-- The numbers that a program has for names and types, in the order of its text: those of its steps and of its schedule. And whether its locals have numbers.
use Rattle.std.specs.Prelude.{ℕ, ◌+◌, Bool, true, ◌&&◌, List, [], ◌∷◌, ◌++◌, ltb}
use Rattle.types.specs.Limits.{first_local, max_locals}
use Rattle.types.specs.Types.{code}
use Rattle.program.specs.Tree.{Expr, Expr.inv, Expr.make, Expr.path, Expr.int_lit, Expr.nat_lit, Expr.bool_lit, Expr.null, Expr.self, Expr.op, Exprs}
use Rattle.program.specs.Tree.{Exprs.none, Exprs.more}
use Rattle.program.specs.Tree.{Stmt, Stmt.when, Stmt.declare, Stmt.update, Stmt.create, Stmts, Stmts.end, Stmts.next, Item, Item.call, Item.call_in, Item.fix}
use Rattle.program.specs.Tree.{Items, Items.stop, Items.item, Step}
use Rattle.program.specs.Encoding.{var_code, flat}
use Rattle.meaning.specs.HoldsDecide.{all}

unfoldable mutual
  pub expr_numbers : Expr → List ℕ
  expr_numbers (inv e) = expr_numbers e
  expr_numbers (make k es) = k ∷ exprs_numbers es
  expr_numbers (path v vs) = var_code v ∷ vs
  expr_numbers (int_lit w) = []
  expr_numbers (nat_lit w) = []
  expr_numbers (bool_lit w) = []
  expr_numbers (null t) = code t ∷ []
  expr_numbers self = []
  expr_numbers (op o a b) = expr_numbers a ++ expr_numbers b

  pub exprs_numbers : Exprs → List ℕ
  exprs_numbers none = []
  exprs_numbers (more e es) = expr_numbers e ++ exprs_numbers es

unfoldable mutual
  unfolding expr_numbers exprs_numbers

  pub stmt_numbers : Stmt → List ℕ
  stmt_numbers (when e b) = expr_numbers e ++ stmts_numbers b
  stmt_numbers (declare t x e) = code t ∷ (first_local + x) ∷ expr_numbers e
  stmt_numbers (update v vs e) = (var_code v ∷ vs) ++ expr_numbers e
  stmt_numbers (create k es) = k ∷ exprs_numbers es

  pub stmts_numbers : Stmts → List ℕ
  stmts_numbers end = []
  stmts_numbers (next t b) = stmt_numbers t ++ stmts_numbers b

unfoldable pub step_numbers : Step → List ℕ
unfolding stmts_numbers
step_numbers t = t.name ∷ stmts_numbers t.body

abbrev pub steps_numbers : List Step → List ℕ
steps_numbers l = flat step_numbers l

unfoldable mutual
  pub item_numbers : Item → List ℕ
  item_numbers (call n) = n ∷ []
  item_numbers (call_in k n) = k ∷ n ∷ []
  item_numbers (fix is) = items_numbers is

  pub items_numbers : Items → List ℕ
  items_numbers stop = []
  items_numbers (item i is) = item_numbers i ++ items_numbers is

-- Locals that a stream has numbers for -------------------------------------------------------------

unfoldable mutual
  pub few_stmt : Stmt → Bool
  few_stmt (when e b) = few_stmts b
  few_stmt (declare t x e) = ltb x max_locals
  few_stmt (update v vs e) = true
  few_stmt (create k es) = true

  pub few_stmts : Stmts → Bool
  few_stmts end = true
  few_stmts (next t b) = few_stmt t && few_stmts b

unfoldable pub few_step : Step → Bool
unfolding few_stmts
few_step t = few_stmts t.body

abbrev pub few_steps : List Step → Bool
few_steps l = all few_step l
