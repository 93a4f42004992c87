-- The counts, ranges and nesting that a program keeps to (01, 'Program stream'), as conditions on the tree.
use Rattle.std.specs.Prelude.{ℕ, suc, max, ◌<◌, ◌≤◌, ◌≡◌, List, [], ◌∷◌, map, length, get_or}
use Rattle.types.specs.Limits.{max_structs, max_params, max_steps, step_names, max_statements, max_items, nat_end, first_local, max_locals, max_path}
use Rattle.types.specs.Limits.{fix_levels, if_levels, expr_levels}
use Rattle.types.specs.Types.{IsType}
use Rattle.program.specs.Tree.{Var, Var.par, Var.loc, Expr, Expr.inv, Expr.make, Expr.path, Expr.int_lit, Expr.nat_lit, Expr.bool_lit}
use Rattle.program.specs.Tree.{Expr.null, Expr.self, Expr.op, Exprs, Exprs.none, Exprs.more, Stmt, Stmt.when, Stmt.declare, Stmt.update}
use Rattle.program.specs.Tree.{Stmt.create, Stmts, Stmts.end, Stmts.next, Item, Item.call, Item.call_in, Item.fix, Items, Items.stop}
use Rattle.program.specs.Tree.{Items.item, Step, Program, args, size, items}

-- of every element
abbrev pub All : {A : Type 0} → (A → Type 0) → List A → Type 0
All C [] = Unit {0}
All C (a ∷ l) = (C a) × (All C l)

-- levels of an expression (a literal alone is 1); ifs and Fixes that stand in one another
unfoldable mutual
  pub expr_height : Expr → ℕ
  expr_height (inv e) = suc (expr_height e)
  expr_height (make k es) = suc (args_height es)
  expr_height (path v vs) = 1
  expr_height (int_lit w) = 1
  expr_height (nat_lit w) = 1
  expr_height (bool_lit w) = 1
  expr_height (null t) = 1
  expr_height self = 1
  expr_height (op o a b) = suc (max (expr_height a) (expr_height b))

  pub args_height : Exprs → ℕ
  args_height none = 0
  args_height (more e es) = max (expr_height e) (args_height es)

unfoldable mutual
  pub nest : Stmt → ℕ
  nest (when e b) = suc (nests b)
  nest (declare t x e) = 0
  nest (update v vs e) = 0
  nest (create k es) = 0

  pub nests : Stmts → ℕ
  nests end = 0
  nests (next t b) = max (nest t) (nests b)

unfoldable mutual
  pub fixes : Item → ℕ
  fixes (call n) = 0
  fixes (call_in k n) = 0
  fixes (fix is) = suc (fixes_in is)

  pub fixes_in : Items → ℕ
  fixes_in stop = 0
  fixes_in (item i is) = max (fixes i) (fixes_in is)

-- 0-7 a parameter by position, 8-15 a local
unfoldable pub IsVar : Var → Type 0
IsVar (par x) = x < first_local
IsVar (loc x) = x < max_locals

-- 1 to 4 variables, of which only the first may be a local
unfoldable pub IsPath : Var → List ℕ → Type 0
IsPath v vs = (IsVar v) × (length vs < max_path) × (All (λ x. x < first_local) vs)

-- counts and ranges; `ar` has the parameter count of each struct
module _ (ar : List ℕ) where
  unfoldable mutual
    pub CountsExpr : Expr → Type 0
    CountsExpr (inv e) = CountsExpr e
    CountsExpr (make k es) = (k < length ar) × (args es ≡ get_or ar k 0) × (CountsExprs es)
    CountsExpr (path v vs) = IsPath v vs
    CountsExpr (int_lit w) = w < nat_end
    CountsExpr (nat_lit w) = w < nat_end
    CountsExpr (bool_lit w) = w < 2
    CountsExpr (null t) = IsType (length ar) t
    CountsExpr self = Unit {0}
    CountsExpr (op o a b) = (CountsExpr a) × (CountsExpr b)

    pub CountsExprs : Exprs → Type 0
    CountsExprs none = Unit {0}
    CountsExprs (more e es) = (CountsExpr e) × (CountsExprs es)

  unfoldable mutual
    pub CountsItem : Item → Type 0
    CountsItem (call n) = n < step_names
    CountsItem (call_in k n) = (k < length ar) × (n < step_names)
    CountsItem (fix is) = (1 ≤ items is) × (items is ≤ max_items) × (CountsItems is)

    pub CountsItems : Items → Type 0
    CountsItems stop = Unit {0}
    CountsItems (item i is) = (CountsItem i) × (CountsItems is)

  unfoldable pub CountsSchedule : Items → Type 0
  CountsSchedule is = (1 ≤ items is) × (items is ≤ max_items) × (CountsItems is) × (fixes_in is ≤ fix_levels)

-- the same of statements, whose expressions have at most the given levels
module _ (levels : ℕ) (ar : List ℕ) where
  unfoldable mutual
    pub CountsStmtTo : Stmt → Type 0
    CountsStmtTo (when e b) = (CountsExpr ar e) × (expr_height e ≤ levels) × (size b ≤ max_statements) × (CountsStmtsTo b)
    CountsStmtTo (declare t x e) = (IsType (length ar) t) × (x < max_locals) × (CountsExpr ar e) × (expr_height e ≤ levels)
    CountsStmtTo (update v vs e) = (IsPath v vs) × (CountsExpr ar e) × (expr_height e ≤ levels)
    CountsStmtTo (create k es) = (k < length ar) × (args es ≡ get_or ar k 0) × (CountsExprs ar es) × (args_height es ≤ levels)

    pub CountsStmtsTo : Stmts → Type 0
    CountsStmtsTo end = Unit {0}
    CountsStmtsTo (next t b) = (CountsStmtTo t) × (CountsStmtsTo b)

  unfoldable pub CountsStepTo : Step → Type 0
  unfolding CountsStmtsTo
  CountsStepTo t = (t.name < step_names) × (size t.body ≤ max_statements) × (CountsStmtsTo t.body) × (nests t.body ≤ if_levels)

-- within 01's levels
module _ (ar : List ℕ) where
  unfoldable abbrev pub CountsStmt : Stmt → Type 0
  unfolding CountsStmtTo
  CountsStmt = CountsStmtTo expr_levels ar

  unfoldable abbrev pub CountsStmts : Stmts → Type 0
  unfolding CountsStmtsTo
  CountsStmts = CountsStmtsTo expr_levels ar

  unfoldable abbrev pub CountsStep : Step → Type 0
  unfolding CountsStepTo
  CountsStep = CountsStepTo expr_levels ar

-- from lo to hi elements, of each of which C holds
abbrev pub Few : {A : Type 0} → ℕ → ℕ → (A → Type 0) → List A → Type 0
Few lo hi C l = (lo ≤ length l) × (length l ≤ hi) × (All C l)

-- a program whose expressions have at most the given levels, and one within 01's
unfoldable pub CountsTo : ℕ → Program → Type 0
unfolding CountsStepTo
CountsTo levels p =
    (Few 1 max_structs (Few 0 max_params (IsType (length p.params))) p.params)
    × (length p.steps ≡ length p.params)
    × (All (Few 0 max_steps (CountsStepTo levels (map length p.params))) p.steps)
    × (CountsSchedule (map length p.params) p.schedule)

unfoldable abbrev pub Counts : Program → Type 0
unfolding CountsTo
Counts = CountsTo expr_levels
