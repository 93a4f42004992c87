-- What a program has in range whose names are found and whose declarations are few (02 §1): all that a stream holds (`meaning/specs/Holds.antt`) but the counts
-- of statements, items, steps of a struct and variables of a path, which are tested where the stream is written (`Checks.antt`), and the bytes.
use Rattle.std.specs.Prelude.{ℕ, ◌<◌, ◌≤◌, ◌≡◌, List, map, length, get_or}
use Rattle.types.specs.Limits.{max_structs, max_params, step_names, nat_end, first_local, max_locals}
use Rattle.types.specs.Types.{IsType}
use Rattle.program.specs.Tree.{Var, Expr, Expr.inv, Expr.make, Expr.path, Expr.int_lit, Expr.nat_lit, Expr.bool_lit, Expr.null, Expr.self, Expr.op, Exprs}
use Rattle.program.specs.Tree.{Exprs.none, Exprs.more}
use Rattle.program.specs.Tree.{Stmt, Stmt.when, Stmt.declare, Stmt.update, Stmt.create, Stmts, Stmts.end, Stmts.next, Item, Item.call, Item.call_in, Item.fix}
use Rattle.program.specs.Tree.{Items, Items.stop, Items.item, Step, Program, args, items}
use Rattle.program.specs.Counts.{All, Few, IsVar}

unfoldable pub RangedPath : Var → List ℕ → Type 0
unfolding IsVar
RangedPath v vs = (IsVar v) × (All (λ x. x < first_local) vs)

module _ (ar : List ℕ) where
  unfoldable mutual
    unfolding RangedPath

    pub RangedExpr : Expr → Type 0
    RangedExpr (inv e) = RangedExpr e
    RangedExpr (make k es) = (k < length ar) × (args es ≡ get_or ar k 0) × (RangedExprs es)
    RangedExpr (path v vs) = RangedPath v vs
    RangedExpr (int_lit w) = w < nat_end
    RangedExpr (nat_lit w) = w < nat_end
    RangedExpr (bool_lit w) = w < 2
    RangedExpr (null t) = IsType (length ar) t
    RangedExpr self = Unit {0}
    RangedExpr (op o a b) = (RangedExpr a) × (RangedExpr b)

    pub RangedExprs : Exprs → Type 0
    RangedExprs none = Unit {0}
    RangedExprs (more e es) = (RangedExpr e) × (RangedExprs es)

  unfoldable mutual
    unfolding RangedPath RangedExpr RangedExprs

    pub RangedStmt : Stmt → Type 0
    RangedStmt (when e b) = (RangedExpr e) × (RangedStmts b)
    RangedStmt (declare t x e) = (IsType (length ar) t) × (x < max_locals) × (RangedExpr e)
    RangedStmt (update v vs e) = (RangedPath v vs) × (RangedExpr e)
    RangedStmt (create k es) = (k < length ar) × (args es ≡ get_or ar k 0) × (RangedExprs es)

    pub RangedStmts : Stmts → Type 0
    RangedStmts end = Unit {0}
    RangedStmts (next t b) = (RangedStmt t) × (RangedStmts b)

  unfoldable pub RangedStep : Step → Type 0
  unfolding RangedStmts
  RangedStep t = (t.name < step_names) × (RangedStmts t.body)

  unfoldable mutual
    pub RangedItem : Item → Type 0
    RangedItem (call n) = n < step_names
    RangedItem (call_in k n) = (k < length ar) × (n < step_names)
    RangedItem (fix is) = (1 ≤ items is) × (RangedItems is)

    pub RangedItems : Items → Type 0
    RangedItems stop = Unit {0}
    RangedItems (item i is) = (RangedItem i) × (RangedItems is)

pub record Ranged (p : Program) : Type 0 where
  pub parameters : Few 1 max_structs (Few 0 max_params (IsType (length p.params))) p.params
  pub structs : length p.steps ≡ length p.params
  pub stepped : All (All (RangedStep (map length p.params))) p.steps
  pub scheduled : (1 ≤ items p.schedule) × (RangedItems (map length p.params) p.schedule)
