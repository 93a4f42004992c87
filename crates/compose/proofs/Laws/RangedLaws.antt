-- What is in range, whose counts were kept to and whose bytes are few, is what a stream holds.
use Rattle.std.specs.Prelude.{ℕ, ◌<◌, ◌≤◌, ◌≡◌, Bool, true, ◌&&◌, length, leb, ltb}
use native.Mathlib.Omega.{arith}
use mathlib.Core.List.{List, [], ◌∷◌, map}
use Rattle.std.proofs.Common.{ltb-true, leb-true}
use Rattle.types.specs.Limits.{max_statements, max_steps, max_items}
use Rattle.program.specs.Tree.{Expr, Expr.inv, Expr.make, Expr.path, Expr.int_lit, Expr.nat_lit, Expr.bool_lit, Expr.null, Expr.self, Expr.op, Exprs}
use Rattle.program.specs.Tree.{Exprs.none, Exprs.more}
use Rattle.program.specs.Tree.{Stmt, Stmt.when, Stmt.declare, Stmt.update, Stmt.create, Stmts, Stmts.end, Stmts.next, Item, Item.call, Item.call_in, Item.fix}
use Rattle.program.specs.Tree.{Items, Items.stop, Items.item, Step, Program, size, items}
use Rattle.program.specs.Encoding.{enc_program}
use Rattle.program.specs.Counts.{All, Few, IsPath, CountsExpr, CountsExprs, CountsItem, CountsItems}
use Rattle.tokens.proofs.Laws.ByteLaws.{both_true}
use Rattle.meaning.specs.Holds.{max_stream, HoldsStmt, HoldsStmts, HoldsStep, HoldsSchedule, Counted, Holds}
use Rattle.compose.specs.Writing.{max_later}
use Rattle.compose.specs.Checks.{checks_expr, checks_exprs, checks_stmt, checks_stmts, checks_steps, checks_item, checks_items, checks_structs, checks}
use Rattle.compose.specs.Ranged.{RangedPath, RangedExpr, RangedExprs, RangedStmt, RangedStmts, RangedStep, RangedItem, RangedItems, Ranged}

-- a count that was tested
below : (f : Bool) (n m : ℕ) → (f && ltb n m) ≡ true → (f ≡ true) × (n < m)
below f n m h = let q = both_true f (ltb n m) h in (q.0, ltb-true n m q.1)

module _ (ar : List ℕ) where
  mutual
    unfolding RangedPath RangedExpr RangedExprs CountsExpr CountsExprs IsPath checks_expr checks_exprs

    expr_holds : (e : Expr) (f : Bool) → RangedExpr ar e → checks_expr e f ≡ true → (CountsExpr ar e) × (f ≡ true)
    expr_holds (inv e) f r h = expr_holds e f r h
    expr_holds (make k es) f r h = let q = exprs_holds es f r.2 h in ((r.0, r.1, q.0), q.1)
    expr_holds (path v vs) f r h =
        let q = both_true f (leb (length vs) max_later) h in
        let l : length vs ≤ max_later = leb-true (length vs) max_later q.1 in
        ((r.0, omega (arith, l), r.1), q.0)
    expr_holds (int_lit w) f r h = (r, h)
    expr_holds (nat_lit w) f r h = (r, h)
    expr_holds (bool_lit w) f r h = (r, h)
    expr_holds (null t) f r h = (r, h)
    expr_holds self f r h = (tt, h)
    expr_holds (op o a b) f r h =
        let p = expr_holds a (checks_expr b f) r.0 h in
        let q = expr_holds b f r.1 p.1 in
        ((p.0, q.0), q.1)

    exprs_holds : (es : Exprs) (f : Bool) → RangedExprs ar es → checks_exprs es f ≡ true → (CountsExprs ar es) × (f ≡ true)
    exprs_holds none f r h = (tt, h)
    exprs_holds (more e es) f r h =
        let p = expr_holds e (checks_exprs es f) r.0 h in
        let q = exprs_holds es f r.1 p.1 in
        ((p.0, q.0), q.1)

  mutual
    unfolding RangedPath RangedStmt RangedStmts HoldsStmt HoldsStmts IsPath checks_stmt checks_stmts size

    stmt_holds : (t : Stmt) (f : Bool) → RangedStmt ar t → checks_stmt t f ≡ true → (HoldsStmt ar t) × (f ≡ true)
    stmt_holds (when e b) f r h =
        let p = expr_holds e (checks_stmts b f) r.0 h in
        let q = stmts_hold b f r.1 p.1 in
        ((p.0, q.0.0, q.0.1), q.1)
    stmt_holds (declare t x e) f r h = let p = expr_holds e f r.2 h in ((r.0, r.1, p.0), p.1)
    stmt_holds (update v vs e) f r h =
        let b = both_true (checks_expr e f) (leb (length vs) max_later) h in
        let l : length vs ≤ max_later = leb-true (length vs) max_later b.1 in
        let p = expr_holds e f r.1 b.0 in
        (((r.0.0, omega (arith, l), r.0.1), p.0), p.1)
    stmt_holds (create k es) f r h = let q = exprs_holds es f r.2 h in ((r.0, r.1, q.0), q.1)

    stmts_hold : (b : Stmts) (f : Bool) → RangedStmts ar b → checks_stmts b f ≡ true → ((size b ≤ max_statements) × (HoldsStmts ar b)) × (f ≡ true)
    stmts_hold end f r h = ((omega arith, tt), h)
    stmts_hold (next t b) f r h =
        let c = below (checks_stmt t (checks_stmts b f)) (size b) max_statements h in
        let p = stmt_holds t (checks_stmts b f) r.0 c.0 in
        let q = stmts_hold b f r.1 p.1 in
        ((omega (arith, c.1), (p.0, q.0.1)), q.1)

  steps_hold : (l : List Step) (f : Bool) → All (RangedStep ar) l → checks_steps l f ≡ true → ((length l ≤ max_steps) × (All (HoldsStep ar) l)) × (f ≡ true)
  unfolding RangedStep HoldsStep checks_steps
  steps_hold [] f r h = ((omega arith, tt), h)
  steps_hold (t ∷ l) f r h =
      let c = below (checks_stmts t.body (checks_steps l f)) (length l) max_steps h in
      let p = stmts_hold t.body (checks_steps l f) r.0.1 c.0 in
      let q = steps_hold l f r.1 p.1 in
      ((omega (arith, c.1), ((r.0.0, p.0.0, p.0.1), q.0.1)), q.1)

  structs_hold : (ls : List (List Step)) (f : Bool) → All (All (RangedStep ar)) ls → checks_structs ls f ≡ true
      → (All (Few 0 max_steps (HoldsStep ar)) ls) × (f ≡ true)
  unfolding checks_structs
  structs_hold [] f r h = (tt, h)
  structs_hold (l ∷ ls) f r h =
      let p = steps_hold l (checks_structs ls f) r.0 h in
      let q = structs_hold ls f r.1 p.1 in
      (((omega arith, p.0.0, p.0.1), q.0), q.1)

  mutual
    unfolding RangedItem RangedItems CountsItem CountsItems checks_item checks_items items

    item_holds : (i : Item) (f : Bool) → RangedItem ar i → checks_item i f ≡ true → (CountsItem ar i) × (f ≡ true)
    item_holds (call n) f r h = (r, h)
    item_holds (call_in k n) f r h = (r, h)
    item_holds (fix is) f r h = let q = items_hold is f r.1 h in ((r.0, q.0.0, q.0.1), q.1)

    items_hold : (is : Items) (f : Bool) → RangedItems ar is → checks_items is f ≡ true → ((items is ≤ max_items) × (CountsItems ar is)) × (f ≡ true)
    items_hold stop f r h = ((omega arith, tt), h)
    items_hold (item i is) f r h =
        let c = below (checks_item i (checks_items is f)) (items is) max_statements h in
        let p = item_holds i (checks_items is f) r.0 c.0 in
        let q = items_hold is f r.1 p.1 in
        ((omega (arith, c.1), (p.0, q.0.1)), q.1)

pub ranged_holds : (p : Program) → Ranged p → checks p ≡ true → length (enc_program p) ≤ max_stream → Holds p
unfolding Counted HoldsSchedule checks
ranged_holds p r h b =
    let ar : List ℕ = map length p.params in
    let s = structs_hold ar p.steps (checks_items p.schedule true) r.stepped h in
    let i = items_hold ar p.schedule true r.scheduled.1 s.1 in
    record { counted = (r.parameters, r.structs, s.0, (r.scheduled.0, i.0.0, i.0.1)); fits = b }
