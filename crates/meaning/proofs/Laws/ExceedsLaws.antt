-- A program that a derivation means is held by a stream exactly where it has none of the causes of `Exceeds` (02 §1, 17).
use Rattle.std.specs.Prelude.{ℕ, List, map, length}
use Rattle.std.proofs.Common.{arith}
use Rattle.types.specs.Limits.{max_steps}
use Rattle.program.specs.Tree.{Var as Variable, Expr, Exprs, Stmt, Stmts, Item as Call, Items, Step as Named}
use Rattle.program.specs.Tree.{Program}
use Rattle.program.specs.Counts.{All, Few, IsVar, IsPath, CountsExpr, CountsExprs, CountsItem, CountsItems}
use Rattle.meaning.specs.Holds.{HoldsStmt, HoldsStmts, HoldsStep, HoldsSchedule, Counted, Holds}
use Rattle.meaning.specs.Unmeant.{One, One.this_one, One.later_one}
use Rattle.meaning.specs.Exceeds.{LargeVar, LargeVar.large_parameter, LargeVar.large_local, LargePath, LargePath.large_first, LargePath.long_path}
use Rattle.meaning.specs.Exceeds.{LargePath.large_later, LargeExpr, LargeExpr.large_inv, LargeExpr.large_make, LargeExpr.large_path}
use Rattle.meaning.specs.Exceeds.{LargeExpr.large_left, LargeExpr.large_right, LargeExprs, LargeExprs.large_argument, LargeExprs.large_more}
use Rattle.meaning.specs.Exceeds.{LargeStmt, LargeStmt.large_condition, LargeStmt.long_body, LargeStmt.large_body, LargeStmt.local_number}
use Rattle.meaning.specs.Exceeds.{LargeStmt.large_value, LargeStmt.large_target, LargeStmt.large_update, LargeStmt.large_create, LargeStmts}
use Rattle.meaning.specs.Exceeds.{LargeStmts.large_first_stmt, LargeStmts.large_rest, LargeStep, LargeStep.name_number, LargeStep.long_step}
use Rattle.meaning.specs.Exceeds.{LargeStep.large_step, LargeSteps, LargeSteps.many_steps, LargeSteps.in_steps, LargeItem, LargeItem.call_number}
use Rattle.meaning.specs.Exceeds.{LargeItem.call_in_number, LargeItem.many_in_fix, LargeItem.large_in_fix, LargeItems, LargeItems.large_item}
use Rattle.meaning.specs.Exceeds.{LargeItems.large_items, Exceeds, Exceeds.many_structs, Exceeds.many_parameters, Exceeds.large_steps}
use Rattle.meaning.specs.Exceeds.{Exceeds.many_items, Exceeds.large_schedule, Exceeds.many_bytes}

-- A cause is not held ------------------------------------------------------------------------------

one_all : {A : Type 0} {C E : A → Type 0} → ((a : A) → E a → C a → ⊥) → {l : List A} → One E l → All C l → ⊥
one_all h (this_one {a = a} e) q = h a e q.0
one_all h (later_one o) q = one_all h o q.1

var_over : {v : Variable} → LargeVar v → IsVar v → ⊥
unfolding IsVar
var_over (large_parameter h) k = omega (arith, h, k)
var_over (large_local h) k = omega (arith, h, k)

path_over : {v : Variable} {vs : List ℕ} → LargePath v vs → IsPath v vs → ⊥
unfolding IsPath
path_over (large_first l) q = var_over l q.0
path_over (long_path h) q = let k = q.1 in omega (arith, h, k)
path_over (large_later o) q = one_all (λ x h k. omega (arith, h, k)) o q.2

module _ (ar : List ℕ) where
  mutual
    unfolding CountsExpr CountsExprs

    expr_over : {e : Expr} → LargeExpr e → CountsExpr ar e → ⊥
    expr_over (large_inv l) q = expr_over l q
    expr_over (large_make l) q = exprs_over l q.2
    expr_over (large_path l) q = path_over l q
    expr_over (large_left l) q = expr_over l q.0
    expr_over (large_right l) q = expr_over l q.1

    exprs_over : {es : Exprs} → LargeExprs es → CountsExprs ar es → ⊥
    exprs_over (large_argument l) q = expr_over l q.0
    exprs_over (large_more l) q = exprs_over l q.1

  mutual
    unfolding HoldsStmt HoldsStmts

    stmt_over : {t : Stmt} → LargeStmt t → HoldsStmt ar t → ⊥
    stmt_over (large_condition l) q = expr_over l q.0
    stmt_over (long_body h) q = let k = q.1 in omega (arith, h, k)
    stmt_over (large_body l) q = stmts_over l q.2
    stmt_over (local_number h) q = let k = q.1 in omega (arith, h, k)
    stmt_over (large_value l) q = expr_over l q.2
    stmt_over (large_target l) q = path_over l q.0
    stmt_over (large_update l) q = expr_over l q.1
    stmt_over (large_create l) q = exprs_over l q.2

    stmts_over : {b : Stmts} → LargeStmts b → HoldsStmts ar b → ⊥
    stmts_over (large_first_stmt l) q = stmt_over l q.0
    stmts_over (large_rest l) q = stmts_over l q.1

  step_over : (t : Named) → LargeStep t → HoldsStep ar t → ⊥
  unfolding HoldsStep
  step_over t (name_number h) q = let k = q.0 in omega (arith, h, k)
  step_over t (long_step h) q = let k = q.1 in omega (arith, h, k)
  step_over t (large_step l) q = stmts_over l q.2

  steps_over : (ts : List Named) → LargeSteps ts → Few 0 max_steps (HoldsStep ar) ts → ⊥
  steps_over ts (many_steps h) q = let k = q.1 in omega (arith, h, k)
  steps_over ts (in_steps o) q = one_all step_over o q.2

  mutual
    unfolding CountsItem CountsItems

    item_over : {i : Call} → LargeItem i → CountsItem ar i → ⊥
    item_over (call_number h) q = omega (arith, h, q)
    item_over (call_in_number h) q = let k = q.1 in omega (arith, h, k)
    item_over (many_in_fix h) q = let k = q.1 in omega (arith, h, k)
    item_over (large_in_fix l) q = items_over l q.2

    items_over : {is : Items} → LargeItems is → CountsItems ar is → ⊥
    items_over (large_item l) q = item_over l q.0
    items_over (large_items l) q = items_over l q.1

pub exceeds_none : (p : Program) → Exceeds p → Holds p → ⊥
unfolding Counted HoldsSchedule
exceeds_none p (many_structs h) q = let k = q.counted.0.1 in omega (arith, h, k)
exceeds_none p (many_parameters o) q = one_all (λ us h f. let k = f.1 in omega (arith, h, k)) o q.counted.0.2
exceeds_none p (large_steps o) q = one_all (steps_over (map length p.params)) o q.counted.2
exceeds_none p (many_items h) q = let k = q.counted.3.1 in omega (arith, h, k)
exceeds_none p (large_schedule l) q = items_over (map length p.params) l q.counted.3.2
exceeds_none p (many_bytes h) q = let k = q.fits in omega (arith, h, k)
