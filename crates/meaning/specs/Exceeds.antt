-- What no stream holds of a program (02 §1, 17: "more of anything than the stream's counts, numbers or bytes hold, nesting apart"), each cause wherever it
-- is; 01, 'Program stream', has the bounds. For a program that a derivation means, these are all the causes (`Laws/ExceedsLaws.antt`).
use Rattle.std.specs.Prelude.{ℕ, ◌<◌, ◌≤◌, List, length}
use Rattle.types.specs.Limits.{max_structs, max_params, max_steps, step_names, max_statements, max_items, first_local, max_locals, max_path}
use Rattle.types.specs.Types.{Ty}
use Rattle.program.specs.Tree.{Var, Var.par, Var.loc, Expr, Expr.inv, Expr.make, Expr.path, Expr.op, Exprs, Exprs.more}
use Rattle.program.specs.Tree.{Stmt, Stmt.when, Stmt.declare, Stmt.update, Stmt.create, Stmts, Stmts.next, Item, Item.call, Item.call_in, Item.fix}
use Rattle.program.specs.Tree.{Items, Items.item, Step, Program, size, items}
use Rattle.program.specs.Encoding.{enc_program}
use Rattle.meaning.specs.Holds.{max_stream}
use Rattle.meaning.specs.Unmeant.{One}

-- numbers of parameters and of locals, and the length of a path
pub data LargeVar : Var → Type 0 where
  large_parameter : {x : ℕ} → first_local ≤ x → LargeVar (par x)
  large_local : {x : ℕ} → max_locals ≤ x → LargeVar (loc x)

pub data LargePath (v : Var) (vs : List ℕ) : Type 0 where
  large_first : LargeVar v → LargePath v vs
  long_path : max_path ≤ length vs → LargePath v vs
  large_later : One (λ x. first_local ≤ x) vs → LargePath v vs

mutual
  pub data LargeExpr : Expr → Type 0 where
    large_inv : {e : Expr} → LargeExpr e → LargeExpr (inv e)
    large_make : {k : ℕ} {es : Exprs} → LargeExprs es → LargeExpr (make k es)
    large_path : {v : Var} {vs : List ℕ} → LargePath v vs → LargeExpr (path v vs)
    large_left : {o : _} {a b : Expr} → LargeExpr a → LargeExpr (op o a b)
    large_right : {o : _} {a b : Expr} → LargeExpr b → LargeExpr (op o a b)

  pub data LargeExprs : Exprs → Type 0 where
    large_argument : {e : Expr} {es : Exprs} → LargeExpr e → LargeExprs (more e es)
    large_more : {e : Expr} {es : Exprs} → LargeExprs es → LargeExprs (more e es)

mutual
  pub data LargeStmt : Stmt → Type 0 where
    large_condition : {e : Expr} {b : Stmts} → LargeExpr e → LargeStmt (when e b)
    long_body : {e : Expr} {b : Stmts} → max_statements < size b → LargeStmt (when e b)
    large_body : {e : Expr} {b : Stmts} → LargeStmts b → LargeStmt (when e b)
    local_number : {t : Ty} {x : ℕ} {e : Expr} → max_locals ≤ x → LargeStmt (declare t x e)
    large_value : {t : Ty} {x : ℕ} {e : Expr} → LargeExpr e → LargeStmt (declare t x e)
    large_target : {v : Var} {vs : List ℕ} {e : Expr} → LargePath v vs → LargeStmt (update v vs e)
    large_update : {v : Var} {vs : List ℕ} {e : Expr} → LargeExpr e → LargeStmt (update v vs e)
    large_create : {k : ℕ} {es : Exprs} → LargeExprs es → LargeStmt (create k es)

  pub data LargeStmts : Stmts → Type 0 where
    large_first_stmt : {t : Stmt} {b : Stmts} → LargeStmt t → LargeStmts (next t b)
    large_rest : {t : Stmt} {b : Stmts} → LargeStmts b → LargeStmts (next t b)

pub data LargeStep (t : Step) : Type 0 where
  name_number : step_names ≤ t.name → LargeStep t
  long_step : max_statements < size t.body → LargeStep t
  large_step : LargeStmts t.body → LargeStep t

pub data LargeSteps (ts : List Step) : Type 0 where
  many_steps : max_steps < length ts → LargeSteps ts
  in_steps : One LargeStep ts → LargeSteps ts

mutual
  pub data LargeItem : Item → Type 0 where
    call_number : {n : ℕ} → step_names ≤ n → LargeItem (call n)
    call_in_number : {k n : ℕ} → step_names ≤ n → LargeItem (call_in k n)
    many_in_fix : {is : Items} → max_items < items is → LargeItem (fix is)
    large_in_fix : {is : Items} → LargeItems is → LargeItem (fix is)

  pub data LargeItems : Items → Type 0 where
    large_item : {i : Item} {is : Items} → LargeItem i → LargeItems (item i is)
    large_items : {i : Item} {is : Items} → LargeItems is → LargeItems (item i is)

pub data Exceeds (p : Program) : Type 0 where
  many_structs : max_structs < length p.params → Exceeds p
  many_parameters : One (λ (us : List Ty). max_params < length us) p.params → Exceeds p
  large_steps : One LargeSteps p.steps → Exceeds p
  many_items : max_items < items p.schedule → Exceeds p
  large_schedule : LargeItems p.schedule → Exceeds p
  many_bytes : max_stream < length (enc_program p) → Exceeds p
