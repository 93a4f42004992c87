-- Whether a program's names are right (01, number 7), as a test: each function goes over the tree as its condition in Names does.
use Rattle.std.specs.Prelude.{ℕ, suc, Bool, true, false, not, ◌&&◌, ◌||◌, List, [], ◌∷◌, ◌++◌, length, get_or, ltb}
use Rattle.program.specs.Tree.{Var, Var.par, Var.loc, Expr, Expr.inv, Expr.make, Expr.path, Expr.int_lit, Expr.nat_lit, Expr.bool_lit, Expr.null}
use Rattle.program.specs.Tree.{Expr.self, Expr.op, Exprs, Exprs.none, Exprs.more, Stmt, Stmt.when, Stmt.declare, Stmt.update, Stmt.create, Stmts}
use Rattle.program.specs.Tree.{Stmts.end, Stmts.next, Item, Item.call, Item.call_in, Item.fix, Items, Items.stop, Items.item, Step, Program}
use Rattle.commands.specs.Names.{declares, live_after, names_of_steps}
use Rattle.commands.specs.Decide.{every, member, distinct}

unfoldable pub start_named : ℕ → List ℕ → Var → Bool
start_named n live (par x) = ltb x n
start_named n live (loc x) = member x live

unfoldable mutual
  pub expr_named : Expr → ℕ → List ℕ → Bool
  expr_named (inv e) n live = expr_named e n live
  expr_named (make k es) n live = args_named es n live
  expr_named (path v vs) n live = start_named n live v
  expr_named (int_lit w) n live = true
  expr_named (nat_lit w) n live = true
  expr_named (bool_lit w) n live = true
  expr_named (null t) n live = true
  expr_named self n live = true
  expr_named (op o a b) n live = expr_named a n live && expr_named b n live

  pub args_named : Exprs → ℕ → List ℕ → Bool
  args_named none n live = true
  args_named (more e es) n live = expr_named e n live && args_named es n live

-- n parameters, these locals alive, these declared before in the step
unfoldable mutual
  pub stmt_named : Stmt → ℕ → List ℕ → List ℕ → Bool
  stmt_named (when e b) n live seen = expr_named e n live && body_named b n live seen
  stmt_named (declare t x e) n live seen = expr_named e n live && not (member x seen)
  stmt_named (update v vs e) n live seen = start_named n live v && expr_named e n live
  stmt_named (create k es) n live seen = args_named es n live

  pub body_named : Stmts → ℕ → List ℕ → List ℕ → Bool
  body_named end n live seen = true
  body_named (next s b) n live seen = stmt_named s n live seen && body_named b n (live_after s live) (declares s ++ seen)

-- the steps of each struct, from struct k on
unfoldable pub steps_named : Program → ℕ → List (List Step) → Bool
steps_named p k [] = true
steps_named p k (ts ∷ tss) =
    distinct (names_of_steps ts)
    && (every (λ t. body_named t.body (length (get_or p.params k [])) [] []) ts && steps_named p (suc k) tss)

-- some struct has the step n
unfoldable pub stepped : ℕ → List (List Step) → Bool
stepped n [] = false
stepped n (ts ∷ tss) = member n (names_of_steps ts) || stepped n tss

unfoldable mutual
  pub item_stepped : Item → List (List Step) → Bool
  item_stepped (call n) tss = stepped n tss
  item_stepped (call_in k n) tss = member n (names_of_steps (get_or tss k []))
  item_stepped (fix is) tss = items_stepped is tss

  pub items_stepped : Items → List (List Step) → Bool
  items_stepped stop tss = true
  items_stepped (item i is) tss = item_stepped i tss && items_stepped is tss

unfoldable pub names_right : Program → Bool
names_right p = steps_named p 0 p.steps && items_stepped p.schedule p.steps
