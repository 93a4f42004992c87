-- The test of names is exact (01, number 7).
use Rattle.std.specs.Prelude.{ℕ, zero, suc, Bool, true, ◌||◌, ◌↔◌, ◌≡◌, length, get_or}
use mathlib.Core.List.Memᴰ
use mathlib.Core.List.{List, [], ◌∷◌, ◌++◌, Memᴰ}
use Rattle.program.specs.Tree.{Var, Var.par, Var.loc, Expr, Expr.inv, Expr.make, Expr.path, Expr.int_lit, Expr.nat_lit, Expr.bool_lit, Expr.null}
use Rattle.program.specs.Tree.{Expr.self, Expr.op, Exprs, Exprs.none, Exprs.more, Stmt, Stmt.when, Stmt.declare, Stmt.update, Stmt.create, Stmts}
use Rattle.program.specs.Tree.{Stmts.end, Stmts.next, Item, Item.call, Item.call_in, Item.fix, Items, Items.stop, Items.item, Step, Program}
use Rattle.types.specs.Reflects.{Reflects, Reflects.holds, Reflects.fails, reflects_iff, reflects_map, reflects_negation, reflects_both, lt_reflects}
use Rattle.commands.specs.Names.{Starts, Names, NamesAll, declares, live_after, NamedStmt, Named, names_of_steps, NamedSteps, Had}
use Rattle.commands.specs.Names.{ScheduledItem, Scheduled, NamesRight}
use Rattle.commands.proofs.Decide.DecideLaws.{every_reflects, member_reflects, once_reflects}
use Rattle.commands.specs.Decide.NamesDecide.{start_named, expr_named, args_named, stmt_named, body_named, steps_named, stepped, item_stepped}
use Rattle.commands.specs.Decide.NamesDecide.{items_stepped, names_right}

start_reflects : (n : ℕ) (live : List ℕ) (v : Var) → Reflects (Starts n live v) (start_named n live v)
unfolding start_named
start_reflects n live (par x) = lt_reflects x n
start_reflects n live (loc x) = member_reflects x live

mutual
  unfolding Names expr_named NamesAll args_named

  expr_reflects : (e : Expr) (n : ℕ) (live : List ℕ) → Reflects (Names e n live) (expr_named e n live)
  expr_reflects (inv e) n live = expr_reflects e n live
  expr_reflects (make k es) n live = args_reflects es n live
  expr_reflects (path v vs) n live = start_reflects n live v
  expr_reflects (int_lit w) n live = holds tt
  expr_reflects (nat_lit w) n live = holds tt
  expr_reflects (bool_lit w) n live = holds tt
  expr_reflects (null t) n live = holds tt
  expr_reflects self n live = holds tt
  expr_reflects (op o a b) n live = reflects_both (expr_reflects a n live) (expr_reflects b n live)

  args_reflects : (es : Exprs) (n : ℕ) (live : List ℕ) → Reflects (NamesAll es n live) (args_named es n live)
  args_reflects none n live = holds tt
  args_reflects (more e es) n live = reflects_both (expr_reflects e n live) (args_reflects es n live)

mutual
  unfolding NamedStmt stmt_named Named body_named

  stmt_reflects : (s : Stmt) (n : ℕ) (live seen : List ℕ) → Reflects (NamedStmt s n live seen) (stmt_named s n live seen)
  stmt_reflects (when e b) n live seen = reflects_both (expr_reflects e n live) (body_reflects b n live seen)
  stmt_reflects (declare t x e) n live seen = reflects_both (expr_reflects e n live) (reflects_negation (member_reflects x seen))
  stmt_reflects (update v vs e) n live seen = reflects_both (start_reflects n live v) (expr_reflects e n live)
  stmt_reflects (create k es) n live seen = args_reflects es n live

  body_reflects : (b : Stmts) (n : ℕ) (live seen : List ℕ) → Reflects (Named b n live seen) (body_named b n live seen)
  body_reflects end n live seen = holds tt
  body_reflects (next s b) n live seen =
      reflects_both (stmt_reflects s n live seen) (body_reflects b n (live_after s live) (declares s ++ seen))

steps_reflects : (p : Program) (k : ℕ) (tss : List (List Step)) → Reflects (NamedSteps p k tss) (steps_named p k tss)
unfolding steps_named
steps_reflects p k [] = holds tt
steps_reflects p k (ts ∷ tss) =
    reflects_map (λ h. (h.0, h.1.0, h.1.1)) (λ h. (h.0, (h.1, h.2)))
    (reflects_both (once_reflects (names_of_steps ts))
    (reflects_both (every_reflects (λ t. body_reflects t.body (length (get_or p.params k [])) [] []) ts) (steps_reflects p (suc k) tss)))

-- some struct of ts ∷ tss has the step where the first has it or one behind
had_reflects : (n : ℕ) (tss : List (List Step)) → Reflects (Had n tss) (stepped n tss)
unfolding stepped names_of_steps
had_reflects n [] = fails (λ h. Memᴰ.not-nil h.1)
had_reflects n (ts ∷ tss) = go (member_reflects n (names_of_steps ts)) (had_reflects n tss)
  where
    behind : (Memᴰ n (names_of_steps ts) → ⊥) → (Had n tss → ⊥) → (k : ℕ) → Memᴰ n (names_of_steps (get_or (ts ∷ tss) k [])) → ⊥
    behind f g zero m = f m
    behind f g (suc k) m = g (k, m)

    go : {a b : Bool} → Reflects (Memᴰ n (names_of_steps ts)) a → Reflects (Had n tss) b → Reflects (Had n (ts ∷ tss)) (a || b)
    go (holds m) r = holds (0, m)
    go (fails f) (holds h) = holds (suc h.0, h.1)
    go (fails f) (fails g) = fails (λ h. behind f g h.0 h.1)

mutual
  unfolding ScheduledItem item_stepped Scheduled items_stepped

  item_reflects : (i : Item) (tss : List (List Step)) → Reflects (ScheduledItem i tss) (item_stepped i tss)
  item_reflects (call n) tss = had_reflects n tss
  item_reflects (call_in k n) tss = member_reflects n (names_of_steps (get_or tss k []))
  item_reflects (fix is) tss = items_reflects is tss

  items_reflects : (is : Items) (tss : List (List Step)) → Reflects (Scheduled is tss) (items_stepped is tss)
  items_reflects stop tss = holds tt
  items_reflects (item i is) tss = reflects_both (item_reflects i tss) (items_reflects is tss)

-- the test decides whether a program's names are right
pub names_reflects : (p : Program) → Reflects (NamesRight p) (names_right p)
unfolding NamesRight names_right
names_reflects p = reflects_both (steps_reflects p 0 p.steps) (items_reflects p.schedule p.steps)

-- the test is true exactly where a program's names are right
pub names_exact : (p : Program) → (names_right p ≡ true) ↔ NamesRight p
names_exact p = reflects_iff (names_reflects p)
