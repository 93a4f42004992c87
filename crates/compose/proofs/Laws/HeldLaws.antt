-- Of whatever a stream holds no count is over where it is written (02 §1, 17); and a stream is the parameters' types in front of the rest.
use Rattle.std.specs.Prelude.{ℕ, ◌≤◌, ◌≡◌, Bool, true, false, ◌&&◌, length, leb, ltb}
use Rattle.std.proofs.Common.{arith, ◌∙◌, lt-ltb, le-leb}
use Rattle.std.proofs.Math.Path.{refl}
use mathlib.Core.List.{List, [], ◌∷◌, ◌++◌, map, append_assoc}
use Rattle.types.specs.Limits.{max_statements, max_steps, max_items}
use Rattle.types.specs.Types.{code}
use Rattle.program.specs.Tree.{Expr, Expr.inv, Expr.make, Expr.path, Expr.int_lit, Expr.nat_lit, Expr.bool_lit, Expr.null, Expr.self, Expr.op, Exprs}
use Rattle.program.specs.Tree.{Exprs.none, Exprs.more}
use Rattle.program.specs.Tree.{Stmt, Stmt.when, Stmt.declare, Stmt.update, Stmt.create, Stmts, Stmts.end, Stmts.next, Item, Item.call, Item.call_in, Item.fix}
use Rattle.program.specs.Tree.{Items, Items.stop, Items.item, Step, Program, size, items}
use Rattle.program.specs.Encoding.{flat, enc_list, enc_step, enc_items, enc_program}
use Rattle.program.specs.Counts.{All, Few, IsPath, CountsExpr, CountsExprs, CountsItem, CountsItems}
use Rattle.meaning.specs.Holds.{HoldsStmt, HoldsStmts, HoldsStep, HoldsSchedule, Counted, Holds}
use Rattle.compose.specs.Writing.{max_later}
use Rattle.compose.specs.Checks.{checks_expr, checks_exprs, checks_stmt, checks_stmts, checks_steps, checks_item, checks_items, checks_structs, checks}
use Rattle.compose.specs.Checks.{stream_behind}

and_kept : (f t : Bool) → t ≡ true → (f && t) ≡ f
and_kept true t e = e
and_kept false t e = refl

-- Counts -------------------------------------------------------------------------------------------------

module _ (ar : List ℕ) where
  mutual
    unfolding CountsExpr CountsExprs IsPath checks_expr checks_exprs

    expr_kept : (e : Expr) → CountsExpr ar e → (f : Bool) → checks_expr e f ≡ f
    expr_kept (inv e) h f = expr_kept e h f
    expr_kept (make k es) h f = exprs_kept es h.2 f
    expr_kept (path v vs) h f = and_kept f (leb (length vs) max_later) (le-leb (length vs) max_later (omega (arith, h.1)))
    expr_kept (int_lit w) h f = refl
    expr_kept (nat_lit w) h f = refl
    expr_kept (bool_lit w) h f = refl
    expr_kept (null t) h f = refl
    expr_kept self h f = refl
    expr_kept (op o a b) h f = expr_kept a h.0 (checks_expr b f) ∙ expr_kept b h.1 f

    exprs_kept : (es : Exprs) → CountsExprs ar es → (f : Bool) → checks_exprs es f ≡ f
    exprs_kept none h f = refl
    exprs_kept (more e es) h f = expr_kept e h.0 (checks_exprs es f) ∙ exprs_kept es h.1 f

  mutual
    unfolding HoldsStmt HoldsStmts IsPath checks_stmt checks_stmts size

    stmt_kept : (t : Stmt) → HoldsStmt ar t → (f : Bool) → checks_stmt t f ≡ f
    stmt_kept (when e b) h f = expr_kept e h.0 (checks_stmts b f) ∙ stmts_kept b h.1 h.2 f
    stmt_kept (declare t x e) h f = expr_kept e h.2 f
    stmt_kept (update v vs e) h f =
        and_kept (checks_expr e f) (leb (length vs) max_later) (le-leb (length vs) max_later (omega (arith, h.0.1))) ∙ expr_kept e h.1 f
    stmt_kept (create k es) h f = exprs_kept es h.2 f

    stmts_kept : (b : Stmts) → size b ≤ max_statements → HoldsStmts ar b → (f : Bool) → checks_stmts b f ≡ f
    stmts_kept end l h f = refl
    stmts_kept (next t b) l h f =
        and_kept (checks_stmt t (checks_stmts b f)) (ltb (size b) max_statements) (lt-ltb (size b) max_statements (omega arith))
        ∙ stmt_kept t h.0 (checks_stmts b f)
        ∙ stmts_kept b (omega arith) h.1 f

  steps_kept : (l : List Step) → length l ≤ max_steps → All (HoldsStep ar) l → (f : Bool) → checks_steps l f ≡ f
  unfolding HoldsStep checks_steps
  steps_kept [] b h f = refl
  steps_kept (t ∷ l) b h f =
      and_kept (checks_stmts t.body (checks_steps l f)) (ltb (length l) max_steps) (lt-ltb (length l) max_steps (omega arith))
      ∙ stmts_kept t.body h.0.1 h.0.2 (checks_steps l f)
      ∙ steps_kept l (omega arith) h.1 f

  structs_kept : (ls : List (List Step)) → All (Few 0 max_steps (HoldsStep ar)) ls → (f : Bool) → checks_structs ls f ≡ f
  unfolding checks_structs
  structs_kept [] h f = refl
  structs_kept (l ∷ ls) h f = steps_kept l h.0.1 h.0.2 (checks_structs ls f) ∙ structs_kept ls h.1 f

  mutual
    unfolding CountsItem CountsItems checks_item checks_items items

    item_kept : (i : Item) → CountsItem ar i → (f : Bool) → checks_item i f ≡ f
    item_kept (call n) h f = refl
    item_kept (call_in k n) h f = refl
    item_kept (fix is) h f = items_kept is h.1 h.2 f

    items_kept : (is : Items) → items is ≤ max_items → CountsItems ar is → (f : Bool) → checks_items is f ≡ f
    items_kept stop l h f = refl
    items_kept (item i is) l h f =
        and_kept (checks_item i (checks_items is f)) (ltb (items is) max_statements) (lt-ltb (items is) max_statements (omega arith))
        ∙ item_kept i h.0 (checks_items is f)
        ∙ items_kept is (omega arith) h.1 f

pub held_checks : (p : Program) → Holds p → checks p ≡ true
unfolding Counted HoldsSchedule checks
held_checks p h =
    let ar : List ℕ = map length p.params in
    structs_kept ar p.steps h.counted.2 (checks_items p.schedule true)
    ∙ items_kept ar p.schedule h.counted.3.1 h.counted.3.2 true

-- Bytes --------------------------------------------------------------------------------------------------

-- the parameters' types in front
pub stream_split : (p : Program) → enc_program p ≡ enc_list (enc_list (λ t. code t ∷ [])) p.params ++ stream_behind p
unfolding enc_program stream_behind
stream_split p =
    append_assoc (enc_list (enc_list (λ t. code t ∷ [])) p.params) (flat (enc_list enc_step) p.steps) (items p.schedule ∷ enc_items p.schedule)
