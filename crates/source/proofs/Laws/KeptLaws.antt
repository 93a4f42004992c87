-- The bytes of whatever a stream holds are read as it, or refused with 5 (02 §1, 17: "nesting apart"): expressions, statements, items and programs, by
-- induction on the levels that are left.
use Prim.Native.Nat.{ℕ, zero, suc, ◌+◌, ◌<◌, ◌≤◌}
use Rattle.std.proofs.Common.{arith}
use Rattle.std.proofs.Math.Decide.{dec_lt}
use Rattle.std.proofs.Math.Path.{◌≡◌, refl}
use Rattle.std.specs.Prelude.{List, [], ◌∷◌, ◌++◌, map, get_or}
use Rattle.std.proofs.Math.ListN.{length}
use Rattle.types.specs.Limits.{max_steps, max_statements, max_items, step_names, if_levels, fix_levels, expr_levels}
use Rattle.types.specs.Types.{code}
use Rattle.program.specs.Tree.{Expr, Expr.inv, Expr.make, Expr.path, Expr.int_lit, Expr.nat_lit, Expr.bool_lit, Expr.null, Expr.self, Expr.op}
use Rattle.program.specs.Tree.{Exprs, Exprs.none, Exprs.more, Stmt, Stmt.when, Stmt.declare, Stmt.update, Stmt.create, Stmts, Stmts.end, Stmts.next}
use Rattle.program.specs.Tree.{Item, Item.call, Item.call_in, Item.fix, Items, Items.stop, Items.item, args, size, items}
use Rattle.program.specs.Encoding.{flat, enc_list, op_code, enc_expr, enc_exprs, enc_stmt, enc_stmts, enc_item, enc_items, enc_step, enc_program}
use Rattle.program.specs.Counts.{All, Few, expr_height, CountsExpr, CountsExprs, CountsItem, CountsItems}
use Rattle.program.specs.Reader.{Result, Result.ok, Result.bad, wrong_end, wrong_byte, then, pair, made, many, lookup, counted, opened, word_bytes, bool_end}
use Rattle.program.specs.Reader.{form, read_make, rule_expr, read_expr, kind, read_body, read_when, read_declare, read_update, rule_stmt, read_stmt}
use Rattle.program.specs.Reader.{read_step, read_steps, item_sort, read_items, rule_item, read_item, read_program}
use Rattle.program.specs.Exact.{Stands, Stands.letter, Exact}
use Rattle.program.proofs.Laws.StandsLaws.{split, stands_none}
use Rattle.program.proofs.Laws.PartLaws.{then_ok, byte_ok, byte_none}
use Rattle.program.proofs.Laws.JoinLaws.{Within, ranged_exact}
use Rattle.program.proofs.Laws.WordLaws.{below_exact, word_exact, type_exact, local_exact, path_exact}
use Rattle.program.proofs.Laws.ExprLaws.{form_code, height_pos, expr_exact}
use Rattle.program.proofs.Laws.ProgramLaws.{params_exact}
use Rattle.meaning.specs.Holds.{HoldsStmt, HoldsStmts, HoldsStep, HoldsSchedule, Counted}
use Rattle.source.specs.Kept.{Kept, Kept.kept, Kept.too_deep, Keeps}

-- Answers put together --------------------------------------------------------------------------

kept_then : {A B : Type 0} {a : A} {b : B} {k m : ℕ} {r : Result A} (f : A → ℕ → Result B) → Kept a k r → Kept b m (f a k) → Kept b m (then r f)
unfolding then
kept_then f kept w = w
kept_then f too_deep w = too_deep

kept_made : {A B : Type 0} {a : A} {m : ℕ} {r : Result A} (f : A → B) → Kept a m r → Kept (f a) m (made f r)
unfolding made
kept_made f w = kept_then _ w kept

-- what is exact keeps, and so does one thing and another behind it
exact_keeps : {A : Type 0} {C : A → Type 0} {E : A → List ℕ} {r : List ℕ → ℕ → Result A} → Exact C E r → Keeps C E r
exact_keeps x s a n m c w = rw (x.complete s a n m c w) kept

pair_keeps : {A B : Type 0} {C : A → Type 0} {D : A → B → Type 0} {E : A → List ℕ} {F : B → List ℕ} {r : List ℕ → ℕ → Result A}
    {q : A → List ℕ → ℕ → Result B} → Keeps C E r → ((a : A) → C a → Keeps (D a) F (q a))
    → Keeps (λ p. (C p.0) × (D p.0 p.1)) (λ p. E p.0 ++ F p.1) (λ s n. pair (r s n) λ a. q a s)
unfolding pair
pair_keeps {E = E} x y s p n m c w =
    let k = split (E p.0) w in
    kept_then _ (x s p.0 n k.0 c.0 k.1) (kept_then _ (y p.0 c.0 s p.1 k.0 m c.1 k.2) kept)

-- a thing in front of a row
kept_row : {A B : Type 0} {C : A → Type 0} {E : A → List ℕ} {r : List ℕ → ℕ → Result A} {F : List ℕ} {b : B} {m : ℕ}
    (z : B) (c : A → B → B) (i : ℕ) → Keeps C E r → (s : List ℕ) (a : A) (n : ℕ) → C a
    → ((k : ℕ) → Stands s k F m → Kept b m (many z c (r s) i k)) → Stands s n (E a ++ F) m
    → Kept (c a b) m (many z c (r s) (suc i) n)
unfolding many
kept_row {E = E} z c i x s a n h y w =
    let k = split (E a) w in
    kept_then _ (x s a n k.0 h k.1) (kept_then _ (y k.0 k.2) kept)

-- a count and what it counts
kept_counted : {B : Type 0} {b : B} {F : List ℕ} {m : ℕ} (s : List ℕ) (lo hi i n : ℕ) (q : ℕ → ℕ → Result B) → Within lo (suc hi) i
    → ((k : ℕ) → Stands s k F m → Kept b m (q i k)) → Stands s n (i ∷ F) m → Kept b m (counted s lo hi q n)
unfolding counted
kept_counted s lo hi i n q h y w =
    let k = split (i ∷ []) w in
    kept_then _ (exact_keeps (ranged_exact lo (suc hi)) s i n k.0 h k.1) (y k.0 k.2)

-- a list's elements, and a count before them
list_keeps : {A : Type 0} {C : A → Type 0} {E : A → List ℕ} {r : List ℕ → ℕ → Result A} → Keeps C E r
    → (s : List ℕ) (l : List A) (n m : ℕ) → All C l → Stands s n (flat E l) m → Kept l m (many [] ◌∷◌ (r s) (length l) n)
unfolding flat many
list_keeps x s [] n m c w = rw (stands_none w) kept
list_keeps x s (a ∷ l) n m c w = kept_row [] ◌∷◌ (length l) x s a n c.0 (λ k v. list_keeps x s l k m c.1 v) w

few_keeps : {A : Type 0} {C : A → Type 0} {E : A → List ℕ} {r : List ℕ → ℕ → Result A} (lo hi : ℕ) → Keeps C E r
    → Keeps (Few lo hi C) (enc_list E) (λ s. counted s lo hi (many [] ◌∷◌ (r s)))
few_keeps lo hi x s l n m c w = kept_counted s lo hi (length l) n _ (omega arith) (λ k v. list_keeps x s l k m c.2 v) w

-- what a byte opens
kept_opened : {I A : Type 0} {a : A} {m : ℕ} (s : List ℕ) (key : ℕ → I) (rule : ℕ → ℕ → I → Result A) {n b : ℕ} → n < length s → get_or s n 0 ≡ b
    → Kept a m (rule n (n + 1) (key b)) → Kept a m (opened s key rule n)
unfolding opened
kept_opened s key rule {n = n} h e w = rw (then_ok (λ b k. rule n k (key b)) (byte_ok s h e) refl) w

module _ (ar : List ℕ) where
  -- Expressions -----------------------------------------------------------------------------------

  -- an expression has a byte: with as many levels as it has, it is read
  has_byte : (s : List ℕ) (e : Expr) (n m : ℕ) → CountsExpr ar e → Stands s n (enc_expr e) m → n < length s
  unfolding read_expr opened then
  has_byte s e n m c w = go (expr_height e) refl (dec_lt n (length s))
    where
      go : (h : ℕ) → expr_height e ≡ h → Dec (n < length s) → n < length s
      go h q (yes l) = l
      go zero q (no l) = absurd (omega (arith, height_pos e))
      go (suc h) q (no l) =
          let r = (expr_exact ar (suc h)).complete s e n m (c, omega arith) w in
          let z : bad n wrong_end ≡ ok e m = rw (byte_none s {n = n} (omega arith), then) at r in
          let u : ◌≡◌ {A = ℕ} 0 1 = cc in absurd (omega arith)

  module _ (r : List ℕ → ℕ → Result Expr) (x : Keeps (CountsExpr ar) enc_expr r) where
    exprs_keep : (s : List ℕ) (es : Exprs) (n m : ℕ) → CountsExprs ar es → Stands s n (enc_exprs es) m → Kept es m (many none more (r s) (args es) n)
    unfolding args enc_exprs CountsExprs many
    exprs_keep s none n m c w = rw (stands_none w) kept
    exprs_keep s (more e es) n m c w = kept_row none more (args es) x s e n c.0 (λ k v. exprs_keep s es k m c.1 v) w

    -- a struct and an expression for each of its parameters
    make_keeps : Keeps (λ p. (p.0 < length ar) × ((args p.1 ≡ get_or ar p.0 0) × (CountsExprs ar p.1))) (λ p. p.0 ∷ enc_exprs p.1)
        (λ s. read_make ar s (r s))
    unfolding read_make
    make_keeps = pair_keeps (exact_keeps (below_exact (length ar))) λ k h s es n m c w. rw (← c.0) (exprs_keep s es n m c.1 w)

    -- each tree, at the byte that opens it
    tree_keeps : Keeps (CountsExpr ar) enc_expr (λ s. opened s form (rule_expr ar s (r s)))
    unfolding rule_expr CountsExpr enc_expr form lookup
    tree_keeps s (inv e) n m c (letter h q w) = kept_opened s _ _ {b = 16} h q (kept_made _ (x s e _ m c w))
    tree_keeps s (make k es) n m c (letter h q w) = kept_opened s _ _ {b = 17} h q (kept_made _ (make_keeps s (k, es) _ m (c.0, (c.1, c.2)) w))
    tree_keeps s (path v vs) n m c (letter h q w) = kept_opened s _ _ {b = 18} h q (kept_made _ (exact_keeps path_exact s (v, vs) _ m c w))
    tree_keeps s (int_lit v) n m c (letter h q w) = kept_opened s _ _ {b = 19} h q (kept_made _ (exact_keeps (word_exact word_bytes) s v _ m c w))
    tree_keeps s (nat_lit v) n m c (letter h q w) = kept_opened s _ _ {b = 20} h q (kept_made _ (exact_keeps (word_exact word_bytes) s v _ m c w))
    tree_keeps s (bool_lit v) n m c (letter h q w) = kept_opened s _ _ {b = 21} h q (kept_made _ (exact_keeps (below_exact bool_end) s v _ m c w))
    tree_keeps s (null t) n m c (letter h q w) = kept_opened s _ _ {b = 22} h q (kept_made _ (exact_keeps (type_exact (length ar)) s t _ m c w))
    tree_keeps s self n m c (letter h q w) = kept_opened s _ _ {b = 23} h q (rw (stands_none w) kept)
    tree_keeps s (op o a b) n m c (letter h q w) =
        kept_opened s _ _ {b = op_code o} h q (rw (form_code o) (kept_made _ (pair_keeps x (λ e h. x) s (a, b) _ m c w)))

  expr_keeps : (d : ℕ) → Keeps (CountsExpr ar) enc_expr (λ s. read_expr ar s d)
  unfolding read_expr
  expr_keeps zero = λ s e n m c w. rw (then_ok {B = Expr} (λ b k. bad n wrong_byte) (byte_ok s (has_byte s e n m c w) refl) refl) too_deep
  expr_keeps (suc d) = tree_keeps _ (expr_keeps d)

  outer : Keeps (CountsExpr ar) enc_expr (λ s. read_expr ar s expr_levels)
  outer = expr_keeps expr_levels

  -- Statements ------------------------------------------------------------------------------------

  -- a count and so many statements
  body_keeps : (r : List ℕ → ℕ → Result Stmt) → Keeps (HoldsStmt ar) enc_stmt r
      → Keeps (λ b. (size b ≤ max_statements) × (HoldsStmts ar b)) (λ b. size b ∷ enc_stmts b) (λ s. read_body ar s (r s))
  unfolding read_body size enc_stmts HoldsStmts many
  body_keeps r x s b n m c w = kept_counted s 0 max_statements (size b) n _ (omega arith) (λ k v. stmts_keep b k m c.1 v) w
    where
      stmts_keep : (b : Stmts) (n m : ℕ) → HoldsStmts ar b → Stands s n (enc_stmts b) m → Kept b m (many end next (r s) (size b) n)
      stmts_keep end n m c w = rw (stands_none w) kept
      stmts_keep (next t b) n m c w = kept_row end next (size b) x s t n c.0 (λ k v. stmts_keep b k m c.1 v) w

  -- each tree, where w answers what stands behind the byte of an if
  module _ (w : List ℕ → ℕ → ℕ → Result (Expr × Stmts)) (x : (s : List ℕ) (e : Expr) (b : Stmts) (n m : ℕ) → HoldsStmt ar (when e b)
      → Stands s (n + 1) (enc_expr e ++ size b ∷ enc_stmts b) m → Kept (e, b) m (w s n (n + 1))) where
    stmt_tree : Keeps (HoldsStmt ar) enc_stmt (λ s. opened s kind (rule_stmt ar s (w s)))
    unfolding rule_stmt read_declare read_update HoldsStmt enc_stmt kind lookup
    stmt_tree s (when e b) n m c (letter h q v) = kept_opened s _ _ {b = 1} h q (kept_made _ (x s e b n m c v))
    stmt_tree s (declare t i e) n m c (letter h q v) =
        let y = pair_keeps (exact_keeps (type_exact (length ar))) (λ t h. pair_keeps (exact_keeps local_exact) λ i h. outer) in
        kept_opened s _ _ {b = 2} h q (kept_made _ (y s (t, (i, e)) _ m (c.0, (c.1, c.2)) v))
    stmt_tree s (update y ys e) n m c (letter h q v) =
        kept_opened s _ _ {b = 3} h q (kept_made _ (pair_keeps (exact_keeps path_exact) (λ p h. outer) s ((y, ys), e) _ m c v))
    stmt_tree s (create k es) n m c (letter h q v) = kept_opened s _ _ {b = 4} h q (kept_made _ (make_keeps _ outer s (k, es) _ m (c.0, (c.1, c.2)) v))

  stmt_keeps : (d : ℕ) → Keeps (HoldsStmt ar) enc_stmt (λ s. read_stmt ar s d)
  unfolding read_stmt read_when HoldsStmt
  stmt_keeps zero = stmt_tree _ (λ s e b n m c v. too_deep)
  stmt_keeps (suc d) =
      let x = pair_keeps outer (λ e h. body_keeps _ (stmt_keeps d)) in
      stmt_tree _ (λ s e b n m c v. x s (e, b) (n + 1) m (c.0, (c.1, c.2)) v)

  -- a step's name and statements, and the steps of a struct
  step_keeps : Keeps (HoldsStep ar) enc_step (read_step ar)
  unfolding read_step HoldsStep enc_step
  step_keeps s t n m c w =
      let y = pair_keeps (exact_keeps (below_exact step_names)) (λ i h. body_keeps _ (stmt_keeps if_levels)) in
      kept_made _ (y s (t.name, t.body) n m (c.0, (c.1, c.2)) w)

  steps_keep : Keeps (Few 0 max_steps (HoldsStep ar)) (enc_list enc_step) (read_steps ar)
  unfolding read_steps
  steps_keep = few_keeps 0 max_steps step_keeps

  -- Items -------------------------------------------------------------------------------------------

  -- a count and so many items
  items_keep : (r : List ℕ → ℕ → Result Item) → Keeps (CountsItem ar) enc_item r
      → Keeps (λ is. (1 ≤ items is) × (items is ≤ max_items) × (CountsItems ar is)) (λ is. items is ∷ enc_items is) (λ s. read_items ar s (r s))
  unfolding read_items items enc_items CountsItems many
  items_keep r x s is n m c w = kept_counted s 1 max_items (items is) n _ (omega arith) (λ k v. row is k m c.2 v) w
    where
      row : (is : Items) (n m : ℕ) → CountsItems ar is → Stands s n (enc_items is) m → Kept is m (many stop item (r s) (items is) n)
      row stop n m c w = rw (stands_none w) kept
      row (item t is) n m c w = kept_row stop item (items is) x s t n c.0 (λ k v. row is k m c.1 v) w

  -- each tree, where w answers what stands behind the byte of a Fix
  module _ (w : List ℕ → ℕ → ℕ → Result Items) (x : (s : List ℕ) (is : Items) (n m : ℕ) → CountsItem ar (fix is)
      → Stands s (n + 1) (items is ∷ enc_items is) m → Kept is m (w s n (n + 1))) where
    item_tree : Keeps (CountsItem ar) enc_item (λ s. opened s item_sort (rule_item ar s (w s)))
    unfolding rule_item CountsItem enc_item item_sort lookup
    item_tree s (call i) n m c (letter h q v) = kept_opened s _ _ {b = 1} h q (kept_made _ (exact_keeps (below_exact step_names) s i _ m c v))
    item_tree s (call_in k i) n m c (letter h q v) =
        kept_opened s _ _ {b = 2} h q
        (kept_made _ (pair_keeps (exact_keeps (below_exact (length ar))) (λ k h. exact_keeps (below_exact step_names)) s (k, i) _ m c v))
    item_tree s (fix is) n m c (letter h q v) = kept_opened s _ _ {b = 3} h q (kept_made _ (x s is n m c v))

  item_keeps : (d : ℕ) → Keeps (CountsItem ar) enc_item (λ s. read_item ar s d)
  unfolding read_item CountsItem
  item_keeps zero = item_tree _ (λ s is n m c v. too_deep)
  item_keeps (suc d) =
      let x = items_keep _ (item_keeps d) in
      item_tree _ (λ s is n m c v. x s is (n + 1) m c v)

-- Programs --------------------------------------------------------------------------------------------

pub program_keeps : Keeps Counted enc_program read_program
unfolding read_program pair Counted HoldsSchedule enc_program
program_keeps s p n m c w =
    let ar : List ℕ = map length p.params in
    let k = split (enc_list (enc_list (λ t. code t ∷ [])) p.params ++ flat (enc_list enc_step) p.steps) w in
    let j = split (enc_list (enc_list (λ t. code t ∷ [])) p.params) k.1 in
    kept_made _
    (kept_then _ (exact_keeps params_exact s p.params n j.0 c.0 j.1)
    (kept_then _
    (kept_then _ (rw c.1 at (list_keeps (steps_keep ar) s p.steps j.0 k.0 c.2 j.2))
    (kept_then _ (items_keep ar _ (item_keeps ar fix_levels) s p.schedule k.0 m c.3 k.2) kept))
    kept))
