-- Depth on the tree (01, 'Names, types, commands'): over both ways it is what one walk gives, and the way that takes every body
-- goes as deep.
use Prim.Native.Nat.{ℕ, zero, suc, ◌+◌, ◌-◌, max, ◌≤◌}
use native.Mathlib.Omega.{arith}
use Rattle.std.proofs.Common.{add-one, add-zero, add-suc, suc-add, add_assoc, ◌∙◌, ap}
use Rattle.std.specs.Prelude.{◌≡◌, length, drop, get_or}
use Rattle.std.proofs.Math.Path.{refl}
use mathlib.Core.List.{List, [], ◌∷◌, ◌++◌, append-nil}
use Rattle.std.proofs.Math.Seq.{drop-append_seam}
use Rattle.program.specs.Tree.{Var, Var.loc, Expr, Expr.inv, Expr.make, Expr.path, Expr.int_lit, Expr.nat_lit, Expr.bool_lit, Expr.null, Expr.self}
use Rattle.program.specs.Tree.{Expr.op, Exprs, Exprs.none, Exprs.more, Stmt, Stmt.when, Stmt.declare, Stmt.update, Stmt.create, Stmts, Stmts.end}
use Rattle.program.specs.Tree.{Stmts.next, Step, Program, args}
use Rattle.program.specs.Encoding.{var_code}
use Rattle.program.specs.Counts.{All, CountsExpr, CountsExprs, CountsStmt, CountsStmts, CountsStep, Counts}
use Rattle.commands.specs.Commands.{Com, Com.push, Com.push_this, Com.rd, Com.wr, Com.cons, Com.not, Com.oper, reads, front, last, expr_coms}
use Rattle.commands.specs.Commands.{args_coms, update_coms, stmt_coms, body_coms, Flat, Flat.plain, Flat.if_n, flatten, commands}
use Rattle.commands.proofs.Laws.CommandLaws.{flatten_app, stored, update_flat, when_flat}
use Rattle.commands.specs.Depth.{after, depth, peak, peaks, stmt_growth, growth, stmt_height, height}
use Rattle.commands.specs.Bounds.{greatest, arities, step_depth, program_depth}

-- What both depths share ---------------------------------------------------------

-- a greatest height from h on, which an `if n` goes through by its body where leaving that out goes no higher
record Walks (ar : List ℕ) (D : List Flat → ℕ → ℕ) : Type 0 where
  nothing : (h : ℕ) → D [] h ≡ h
  command : (m : Com) (c : List Flat) (h : ℕ) → D (plain m ∷ c) h ≡ max h (D c (after ar m h))
  taken : (n : ℕ) (c : List Flat) (h : ℕ) → D (drop n c) h ≤ D c h → D (if_n n ∷ c) (suc h) ≡ max (suc h) (D c h)
  high : (c : List Flat) (h : ℕ) → h ≤ D c h
  mono : (c : List Flat) {h h' : ℕ} → h ≤ h' → D c h ≤ D c h'

less : (h : ℕ) → suc h - 1 ≡ h
less h = omega arith

after_mono : (ar : List ℕ) (m : Com) {h h' : ℕ} → h ≤ h' → after ar m h ≤ after ar m h'
after_mono ar (push t v) p = omega arith
after_mono ar push_this p = omega arith
after_mono ar (rd x) p = omega arith
after_mono ar (wr x) p = omega arith
after_mono ar (cons k) p = omega arith
after_mono ar not p = omega arith
after_mono ar (oper o) p = omega arith

module _ (ar : List ℕ) where
  -- leaving out j commands is being without them
  pub dropped : (c : List Flat) (j h : ℕ) → depth ar (drop j c) 0 h ≡ depth ar c j h
  unfolding depth
  dropped [] zero h = refl
  dropped [] (suc j) h = refl
  dropped (m ∷ c) zero h = refl
  dropped (m ∷ c) (suc j) h = dropped c j h

  -- no depth is below the height that it starts from
  pub depth_high : (c : List Flat) (j h : ℕ) → h ≤ depth ar c j h
  unfolding depth
  depth_high [] j h = omega arith
  depth_high (m ∷ c) (suc j) h = depth_high c j h
  depth_high (plain m ∷ c) zero h = omega arith
  depth_high (if_n n ∷ c) zero h = omega arith

  -- from a greater height no less deep
  pub depth_mono : (c : List Flat) (j : ℕ) {h h' : ℕ} → h ≤ h' → depth ar c j h ≤ depth ar c j h'
  unfolding depth
  depth_mono [] j p = p
  depth_mono (m ∷ c) (suc j) p = depth_mono c j p
  depth_mono (plain m ∷ c) zero p = omega (arith, depth_mono c 0 (after_mono ar m p))
  depth_mono (if_n n ∷ c) zero {h = h} {h' = h'} p =
      let q : h - 1 ≤ h' - 1 = omega arith in
      omega (arith, depth_mono c 0 q, depth_mono c n q)

  depth_walks : Walks ar (λ c h. depth ar c 0 h)
  unfolding depth
  depth_walks = record {
    nothing = λ h. refl;
    command = λ m c h. refl;
    taken = λ n c h p. rw (less h) (omega (arith, dropped c n h));
    high = λ c h. depth_high c 0 h;
    mono = λ c p. depth_mono c 0 p;
  }

-- Of trees -----------------------------------------------------------------------

-- an expression pushes its value
pub peak_pos : (e : Expr) → 1 ≤ peak e
unfolding peak
peak_pos (inv e) = peak_pos e
peak_pos (make k es) = omega arith
peak_pos (path v vs) = omega arith
peak_pos (int_lit w) = omega arith
peak_pos (nat_lit w) = omega arith
peak_pos (bool_lit w) = omega arith
peak_pos (null t) = omega arith
peak_pos self = omega arith
peak_pos (op o a b) = omega arith

args_peaks : (es : Exprs) → args es ≤ peaks es
unfolding peak args
args_peaks none = omega arith
args_peaks (more e es) = omega (arith, args_peaks es)

growth_height : (b : Stmts) → growth b ≤ height b
unfolding growth height
growth_height end = omega arith
growth_height (next s b) = omega (arith, growth_height b)

-- from h on: over one value; over arguments n of peak p; over two values; over one and more
over_one : (h p d : ℕ) → suc h ≤ d → max (h + p) (max (suc h) d) ≡ max (h + p) d
over_one h p d l = omega arith

over_made : (h n p d : ℕ) → n ≤ p → suc h ≤ d → max (h + p) (max (h + n) d) ≡ max (h + max 1 p) d
over_made h n p d i l = omega arith

over_first : (h p q d : ℕ) → max (h + p) (max (suc h + q) d) ≡ max (h + max p (suc q)) d
over_first h p q d = omega arith

over_when : (h p q d : ℕ) → 1 ≤ p → max (h + p) (max (suc h) (max (h + q) d)) ≡ max (h + max p q) d
over_when h p q d i = omega arith

under_inside : (d i m x : ℕ) → d ≤ i → x ≡ max m i → d ≤ x
under_inside d i m x l e = omega arith

over_next : (h p g q d : ℕ) → max (h + p) (max (h + g + q) d) ≡ max (h + max p (g + q)) d
over_next h p g q d = omega arith

over_two : (h p q d : ℕ) → 1 ≤ q → max (h + p) (max (suc h + q) (max (suc (suc h)) d)) ≡ max (h + max p (suc q)) d
over_two h p q d i = omega arith

module _ (ar : List ℕ) {D : List Flat → ℕ → ℕ} (w : Walks ar D) where
  -- a command after which the height is k
  to : (m : Com) (c : List Flat) (h k : ℕ) → after ar m h ≡ k → D (plain m ∷ c) h ≡ max h (D c k)
  to m c h k e = w.command m c h ∙ ap (λ i. max h (D c i)) e

  reads_depth : (xs : List ℕ) (c : List Flat) (h : ℕ) → D (flatten (reads xs) ++ c) (suc h) ≡ D c (suc h)
  unfolding reads flatten
  reads_depth [] c h = refl
  reads_depth (x ∷ xs) c h =
      omega (arith, to (rd x) (flatten (reads xs) ++ c) (suc h) (suc h) (omega arith), reads_depth xs c h, w.high c (suc h))

  stored_depth : (x : ℕ) (xs : List ℕ) (c : List Flat) (h : ℕ)
      → D (plain push_this ∷ stored x xs c) (suc h) ≡ max (suc (suc h)) (D c h)
  stored_depth x xs c h =
      omega (
        arith,
        to push_this (stored x xs c) (suc h) (suc (suc h)) refl,
        reads_depth (front x xs) (plain (wr (last x xs)) ∷ c) (suc h),
        to (wr (last x xs)) c (suc (suc h)) h (omega arith),
      )

  pushed : (m : Com) (c : List Flat) (h : ℕ) → after ar m h ≡ suc h → D (plain m ∷ c) h ≡ max (h + 1) (D c (suc h))
  pushed m c h e = omega (arith, to m c h (suc h) e, w.high c (suc h))

  mutual
    unfolding expr_coms peak CountsExpr args flatten

    -- an expression rises by its peak and leaves one value
    expr_depth : (e : Expr) → CountsExpr ar e → (c : List Flat) (h : ℕ)
        → D (flatten (expr_coms e) ++ c) h ≡ max (h + peak e) (D c (suc h))
    expr_depth (inv e) d c h =
        rw (flatten_app, expr_depth e d (plain not ∷ c) h, to not c (suc h) (suc h) (omega arith)) (over_one h (peak e) _ (w.high c (suc h)))
    expr_depth (make k es) d c h =
        let n : args es ≡ get_or ar k 0 = d.1 in
        rw (flatten_app, args_depth es d.2 (plain (cons k) ∷ c) h, to (cons k) c (h + args es) (suc h) (omega arith))
        (over_made h (args es) (peaks es) _ (args_peaks es) (w.high c (suc h)))
    expr_depth (path v vs) d c h =
        rw (pushed push_this (flatten (reads (var_code v ∷ vs)) ++ c) h refl, reads_depth (var_code v ∷ vs) c h)
    expr_depth (int_lit x) d c h = pushed _ c h refl
    expr_depth (nat_lit x) d c h = pushed _ c h refl
    expr_depth (bool_lit x) d c h = pushed _ c h refl
    expr_depth (null t) d c h = pushed _ c h refl
    expr_depth self d c h = pushed push_this c h refl
    expr_depth (op o a b) d c h =
        rw (
          flatten_app,
          flatten_app (expr_coms b),
          expr_depth a d.0 (flatten (expr_coms b) ++ plain (oper o) ∷ c) h,
          expr_depth b d.1 (plain (oper o) ∷ c) (suc h),
          to (oper o) c (suc (suc h)) (suc h) (omega arith),
        )
        (over_two h (peak a) (peak b) _ (peak_pos b))

    args_depth : (es : Exprs) → CountsExprs ar es → (c : List Flat) (h : ℕ)
        → D (flatten (args_coms es) ++ c) h ≡ max (h + peaks es) (D c (h + args es))
    args_depth none d c h = rw add-zero (omega (arith, w.high c h))
    args_depth (more e es) d c h =
        rw
        (flatten_app, expr_depth e d.0 (flatten (args_coms es) ++ c) h, args_depth es d.1 c (suc h), add-suc, suc-add h (args es))
        (over_first h (peak e) (peaks es) _)

  -- an `if n` before its n commands b, which leave no less than there was
  if_depth : (b c : List Flat) (h : ℕ) → D c h ≤ D (b ++ c) h → D (if_n (length b) ∷ (b ++ c)) (suc h) ≡ max (suc h) (D (b ++ c) h)
  if_depth b c h p = w.taken (length b) (b ++ c) h (rw (drop-append_seam b c) p)

  update_depth : (v : Var) (vs : List ℕ) (e : Expr) → CountsExpr ar e → (c : List Flat) (h : ℕ)
      → D (flatten (update_coms v vs e) ++ c) h ≡ max (h + max (peak e) 2) (D c (h + 0))
  update_depth v vs e d c h =
      rw (update_flat, expr_depth e d (plain push_this ∷ stored (var_code v) vs c) h, stored_depth (var_code v) vs c h, add-zero)
      (omega arith)

  mutual
    unfolding stmt_coms expr_coms peak CountsExpr growth height CountsStmts flatten

    -- a statement rises by its height and leaves its growth, whatever stands behind it
    stmt_depth : (s : Stmt) → CountsStmt ar s → (c : List Flat) (h : ℕ)
        → D (flatten (stmt_coms s) ++ c) h ≡ max (h + stmt_height s) (D c (h + stmt_growth s))
    stmt_depth (when e b) d c h =
        let f = flatten (body_coms b) in
        let inside = body_depth b d.3 c h in
        let low = w.mono c {h = h} {h' = h + growth b} (omega arith) in
        rw (when_flat, expr_depth e d.0 (if_n (length f) ∷ (f ++ c)) h, if_depth f c h (under_inside _ _ _ _ low inside), inside)
        (over_when h (peak e) (height b) _ (peak_pos e))
    stmt_depth (declare t x e) d c h = update_depth (loc x) [] e d.2 c h
    stmt_depth (update v vs e) d c h = update_depth v vs e d.1 c h
    stmt_depth (create k es) d c h = rw (← add-one h) at (expr_depth (make k es) (d.0, d.1, d.2) c h)

    body_depth : (b : Stmts) → CountsStmts ar b → (c : List Flat) (h : ℕ)
        → D (flatten (body_coms b) ++ c) h ≡ max (h + height b) (D c (h + growth b))
    body_depth end d c h = rw add-zero (omega (arith, w.high c h))
    body_depth (next s b) d c h =
        rw (
          flatten_app,
          stmt_depth s d.0 (flatten (body_coms b) ++ c) h,
          body_depth b d.1 c (h + stmt_growth s),
          ← add_assoc h (stmt_growth s) (growth b),
        )
        (over_next h (stmt_height s) (stmt_growth s) (height b) _)

  walk_is : (b : Stmts) → CountsStmts ar b → D (commands b) 0 ≡ height b
  unfolding commands
  walk_is b d = omega (arith, rw append-nil at (body_depth b d [] 0), w.nothing (0 + growth b), growth_height b)

-- the depth over both ways is the height that one walk on the tree gives
pub depth_is : (ar : List ℕ) (b : Stmts) → CountsStmts ar b → depth ar (commands b) 0 0 ≡ height b
depth_is ar b d = walk_is ar (depth_walks ar) b d

-- Of programs --------------------------------------------------------------------

-- two functions equal on each element are greatest at one number
greatest_same : {A : Type 0} {f g : A → ℕ} {C : A → Type 0} → ((a : A) → C a → f a ≡ g a) → (l : List A) → All C l → greatest f l ≡ greatest g l
unfolding greatest
greatest_same e [] c = refl
greatest_same e (a ∷ l) c = rw (e a c.0, greatest_same e l c.1)

module _ (p : Program) where
  -- a step's depth is its height
  pub step_depth_is : (t : Step) → CountsStep (arities p) t → step_depth p t ≡ height t.body
  unfolding CountsStep
  step_depth_is t c = depth_is (arities p) t.body c.2

  -- the depth that the checker reports is the greatest height
  pub program_depth_is : Counts p → program_depth p ≡ greatest (greatest (λ t. height t.body)) p.steps
  unfolding program_depth Counts
  program_depth_is c = greatest_same (λ ts few. greatest_same step_depth_is ts few.2) p.steps c.2
