-- Statements and steps follow the fronts of their encodings (01, 4 and 5 of 'Numbers from the input'): an expression may go on one level
-- deeper than 01 allows, behind the bytes that are there.
use Prim.Native.Nat.{ℕ, zero, suc, ◌+◌, ◌<◌, ◌≤◌}
use native.Mathlib.Omega.{arith}
use Rattle.std.proofs.Math.Path.{refl}
use mathlib.Core.List.{List, [], ◌∷◌, ◌++◌}
use Rattle.std.specs.Prelude.{length}
use Rattle.types.specs.Limits.{step_names, max_steps, max_statements, if_levels, expr_levels, first_local}
use Rattle.types.specs.Types.{code}
use Rattle.program.specs.Tree.{Var.par, Expr, Expr.self, Stmt, Stmt.when, Stmt.declare, Stmt.update, Stmt.create, Stmts, Stmts.end, Stmts.next}
use Rattle.program.specs.Tree.{Step, size}
use Rattle.program.specs.Encoding.{flat, enc_path, enc_expr, enc_exprs, enc_stmt, enc_list, enc_step}
use Rattle.program.specs.Levels.{all_at, levels_expr, levels_exprs, levels_stmt, levels_stmts, levels_step}
use Rattle.program.specs.Counts.{All, IsVar, IsPath, expr_height, nest, nests, CountsExpr, CountsStmtTo, CountsStmtsTo, CountsStepTo, CountsStep, Few}
use Rattle.program.specs.Reader.{Result, lookup, Kind, Kind.kind_when, Kind.kind_declare, Kind.kind_update, Kind.kind_create, Kind.kind_none}
use Rattle.program.specs.Reader.{kind, opened, read_make, read_expr, read_body, read_when, read_declare, read_update, rule_stmt, read_stmt}
use Rattle.program.specs.Reader.{read_step, read_steps}
use Rattle.program.specs.Exact.{Stands, Stands.letter, Exact}
use Rattle.program.proofs.Laws.WordLaws.{below_exact, type_exact, local_exact, path_exact}
use Rattle.program.proofs.Laws.ExprLaws.{InExpr, expr_exact}
use Rattle.program.proofs.Laws.StmtLaws.{OpensStmt, opens_stmt, InStmt, InStmtTo, enc_body, enc_when, stmts_row_to, stmt_exact, step_exact}
use Rattle.program.specs.Follows.{Follows, FollowsBehind, FormEnds, Opened}
use Rattle.program.proofs.Laws.MetLaws.{met_made}
use Rattle.program.proofs.Laws.FollowsLaws.{follows_as, made_follows, pair_follows, row_follows, follows_behind, shut_follows, counted_follows}
use Rattle.program.proofs.Laws.FollowsLaws.{list_follows, formed_ends, met_byte, opened_follows, no_form_ends}
use Rattle.program.proofs.Laws.WordFollows.{below_follows, type_follows, local_follows, path_follows}
use Rattle.program.proofs.Laws.ExprFollows.{make_follows, expr_follows}

-- the deepest level that a byte may stand at, and the levels of what goes on
abbrev top : ℕ
top = expr_levels

abbrev pub one_more : ℕ
one_more = suc expr_levels

outside : 0 ≤ top
outside = omega arith

module _ (ar : List ℕ) where
  -- what has few levels has few of a level more
  mutual
    unfolding CountsStmtTo

    pub stmt_wider : (t : Stmt) → CountsStmtTo expr_levels ar t → CountsStmtTo one_more ar t
    stmt_wider (when e b) c = (c.0, omega arith, c.2, stmts_wider b c.3)
    stmt_wider (declare t x e) c = (c.0, c.1, c.2, omega arith)
    stmt_wider (update v vs e) c = (c.0, c.1, omega arith)
    stmt_wider (create k es) c = (c.0, c.1, c.2, omega arith)

    pub stmts_wider : (b : Stmts) → CountsStmtsTo expr_levels ar b → CountsStmtsTo one_more ar b
    stmts_wider end c = tt
    stmts_wider (next t b) c = (stmt_wider t c.0, stmts_wider b c.1)

  pub step_wider : (t : Step) → CountsStep ar t → CountsStepTo one_more ar t
  unfolding CountsStep
  step_wider t c = (c.0, c.1, stmts_wider t.body c.2, c.3)

  pub steps_wider : (ts : List Step) → Few 0 max_steps (CountsStep ar) ts → Few 0 max_steps (CountsStepTo one_more ar) ts
  steps_wider ts c = (c.0, c.1, go ts c.2)
    where
      go : (ts : List Step) → All (CountsStep ar) ts → All (CountsStepTo one_more ar) ts
      go [] c = tt
      go (t ∷ ts) c = (step_wider t c.0, go ts c.1)

  stmt_in_wider : (d : ℕ) (t : Stmt) → InStmt ar d t → InStmtTo ar one_more d t
  unfolding CountsStmtTo
  stmt_in_wider d t c = (stmt_wider t c.0, c.1)

  expr_wider : (e : Expr) → InExpr ar expr_levels e → InExpr ar one_more e
  expr_wider e c = (c.0, omega arith)

-- where there is a struct
module _ (ar : List ℕ) (structs : 0 < length ar) where
  -- an expression that stands in no other
  outer : Follows top (InExpr ar one_more) enc_expr (λ e. levels_expr e 1) (λ s. read_expr ar s expr_levels)
  outer = expr_follows ar structs top expr_levels 1 (omega arith)

  -- a count and so many statements
  pub body_follows : (d : ℕ) {r : List ℕ → ℕ → Result Stmt} → Exact (InStmt ar d) enc_stmt r
      → Follows top (InStmtTo ar one_more d) enc_stmt levels_stmt r
      → Follows top (λ b. (size b ≤ max_statements) × (CountsStmtsTo one_more ar b) × (nests b ≤ d)) (enc_body ar) (λ b. 0 ∷ levels_stmts b)
      (λ s. read_body ar s (r s))
  unfolding read_body levels_stmt
  body_follows d x y =
      follows_as top
      (counted_follows top outside 0 max_statements size (omega arith) (λ i b h p. p.0)
      λ i o. row_follows top x (stmt_in_wider ar d) y (stmts_row_to ar one_more d) (λ i. levels_stmts) refl (λ i t b c. refl) i)
      (λ b h. (h.1, h.2.1, h.2.2)) (λ b h. (omega arith, h.0, (refl, h.1, h.2))) (λ b. refl)

  abbrev InWhenTo : ℕ → Expr × Stmts → Type 0
  InWhenTo d p = InStmtTo ar one_more d (when p.0 p.1)

  abbrev levels_when : Expr × Stmts → List ℕ
  levels_when p = levels_expr p.0 1 ++ 0 ∷ levels_stmts p.1

  -- what stands behind the byte of an if
  when_follows : (d : ℕ) {r : List ℕ → ℕ → Result Stmt} → Exact (InStmt ar d) enc_stmt r
      → Follows top (InStmtTo ar one_more d) enc_stmt levels_stmt r
      → Follows top (InWhenTo (suc d)) (enc_when ar) levels_when (λ s. read_when ar s (r s))
  unfolding read_when CountsStmtTo nest
  when_follows d x y =
      follows_as top (pair_follows top (expr_exact ar expr_levels) (expr_wider ar) outer λ e c. body_follows d x y)
      (λ p h. ((h.0.0, h.0.1, h.1.0, h.1.1), omega arith)) (λ p h. ((h.0.0, h.0.1), (h.0.2, h.0.3, omega arith))) (λ p. refl)

  -- the parts of the statements that hold no others
  declare_follows : Follows top (λ p. CountsStmtTo one_more ar (declare p.0 p.1.0 p.1.1))
      (λ p. code p.0 ∷ (first_local + p.1.0) ∷ enc_expr p.1.1) (λ p. 0 ∷ 0 ∷ levels_expr p.1.1 1) (read_declare ar)
  unfolding read_declare CountsStmtTo
  declare_follows =
      follows_as top
      (pair_follows top (type_exact (length ar)) (λ t c. c) (type_follows top 0 outside (length ar)) λ t c.
      pair_follows top local_exact (λ x c. c) (local_follows top 0 outside) λ x c. outer)
      (λ p h. (h.0, h.1.0, h.1.1.0, h.1.1.1)) (λ p h. (h.0, (h.1, (h.2, h.3)))) (λ p. refl)

  update_follows : Follows top (λ p. CountsStmtTo one_more ar (update p.0.0 p.0.1 p.1))
      (λ p. enc_path p.0.0 p.0.1 ++ enc_expr p.1) (λ p. all_at 0 (enc_path p.0.0 p.0.1) ++ levels_expr p.1 1) (read_update ar)
  unfolding read_update CountsStmtTo
  update_follows =
      follows_as top (pair_follows top path_exact (λ p c. c) (path_follows top 0 outside) λ p c. outer)
      (λ p h. (h.0, h.1.0, h.1.1)) (λ p h. (h.0, (h.1, h.2))) (λ p. refl)

  create_follows : Follows top (λ p. CountsStmtTo one_more ar (create p.0 p.1))
      (λ p. p.0 ∷ enc_exprs p.1) (λ p. 0 ∷ levels_exprs p.1 1) (λ s. read_make ar s (read_expr ar s expr_levels))
  unfolding CountsStmtTo
  create_follows =
      follows_as top (make_follows ar structs top expr_levels 0 outside _ (expr_exact ar expr_levels) outer)
      (λ p h. (h.0, h.1.0, h.1.1, h.1.2)) (λ p h. (h.0, (h.1, h.2, h.3))) (λ p. refl)

  -- where w reads what stands behind the byte of an if, with at most d levels in all
  module _ (d : ℕ) (w : List ℕ → ℕ → ℕ → Result (Expr × Stmts))
      (x : FollowsBehind top (InWhenTo d) (enc_when ar) levels_when (λ s n. w s n (n + 1))) where
    -- each kind, behind the byte that opens it
    kind_ends : (f : Kind)
        → FormEnds top (InStmtTo ar one_more d) enc_stmt levels_stmt (λ b. OpensStmt b f) (λ s n. rule_stmt ar s (w s) n (n + 1) f)
    unfolding rule_stmt nest enc_stmt levels_stmt
    kind_ends kind_when = formed_ends top outside x _ (λ p h. h) (λ b p o. rw o) λ p. refl
    kind_ends kind_declare = formed_ends top outside (follows_behind top declare_follows) _ (λ p h. (h, omega arith)) (λ b p o. rw o) λ p. refl
    kind_ends kind_update = formed_ends top outside (follows_behind top update_follows) _ (λ p h. (h, omega arith)) (λ b p o. rw o) λ p. refl
    kind_ends kind_create = formed_ends top outside (follows_behind top create_follows) _ (λ p h. (h, omega arith)) (λ b p o. rw o) λ p. refl
    kind_ends kind_none = no_form_ends

    -- each tree, at the byte that opens it
    tree_met : (s : List ℕ) (t : Stmt) (n m : ℕ) → InStmtTo ar one_more d t → Stands s n (enc_stmt t) m
        → Opened top s (λ b. rule_stmt ar s (w s) n (n + 1) (kind b)) enc_stmt levels_stmt t n m
    unfolding rule_stmt enc_stmt levels_stmt kind lookup
    tree_met s (when e b) n m c (letter h q v) = (1, h, q, met_byte top outside (met_made _ (x.meets s (e, b) n m c v)))
    tree_met s (declare t y e) n m c (letter h q v) =
        (2, h, q, met_byte top outside (met_made _ (declare_follows.meets s (t, (y, e)) _ m c.0 v)))
    tree_met s (update y ys e) n m c (letter h q v) =
        (3, h, q, met_byte top outside (met_made _ (update_follows.meets s ((y, ys), e) _ m c.0 v)))
    tree_met s (create k es) n m c (letter h q v) = (4, h, q, met_byte top outside (met_made _ (create_follows.meets s (k, es) _ m c.0 v)))

    stmt_in : Follows top (InStmtTo ar one_more d) enc_stmt levels_stmt (λ s. opened s kind (rule_stmt ar s (w s)))
    unfolding CountsStmtTo CountsExpr IsPath IsVar expr_height nest
    stmt_in =
        opened_follows top _ OpensStmt opens_stmt (update (par 0) [] self)
        (((omega arith, omega arith, tt), tt, omega arith), omega arith) kind_ends tree_met

  -- a statement with at most d levels of if
  pub stmt_follows : (d : ℕ) → Follows top (InStmtTo ar one_more d) enc_stmt levels_stmt (λ s. read_stmt ar s d)
  unfolding read_stmt nest
  stmt_follows zero = stmt_in 0 _ (shut_follows top λ p h. omega arith)
  stmt_follows (suc d) = let x = when_follows d (stmt_exact ar d) (stmt_follows d) in stmt_in (suc d) _ (follows_behind top x)

  -- a step's name and statements
  pub step_follows : Follows top (CountsStepTo one_more ar) enc_step levels_step (read_step ar)
  unfolding read_step CountsStepTo enc_step levels_step
  step_follows =
      made_follows top
      (pair_follows top (below_exact step_names) (λ n c. c) (below_follows top 0 outside step_names (omega arith)) λ n c.
      body_follows if_levels (stmt_exact ar if_levels) (stmt_follows if_levels))
      (λ p. record { name = p.0; body = p.1 }) (λ t. (t.name, t.body))
      (λ p h. ((h.0, h.1.0, h.1.1, h.1.2), refl, refl))
      (λ t h. ((h.0, (h.1, h.2, h.3)), refl))

  -- the steps of a struct
  pub steps_follows : Follows top (Few 0 max_steps (CountsStepTo one_more ar)) (enc_list enc_step) (λ ts. 0 ∷ flat levels_step ts) (read_steps ar)
  unfolding read_steps
  steps_follows = list_follows top outside 0 max_steps (omega arith) (λ i. step_exact ar) (λ i t c. step_wider ar t c) λ i. step_follows
