-- Statements and steps are read exactly (01, 'Program stream'), at every number of levels of if.
use Prim.Native.Nat.{ℕ, zero, suc, ◌+◌, ◌≤◌}
use native.Mathlib.Omega.{arith}
use Rattle.std.specs.Prelude.{◌≡◌, List, ◌∷◌, ◌++◌, length}
use Rattle.std.proofs.Math.Path.{refl}
use Rattle.std.proofs.Common.{ap}
use Rattle.types.specs.Limits.{step_names, max_steps, max_statements, if_levels, expr_levels, first_local}
use Rattle.types.specs.Types.{code}
use Rattle.program.specs.Tree.{Expr, Stmt, Stmt.when, Stmt.declare, Stmt.update, Stmt.create, Stmts, Stmts.end, Stmts.next, size}
use Rattle.program.specs.Encoding.{enc_path, enc_expr, enc_exprs, enc_stmt, enc_stmts, enc_list, enc_step}
use Rattle.program.specs.Counts.{nest, nests, CountsStmtTo, CountsStmtsTo, CountsStmt, CountsStmts, CountsStep, Few}
use Rattle.program.specs.Reader.{Result, lookup, Kind, Kind.kind_when, Kind.kind_declare, Kind.kind_update, Kind.kind_create, Kind.kind_none}
use Rattle.program.specs.Reader.{kinds, kind, opened, read_make, read_expr, read_body, read_when, read_declare, read_update, rule_stmt}
use Rattle.program.specs.Reader.{read_stmt, read_step, read_steps}
use Rattle.program.specs.Exact.{Stands, Stands.letter, Exact, Behind, Formed, Rowed}
use Rattle.program.proofs.Laws.PartLaws.{made_ok}
use Rattle.program.proofs.Laws.JoinLaws.{exact_iff, made_exact, pair_exact, row_exact, behind, shut, formed, no_form, counted_exact, lookup_is}
use Rattle.program.proofs.Laws.JoinLaws.{Reads, opened_exact, list_exact}
use Rattle.program.proofs.Laws.WordLaws.{below_exact, type_exact, local_exact, path_exact}
use Rattle.program.proofs.Laws.ExprLaws.{make_exact, expr_exact}

-- the byte that opens a statement
abbrev pub OpensStmt : ℕ → Kind → Type 0
OpensStmt b kind_when = b ≡ 1
OpensStmt b kind_declare = b ≡ 2
OpensStmt b kind_update = b ≡ 3
OpensStmt b kind_create = b ≡ 4
OpensStmt b kind_none = Unit {0}

-- a byte is the one that opens its kind
pub opens_stmt : (b : ℕ) → OpensStmt b (kind b)
unfolding kind
opens_stmt b = lookup_is OpensStmt kinds kind_none b tt (omega arith)

module _ (ar : List ℕ) where
  -- within the counts, with at most d levels of if; a row of i such statements; the parts of an if
  abbrev pub InStmt : ℕ → Stmt → Type 0
  InStmt d t = (CountsStmt ar t) × (nest t ≤ d)

  abbrev pub InStmts : ℕ → ℕ → Stmts → Type 0
  InStmts d i b = (size b ≡ i) × (CountsStmts ar b) × (nests b ≤ d)

  -- the same, where an expression may have the given levels
  abbrev pub InStmtTo : ℕ → ℕ → Stmt → Type 0
  InStmtTo levels d t = (CountsStmtTo levels ar t) × (nest t ≤ d)

  abbrev pub InStmtsTo : ℕ → ℕ → ℕ → Stmts → Type 0
  InStmtsTo levels d i b = (size b ≡ i) × (CountsStmtsTo levels ar b) × (nests b ≤ d)

  abbrev pub InWhen : ℕ → Expr × Stmts → Type 0
  InWhen d p = InStmt d (when p.0 p.1)

  abbrev pub enc_body : Stmts → List ℕ
  enc_body b = size b ∷ enc_stmts b

  abbrev pub enc_when : Expr × Stmts → List ℕ
  enc_when p = enc_expr p.0 ++ enc_body p.1

  -- a body is a row of statements
  pub stmts_row_to : (levels d : ℕ) → Rowed end next (InStmtTo levels d) enc_stmt (InStmtsTo levels d) (λ i. enc_stmts)
  unfolding size CountsStmtsTo nests enc_stmts
  stmts_row_to levels d = record {
    nil = (refl, tt, omega arith);
    cons = λ i t b p q. (ap suc q.0, (p.0, q.1), omega arith);
    nil_only = nil_only;
    cons_only = cons_only;
    nil_bytes = refl;
    cons_bytes = λ i t b p. refl;
  }
    where
      nil_only : (b : Stmts) → InStmtsTo levels d 0 b → end ≡ b
      nil_only end h = refl
      nil_only (next t b) h = absurd (omega arith)

      cons_only : (i : ℕ) (b : Stmts) → InStmtsTo levels d (suc i) b
          → (t : Stmt) × (l : Stmts) × (InStmtTo levels d t) × (InStmtsTo levels d i l) × (next t l ≡ b)
      cons_only i end h = absurd (omega arith)
      cons_only i (next t b) h = (t, b, (h.1.0, omega arith), (omega arith, h.1.1, omega arith), refl)

  pub stmts_row : (d : ℕ) → Rowed end next (InStmt d) enc_stmt (InStmts d) (λ i. enc_stmts)
  unfolding CountsStmts
  stmts_row = stmts_row_to expr_levels

  -- a count and so many statements, where r reads each of them
  pub body_exact : (d : ℕ) {r : List ℕ → ℕ → Result Stmt} → Exact (InStmt d) enc_stmt r
      → Exact (λ b. (size b ≤ max_statements) × (CountsStmts ar b) × (nests b ≤ d)) enc_body (λ s. read_body ar s (r s))
  unfolding read_body
  body_exact d x =
      exact_iff (counted_exact 0 max_statements size (λ i b h p. p.0) (row_exact x (stmts_row d)))
      λ b. (λ h. (h.1, h.2.1, h.2.2), λ h. (omega arith, h.0, (refl, h.1, h.2)))

  -- what stands behind the byte of an if, where r reads its statements
  pub when_exact : (d : ℕ) {r : List ℕ → ℕ → Result Stmt} → Exact (InStmt d) enc_stmt r
      → Exact (InWhen (suc d)) enc_when (λ s. read_when ar s (r s))
  unfolding read_when CountsStmt nest
  when_exact d x =
      exact_iff (pair_exact (expr_exact ar expr_levels) λ e. body_exact d x)
      λ p. (λ h. ((h.0.0, h.0.1, h.1.0, h.1.1), omega arith), λ h. ((h.0.0, h.0.1), (h.0.2, h.0.3, omega arith)))

  -- the parts of the statements that hold no others
  declare_exact : Exact (λ p. CountsStmt ar (declare p.0 p.1.0 p.1.1))
      (λ p. code p.0 ∷ (first_local + p.1.0) ∷ enc_expr p.1.1) (read_declare ar)
  unfolding read_declare CountsStmt
  declare_exact =
      exact_iff (pair_exact (type_exact (length ar)) λ t. pair_exact local_exact λ x. expr_exact ar expr_levels)
      λ p. (λ h. (h.0, h.1.0, h.1.1.0, h.1.1.1), λ h. (h.0, (h.1, (h.2, h.3))))

  update_exact : Exact (λ p. CountsStmt ar (update p.0.0 p.0.1 p.1))
      (λ p. enc_path p.0.0 p.0.1 ++ enc_expr p.1) (read_update ar)
  unfolding read_update CountsStmt
  update_exact =
      exact_iff (pair_exact path_exact λ p. expr_exact ar expr_levels)
      λ p. (λ h. (h.0, h.1.0, h.1.1), λ h. (h.0, (h.1, h.2)))

  create_exact : Exact (λ p. CountsStmt ar (create p.0 p.1))
      (λ p. p.0 ∷ enc_exprs p.1) (λ s. read_make ar s (read_expr ar s expr_levels))
  unfolding CountsStmt
  create_exact =
      exact_iff (make_exact ar expr_levels _ (expr_exact ar expr_levels))
      λ p. (λ h. (h.0, h.1.0, h.1.1, h.1.2), λ h. (h.0, (h.1, h.2, h.3)))

  -- where w reads what stands behind the byte of an if, with at most d levels in all
  module _ (d : ℕ) (w : List ℕ → ℕ → ℕ → Result (Expr × Stmts)) (x : Behind (InWhen d) enc_when (λ s n. w s n (n + 1))) where
    -- each kind, behind the byte that opens it
    kind_laws : (f : Kind) → Formed (InStmt d) enc_stmt (λ b. OpensStmt b f) (λ s n. rule_stmt ar s (w s) n (n + 1) f)
    unfolding rule_stmt nest enc_stmt
    kind_laws kind_when = formed x _ (λ p h. h) λ b p o. rw o
    kind_laws kind_declare = formed (behind declare_exact) _ (λ p h. (h, omega arith)) λ b p o. rw o
    kind_laws kind_update = formed (behind update_exact) _ (λ p h. (h, omega arith)) λ b p o. rw o
    kind_laws kind_create = formed (behind create_exact) _ (λ p h. (h, omega arith)) λ b p o. rw o
    kind_laws kind_none = no_form

    -- each tree, at the byte that opens it
    complete_rule : (s : List ℕ) (t : Stmt) (n m : ℕ) → InStmt d t → Stands s n (enc_stmt t) m
        → Reads s (λ b. rule_stmt ar s (w s) n (n + 1) (kind b)) t n m
    unfolding rule_stmt enc_stmt kind lookup
    complete_rule s (when e b) n m c (letter h q v) = (1, h, q, made_ok _ (x.complete s (e, b) n m c v))
    complete_rule s (declare t y e) n m c (letter h q v) = (2, h, q, made_ok _ (declare_exact.complete s (t, (y, e)) _ m c.0 v))
    complete_rule s (update y ys e) n m c (letter h q v) = (3, h, q, made_ok _ (update_exact.complete s ((y, ys), e) _ m c.0 v))
    complete_rule s (create k es) n m c (letter h q v) = (4, h, q, made_ok _ (create_exact.complete s (k, es) _ m c.0 v))

    stmt_in : Exact (InStmt d) enc_stmt (λ s. opened s kind (rule_stmt ar s (w s)))
    stmt_in = opened_exact _ OpensStmt opens_stmt kind_laws complete_rule

  -- a statement with at most d levels of if
  pub stmt_exact : (d : ℕ) → Exact (InStmt d) enc_stmt (λ s. read_stmt ar s d)
  unfolding read_stmt nest
  stmt_exact zero = stmt_in 0 _ (shut λ p h. omega arith)
  stmt_exact (suc d) = let x = when_exact d (stmt_exact d) in stmt_in (suc d) _ (behind x)

  -- a step's name and statements
  pub step_exact : Exact (CountsStep ar) enc_step (read_step ar)
  unfolding read_step CountsStep enc_step
  step_exact =
      made_exact (pair_exact (below_exact step_names) λ n. body_exact if_levels (stmt_exact if_levels))
      (λ p. record { name = p.0; body = p.1 }) (λ t. (t.name, t.body))
      (λ p h. ((h.0, h.1.0, h.1.1, h.1.2), refl))
      (λ t h. ((h.0, (h.1, h.2, h.3)), refl))

  -- the steps of a struct
  pub steps_exact : Exact (Few 0 max_steps (CountsStep ar)) (enc_list enc_step) (read_steps ar)
  unfolding read_steps
  steps_exact = list_exact 0 max_steps λ i. step_exact
