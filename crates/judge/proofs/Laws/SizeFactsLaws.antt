-- Sizes and heights that are computed beside names and types are those of the trees (01, number 6).
use Rattle.std.specs.Prelude.{ℕ, suc, List, ◌≡◌, refl}
use Rattle.std.proofs.Common.{ap}
use Rattle.program.specs.Tree.{Expr, Expr.inv, Expr.make, Expr.path, Expr.int_lit, Expr.nat_lit, Expr.bool_lit, Expr.null, Expr.self, Expr.op, Exprs}
use Rattle.program.specs.Tree.{Exprs.none, Exprs.more, Stmt, Stmt.when, Stmt.declare, Stmt.update, Stmt.create, Stmts, Stmts.end, Stmts.next}
use Rattle.commands.specs.Sizes.{expr_size, args_size, stmt_size, body_size}
use Rattle.commands.specs.Depth.{peak, peaks, stmt_growth, growth, stmt_height, height}
use Rattle.judge.specs.Facts.{negated, combined, travelled, argued, constructed, expr_facts, args_facts, branched, declared, updated, created}
use Rattle.judge.specs.Facts.{followed, stmt_facts, body_facts}
use Rattle.judge.specs.declared.Scope.{Scope}

-- Expressions ----------------------------------------------------------------------

module _ (ar types : List ℕ) (own w : ℕ) where
  mutual
    unfolding expr_facts args_facts expr_size args_size negated combined travelled argued constructed

    -- the commands are counted as on the tree
    pub expr_facts_size : (e : Expr) → (expr_facts ar types own w e).size ≡ expr_size e
    expr_facts_size (inv e) = ap suc (expr_facts_size e)
    expr_facts_size (make k es) = ap suc (args_facts_size es k 0)
    expr_facts_size (path v vs) = refl
    expr_facts_size (int_lit n) = refl
    expr_facts_size (nat_lit n) = refl
    expr_facts_size (bool_lit n) = refl
    expr_facts_size (null t) = refl
    expr_facts_size self = refl
    expr_facts_size (op o a b) = rw (expr_facts_size a, expr_facts_size b)

    pub args_facts_size : (es : Exprs) (k x : ℕ) → (args_facts ar types own w es k x).size ≡ args_size es
    args_facts_size none k x = refl
    args_facts_size (more e es) k x = rw (expr_facts_size e, args_facts_size es k (suc x))

  mutual
    unfolding expr_facts args_facts peak peaks negated combined travelled argued constructed

    -- the stack is as high as on the tree
    pub expr_facts_peak : (e : Expr) → (expr_facts ar types own w e).peak ≡ peak e
    expr_facts_peak (inv e) = expr_facts_peak e
    expr_facts_peak (make k es) = rw (args_facts_peak es k 0)
    expr_facts_peak (path v vs) = refl
    expr_facts_peak (int_lit n) = refl
    expr_facts_peak (nat_lit n) = refl
    expr_facts_peak (bool_lit n) = refl
    expr_facts_peak (null t) = refl
    expr_facts_peak self = refl
    expr_facts_peak (op o a b) = rw (expr_facts_peak a, expr_facts_peak b)

    pub args_facts_peak : (es : Exprs) (k x : ℕ) → (args_facts ar types own w es k x).peak ≡ peaks es
    args_facts_peak none k x = refl
    args_facts_peak (more e es) k x = rw (expr_facts_peak e, args_facts_peak es k (suc x))

-- Statements -----------------------------------------------------------------------

module _ (ar types : List ℕ) (own : ℕ) where
  mutual
    unfolding stmt_facts body_facts stmt_size body_size branched declared updated created followed

    -- statements, from any scope
    pub stmt_facts_size : (s : Stmt) (c : Scope) → (stmt_facts ar types own s c).size ≡ stmt_size s
    stmt_facts_size (when e b) c = rw (expr_facts_size ar types own c.live e, body_facts_size b c)
    stmt_facts_size (declare t x e) c = rw (expr_facts_size ar types own c.live e)
    stmt_facts_size (update v vs e) c = rw (expr_facts_size ar types own c.live e)
    stmt_facts_size (create k es) c = rw (args_facts_size ar types own c.live es k 0)

    pub body_facts_size : (b : Stmts) (c : Scope) → (body_facts ar types own b c).size ≡ body_size b
    body_facts_size end c = refl
    body_facts_size (next s b) c = rw (stmt_facts_size s c, body_facts_size b (stmt_facts ar types own s c).after)

  mutual
    unfolding stmt_facts body_facts growth branched declared updated created followed

    -- the labels that they leave
    pub stmt_facts_growth : (s : Stmt) (c : Scope) → (stmt_facts ar types own s c).growth ≡ stmt_growth s
    stmt_facts_growth (when e b) c = body_facts_growth b c
    stmt_facts_growth (declare t x e) c = refl
    stmt_facts_growth (update v vs e) c = refl
    stmt_facts_growth (create k es) c = refl

    pub body_facts_growth : (b : Stmts) (c : Scope) → (body_facts ar types own b c).growth ≡ growth b
    body_facts_growth end c = refl
    body_facts_growth (next s b) c = rw (stmt_facts_growth s c, body_facts_growth b (stmt_facts ar types own s c).after)

  mutual
    unfolding stmt_facts body_facts height branched declared updated created followed

    -- and the greatest height
    pub stmt_facts_height : (s : Stmt) (c : Scope) → (stmt_facts ar types own s c).height ≡ stmt_height s
    stmt_facts_height (when e b) c = rw (expr_facts_peak ar types own c.live e, body_facts_height b c)
    stmt_facts_height (declare t x e) c = rw (expr_facts_peak ar types own c.live e)
    stmt_facts_height (update v vs e) c = rw (expr_facts_peak ar types own c.live e)
    stmt_facts_height (create k es) c = rw (args_facts_peak ar types own c.live es k 0)

    pub body_facts_height : (b : Stmts) (c : Scope) → (body_facts ar types own b c).height ≡ height b
    body_facts_height end c = refl
    body_facts_height (next s b) c =
        rw (stmt_facts_height s c, stmt_facts_growth s c, body_facts_height b (stmt_facts ar types own s c).after)
