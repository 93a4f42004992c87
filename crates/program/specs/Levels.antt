-- The level at which each byte of a program stands (01, 'Program stream': "an expression 16 (a literal alone is 1)"): an expression that
-- stands in no other has its own bytes at level 1, the expressions inside it stand one level deeper, and what is no expression stands at 0.
use Rattle.std.specs.Prelude.{ℕ, suc, List, [], ◌∷◌, ◌++◌, map}
use Rattle.program.specs.Tree.{Expr, Expr.inv, Expr.make, Expr.path, Expr.int_lit, Expr.nat_lit, Expr.bool_lit, Expr.null, Expr.self, Expr.op}
use Rattle.program.specs.Tree.{Exprs, Exprs.none, Exprs.more, Stmt, Stmt.when, Stmt.declare, Stmt.update, Stmt.create, Stmts, Stmts.end}
use Rattle.program.specs.Tree.{Stmts.next, Step, Program, items}
use Rattle.types.specs.Types.{code}
use Rattle.program.specs.Encoding.{flat, enc_list, enc_path, enc_expr, enc_items}

-- bytes that stand at one level
abbrev pub all_at : ℕ → List ℕ → List ℕ
all_at d bytes = map (λ b. d) bytes

unfoldable mutual
  pub levels_expr : Expr → ℕ → List ℕ
  levels_expr (inv e) d = d ∷ levels_expr e (suc d)
  levels_expr (make k es) d = d ∷ d ∷ levels_exprs es (suc d)
  levels_expr (path v vs) d = all_at d (enc_expr (path v vs))
  levels_expr (int_lit w) d = all_at d (enc_expr (int_lit w))
  levels_expr (nat_lit w) d = all_at d (enc_expr (nat_lit w))
  levels_expr (bool_lit w) d = all_at d (enc_expr (bool_lit w))
  levels_expr (null t) d = all_at d (enc_expr (null t))
  levels_expr self d = all_at d (enc_expr self)
  levels_expr (op o a b) d = d ∷ levels_expr a (suc d) ++ levels_expr b (suc d)

  pub levels_exprs : Exprs → ℕ → List ℕ
  levels_exprs none d = []
  levels_exprs (more e es) d = levels_expr e d ++ levels_exprs es d

unfoldable mutual
  pub levels_stmt : Stmt → List ℕ
  levels_stmt (when e b) = 0 ∷ levels_expr e 1 ++ 0 ∷ levels_stmts b
  levels_stmt (declare t x e) = 0 ∷ 0 ∷ 0 ∷ levels_expr e 1
  levels_stmt (update v vs e) = 0 ∷ all_at 0 (enc_path v vs) ++ levels_expr e 1
  levels_stmt (create k es) = 0 ∷ 0 ∷ levels_exprs es 1

  pub levels_stmts : Stmts → List ℕ
  levels_stmts end = []
  levels_stmts (next t b) = levels_stmt t ++ levels_stmts b

unfoldable pub levels_step : Step → List ℕ
levels_step t = 0 ∷ 0 ∷ levels_stmts t.body

unfoldable pub levels_program : Program → List ℕ
levels_program p =
    all_at 0 (enc_list (enc_list (λ t. code t ∷ [])) p.params)
    ++ flat (λ ts. 0 ∷ flat levels_step ts) p.steps
    ++ all_at 0 (items p.schedule ∷ enc_items p.schedule)
