-- 01's counts of a program are what a stream holds of it, and nesting within the levels.
use Rattle.std.specs.Prelude.{ℕ, ◌↔◌, List, [], ◌∷◌, map, length}
use Rattle.types.specs.Limits.{max_steps, expr_levels}
use Rattle.program.specs.Tree.{Stmt, Stmt.when, Stmt.declare, Stmt.update, Stmt.create, Stmts, Stmts.end, Stmts.next, Step, Program}
use Rattle.program.specs.Counts.{All, Few, CountsStmtTo, CountsStmtsTo, CountsStepTo, CountsSchedule, CountsTo, Counts}
use Rattle.meaning.specs.Holds.{HoldsStmt, HoldsStmts, HoldsStep, HoldsSchedule, Counted}
use Rattle.meaning.specs.Nesting.{ShallowStmt, ShallowStmts, ShallowStep, Shallow}

all_split : {A : Type 0} {C D E : A → Type 0} → ((a : A) → C a ↔ ((D a) × (E a))) → (l : List A) → All C l ↔ ((All D l) × (All E l))
all_split s [] = (λ c. (tt, tt), λ d. tt)
all_split s (a ∷ l) = (
  λ c. let p = (s a).0 c.0 in let q = (all_split s l).0 c.1 in ((p.0, q.0), (p.1, q.1)),
  λ d. ((s a).1 (d.0.0, d.1.0), (all_split s l).1 (d.0.1, d.1.1)),
)

module _ (ar : List ℕ) where
  mutual
    unfolding CountsStmtTo CountsStmtsTo HoldsStmt HoldsStmts ShallowStmt ShallowStmts

    stmt_split : (t : Stmt) → CountsStmtTo expr_levels ar t ↔ ((HoldsStmt ar t) × (ShallowStmt t))
    stmt_split (when e b) = (
      λ c. let q = (stmts_split b).0 c.3 in ((c.0, c.2, q.0), (c.1, q.1)),
      λ d. (d.0.0, d.1.0, d.0.1, (stmts_split b).1 (d.0.2, d.1.1)),
    )
    stmt_split (declare t x e) = (λ c. ((c.0, c.1, c.2), c.3), λ d. (d.0.0, d.0.1, d.0.2, d.1))
    stmt_split (update v vs e) = (λ c. ((c.0, c.1), c.2), λ d. (d.0.0, d.0.1, d.1))
    stmt_split (create k es) = (λ c. ((c.0, c.1, c.2), c.3), λ d. (d.0.0, d.0.1, d.0.2, d.1))

    stmts_split : (b : Stmts) → CountsStmtsTo expr_levels ar b ↔ ((HoldsStmts ar b) × (ShallowStmts b))
    stmts_split end = (λ c. (tt, tt), λ d. tt)
    stmts_split (next t b) = (
      λ c. let p = (stmt_split t).0 c.0 in let q = (stmts_split b).0 c.1 in ((p.0, q.0), (p.1, q.1)),
      λ d. ((stmt_split t).1 (d.0.0, d.1.0), (stmts_split b).1 (d.0.1, d.1.1)),
    )

  step_split : (t : Step) → CountsStepTo expr_levels ar t ↔ ((HoldsStep ar t) × (ShallowStep t))
  unfolding CountsStepTo HoldsStep ShallowStep
  step_split t = (
    λ c. let q = (stmts_split t.body).0 c.2 in ((c.0, c.1, q.0), (q.1, c.3)),
    λ d. (d.0.0, d.0.1, (stmts_split t.body).1 (d.0.2, d.1.0), d.1.1),
  )

  steps_split : (l : List Step) → Few 0 max_steps (CountsStepTo expr_levels ar) l ↔ ((Few 0 max_steps (HoldsStep ar) l) × (All ShallowStep l))
  steps_split l = (
    λ c. let q = (all_split step_split l).0 c.2 in ((c.0, c.1, q.0), q.1),
    λ d. (d.0.0, d.0.1, (all_split step_split l).1 (d.0.2, d.1)),
  )

pub counts_split : (p : Program) → Counts p ↔ ((Counted p) × (Shallow p))
unfolding CountsTo Counts CountsSchedule Counted HoldsSchedule Shallow
counts_split p = (
  λ c. let q = (all_split (steps_split (map length p.params)) p.steps).0 c.2 in ((c.0, c.1, q.0, (c.3.0, c.3.1, c.3.2)), (q.1, c.3.3)),
  λ d. (d.0.0, d.0.1, (all_split (steps_split (map length p.params)) p.steps).1 (d.0.2, d.1.0), (d.0.3.0, d.0.3.1, d.0.3.2, d.1.1)),
)
