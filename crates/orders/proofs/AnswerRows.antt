-- What is answered of the exhibits' steps (02 §11), by computation.
use Rattle.std.specs.Prelude.{ℕ, ◌≡◌, refl, List, [], ◌∷◌}
use Rattle.program.specs.Tree.{Var.par, Expr.path, Expr.int_lit, Exprs.none, Exprs.more, Stmt.update, Stmt.create, Stmts.end, Stmts.next, Program}
use Rattle.commands.specs.Decide.{member}
use Rattle.commands.specs.Decide.NamesDecide.{stepped}
use Rattle.commands.specs.Names.{names_of_steps}
use Rattle.table.specs.Table.{Record}
use Rattle.machine.specs.Measure.{total, codes}
use Rattle.run.specs.Holders.{none_of, due}
use Rattle.run.proofs.Rows.RowsOpen.{running}
use Rattle.orders.specs.Following.{top_deed, write_deed, code_deed, deed_at}
use Rattle.orders.specs.Marks.{read_at, write_at, marked, placed, note}
use Rattle.orders.specs.ZeroTurns.{Answer.apart, Answer.together, turned, unless_due, follow}
use Rattle.orders.specs.StepAnswer.{step_machine, conses, constructing, StepAnswer, StepAnswer.no_step, StepAnswer.constructs, StepAnswer.followed}
use Rattle.orders.specs.StepAnswer.{begun_answer, had_answer, step_answer}
use Rattle.orders.proofs.Exhibits.{P, Q, two}

-- the answer with every definition open that it computes through
unfoldable pub answering : Program → List Record → ℕ → StepAnswer
unfolding member stepped names_of_steps total codes none_of due top_deed write_deed code_deed deed_at read_at write_at marked placed note turned unless_due
    follow step_machine conses constructing begun_answer had_answer step_answer
answering p rs n = step_answer p rs n

-- P on records that refer to null
pub P-apart : answering P (two 5 0 7 0) 0 ≡ followed (apart 24)
unfolding running answering
P-apart = refl

-- P on records that refer to each other: after 22 turns instance 1 would write its load, which instance 2 has read
pub P-together : answering P (two 5 2 7 1) 0 ≡ followed (together 22 1 2 1 0)
unfolding running answering
P-together = refl

-- two equal writes: after 11 turns instance 2 would write the load of instance 1, which instance 1 has written
pub Q-together : answering Q (two 5 1 5 1) 0 ≡ followed (together 11 2 1 1 0)
unfolding running answering
Q-together = refl

-- load := 5; load := prev.load, and a step that constructs, with the same parameters as P
abbrev pub R : Program
R = record {
  params = P.params;
  steps =
      (record { name = 0; body = next (update (par 0) [] (int_lit 5)) (next (update (par 0) [] (path (par 1) (0 ∷ []))) end) }
      ∷ record { name = 1; body = next (create 0 (more (int_lit 5) (more (path (par 1) []) none))) end } ∷ [])
      ∷ [];
  schedule = P.schedule;
}

-- after 16 turns instance 1 would read the load of instance 2, which instance 2 has written
pub R-together : answering R (two 5 2 7 1) 0 ≡ followed (together 16 1 2 2 0)
unfolding running answering
R-together = refl

pub R-constructs : answering R (two 5 2 7 1) 1 ≡ constructs
unfolding running answering
R-constructs = refl

-- writes that are dropped on a null instance
pub Q-apart : answering Q (two 5 0 7 0) 0 ≡ followed (apart 12)
unfolding running answering
Q-apart = refl

-- no struct has step 1
pub P-none : answering P (two 5 0 7 0) 1 ≡ no_step
unfolding running answering
P-none = refl
