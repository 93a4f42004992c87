-- `apply_bool` meets its contract, one way for each operator that takes truths.
use Rattle.std.proofs.Common.{ap, ◌∙◌}
use Rattle.operators.specs.Apply.{on_truths, apply}
use Rattle.operators.specs.Named.{meant}
use Rattle.operators.specs.Words.{answered}
use Rattle.operators.proofs.Laws.WordLaws.{truths_equal, truths_and, truths_or}
use Rattle.operators.proofs.Laws.OperatorLaws.{truths_unfit}
use Rattle.arithmetic.specs.Answered.{telling}
use Rattle.arithmetic.proofs.apply_bool.Goals as goal
use Rattle.arithmetic.proofs.apply_bool.Goals.{in-Eq, in-Ne, in-And, in-Or, in_default}

pub returns : goal.returns
unfolding apply on_truths meant telling
returns c =
    let s = c.args in
    elim c.match-op.branch [
      | in-Eq w ↦ c.truth.ensures ∙ rw (w.truth-is, w.in-Eq.is, truths_equal s.s s.t)
      | in-Ne w ↦ c.truth.ensures ∙ rw (w.truth-is, w.in-Ne.is, truths_equal s.s s.t)
      | in-And w ↦ c.truth.ensures ∙ rw (w.truth-is, w.in-And.is) (truths_and s.s s.t)
      | in-Or w ↦ c.truth.ensures ∙ rw (w.truth-is, w.in-Or.is) (truths_or s.s s.t)
      | in_default w ↦
          c.truth.ensures
          ∙ rw w.truth-is (ap answered (truths_unfit s.s s.t s.op w.in_default.not-Eq w.in_default.not-Ne w.in_default.not-And w.in_default.not-Or))
    ]
