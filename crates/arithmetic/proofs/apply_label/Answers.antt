-- `apply_label` meets its contract: only = and ≠ take labels.
use Rattle.std.proofs.Common.{ap, ◌∙◌}
use Rattle.operators.specs.Apply.{on_labels, apply}
use Rattle.operators.specs.Named.{meant}
use Rattle.operators.specs.Words.{answered}
use Rattle.operators.proofs.Laws.OperatorLaws.{labels_unfit}
use Rattle.arithmetic.specs.Answered.{telling}
use Rattle.arithmetic.proofs.apply_label.Goals as goal
use Rattle.arithmetic.proofs.apply_label.Goals.{in-Eq, in-Ne, in_default}

pub returns : goal.returns
unfolding apply on_labels meant telling
returns c =
    let s = c.args in
    elim c.match-op.branch [
      | in-Eq w ↦ c.truth.ensures ∙ rw (w.truth-is, w.in-Eq.is)
      | in-Ne w ↦ c.truth.ensures ∙ rw (w.truth-is, w.in-Ne.is)
      | in_default w ↦ c.truth.ensures ∙ rw w.truth-is (ap answered (labels_unfit s.a s.b s.op w.in_default.not-Eq w.in_default.not-Ne))
    ]
