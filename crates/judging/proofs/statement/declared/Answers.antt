-- `statement::declared` meets its contract.
use Rattle.std.proofs.Common.{add-one}
use Rattle.std.proofs.Math.Numerals.{add-two}
use Rattle.judge.specs.Facts.{declared}
use Rattle.judging.proofs.statement.declared.Goals as goal

pub returns : goal.returns
unfolding declared
returns c =
    simp (
      declared,
      add-two,
      c.worst.ensures,
      c.named.ensures,
      c.max.ensures,
      c.mark.ensures,
      c.mark-2.ensures,
      c.digit-new.ensures,
      c.demand-first.ensures,
      add-one,
    )
