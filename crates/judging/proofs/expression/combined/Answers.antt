-- `expression::combined` meets its contract.
use Rattle.std.proofs.Common.{add-one}
use Rattle.judge.specs.Facts.{combined}
use Rattle.judging.specs.CodeOps.{sort_form}
use Rattle.judging.proofs.expression.combined.Goals as goal

pub returns : goal.returns
unfolding combined
returns c =
    λ o e. simp (
      combined,
      c.gives.ensures,
      c.demand.ensures,
      c.worst.ensures,
      c.max.ensures,
      c.takes-right.ensures,
      sort_form _ o e,
      add-one,
    )
