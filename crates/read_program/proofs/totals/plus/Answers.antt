-- `totals::plus` meets its contract.
use Rattle.std.proofs.Common.{add-one}
use Rattle.read_program.specs.Total.{plus}
use Rattle.read_program.proofs.totals.plus.Goals as goal

pub returns : goal.returns
unfolding plus
returns c =
    simp (
      plus,
      add-one,
      c.worst.ensures,
      c.over.ensures,
      c.max.ensures,
      c.worst-own.ensures,
      c.named.ensures,
    )
