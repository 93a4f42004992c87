-- `index` meets its contract.
use Rattle.std.proofs.Common.{arith}
use Rattle.derive.specs.IndexLaws.{act_out, mark_out}
use Rattle.derive.proofs.index.Goals as goal

pub returns-else-q-lt-COUNT : goal.returns-else-q-lt-COUNT
returns-else-q-lt-COUNT c =
    let args = c.args in (omega arith, act_out args.q args.k c.if-q-lt-COUNT.false, mark_out args.q args.k c.if-q-lt-COUNT.false)
