-- `entry` meets its contract.
use Rattle.std.proofs.Common.{arith}
use Rattle.text_shape.specs.Shape.{act}
use Rattle.text_shape.specs.RoleMarks.{mark}
use Rattle.derive.specs.Table.{act_at, mark_at}
use Rattle.derive.specs.IndexLaws.{index_in, index_row}
use Rattle.derive.proofs.entry.Goals as goal

pub returns-then-k-lt-COUNT : goal.returns-then-k-lt-COUNT
unfolding act_at mark_at
returns-then-k-lt-COUNT c =
    let args = c.args in
    rw (c.from-row.ensures, c.from.ensures) (omega arith, index_in act args.q args.k c.if-k-lt-COUNT.true, index_in mark args.q args.k c.if-k-lt-COUNT.true)

pub returns-else-k-lt-COUNT : goal.returns-else-k-lt-COUNT
unfolding act_at mark_at
returns-else-k-lt-COUNT c =
    let args = c.args in
    rw c.from-row.ensures (omega arith, index_row act args.q args.k c.if-k-lt-COUNT.false, index_row mark args.q args.k c.if-k-lt-COUNT.false)
