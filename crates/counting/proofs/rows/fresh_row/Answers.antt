-- `rows::fresh_row` meets its contract, by whether a label is left.
use Rattle.std.proofs.Common.{lt-ltb, le-ltb}
use Rattle.types.specs.Limits.{max_instances}
use Rattle.counting.specs.Framed.{fresh_row}
use Rattle.counting.proofs.rows.fresh_row.Goals as goal

pub returns-then-count-lt-MAX_INSTANCES : goal.returns-then-count-lt-MAX_INSTANCES
unfolding fresh_row
returns-then-count-lt-MAX_INSTANCES c = rw (fresh_row, lt-ltb c.args.count max_instances c.if-count-lt-MAX_INSTANCES.true)

pub returns-else-count-lt-MAX_INSTANCES : goal.returns-else-count-lt-MAX_INSTANCES
unfolding fresh_row
returns-else-count-lt-MAX_INSTANCES c = rw (fresh_row, le-ltb c.args.count max_instances c.if-count-lt-MAX_INSTANCES.false)
