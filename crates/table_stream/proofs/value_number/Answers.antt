-- `value_number` meets its contract.
use Rattle.std.proofs.Common.{lt-ltb, le-ltb}
use Rattle.table_stream.specs.TableStream.{value_number}
use Rattle.table_stream.proofs.value_number.Goals as goal

pub returns-then-w-lt-MINUS : goal.returns-then-w-lt-MINUS
unfolding value_number
returns-then-w-lt-MINUS c = rw (value_number, lt-ltb _ 4294967296 c.if-w-lt-MINUS.true)

pub returns-else-w-lt-MINUS : goal.returns-else-w-lt-MINUS
unfolding value_number
returns-else-w-lt-MINUS c = rw (value_number, le-ltb _ 4294967296 c.if-w-lt-MINUS.false)
