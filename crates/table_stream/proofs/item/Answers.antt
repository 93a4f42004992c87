-- `item` meets its contract.
use Rattle.std.proofs.Common.{arith, sym, ◌∙◌}
use Rattle.table_stream.specs.TableStream.{item_bytes}
use Rattle.table_stream.proofs.item.Goals as goal

pub returns-then-begins : goal.returns-then-begins
unfolding item_bytes
returns-then-begins c =
    let e = sym c.begins.ensures ∙ c.if-begins.true in record { value = (rw (item_bytes, e) (omega arith), rw (item_bytes, e)); upper_bound = omega arith }

pub returns-else-begins : goal.returns-else-begins
unfolding item_bytes
returns-else-begins c =
    let e = sym c.begins.ensures ∙ c.if-begins.false in
    record { value = rw (item_bytes, e) c.word.ensures.value; upper_bound = c.word.ensures.upper_bound }
