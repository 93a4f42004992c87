-- `word` meets its contract: a struct is a byte, a value a number of four.
use Rattle.std.proofs.Common.{arith}
use Rattle.program.specs.Encoding.{enc_word}
use Rattle.table_stream.specs.TableStream.{word_bytes}
use Rattle.table_stream.proofs.word.Goals as goal

pub returns-then-structure : goal.returns-then-structure
unfolding word_bytes
returns-then-structure c =
    let e = c.if-structure.true in
    record { value = (rw e, rw e c.put.ensures); upper_bound = omega arith }

pub returns-else-structure : goal.returns-else-structure
unfolding word_bytes enc_word
returns-else-structure c =
    let e = c.if-structure.false in
    record { value = (rw e, rw (e, ← c.value_number.ensures) c.put_word.ensures); upper_bound = omega arith }
