-- `one_line` meets its contract.
use Rattle.std.proofs.Common.{arith, sym, ◌∙◌}
use Rattle.table_stream.specs.TableStream.{one_line}
use Rattle.table_stream.proofs.one_line.Goals as goal

pub returns-then-begins : goal.returns-then-begins
unfolding one_line
returns-then-begins c = let e = sym c.begins.ensures ∙ c.if-begins.true in (rw (one_line, e), omega arith)

pub returns-else-begins : goal.returns-else-begins
unfolding one_line
returns-else-begins c = let e = sym c.begins.ensures ∙ c.if-begins.false in (rw (one_line, e), omega arith)
