-- `totals::noted` meets its contract: the struct's own rows are searched, and one is written behind all.
use Rattle.std.proofs.Common.{ap, not}
use Rattle.read_program.specs.TotalWays.{row_noted}
use Rattle.read_program.proofs.totals.noted.Goals as goal

pub returns : goal.returns
returns c =
    record { value = ap not c.listed-old.ensures; rows_after = row_noted _ _ _ _ _ _ _ _ _ c.from.ensures c.from-2.ensures c.put_row.ensures }
