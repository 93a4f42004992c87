-- `columns` meets its contract: its three columns stand in a row.
use Rattle.std.proofs.Common.{arith}
use Rattle.text.specs.ListingLaws.{placed_on}
use Rattle.trace.specs.LineText.{columns}
use Rattle.trace_lines.proofs.columns.Goals as goal

pub returns : goal.returns
unfolding columns
returns c =
    record { placed = placed_on c.column-i.ensures.placed (placed_on c.column-j.ensures.placed c.column.ensures.placed); upper_bound = omega (arith, c.column-i.ensures.upper_bound, c.column-j.ensures.upper_bound, c.column.ensures.upper_bound) }
