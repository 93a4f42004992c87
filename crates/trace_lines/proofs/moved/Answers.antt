-- `moved` meets its contract: its parts stand in a row.
use Rattle.std.proofs.Common.{arith}
use Rattle.text.specs.ListingLaws.{placed_on}
use Rattle.trace_lines.specs.Parts.{move_text}
use Rattle.trace_lines.proofs.moved.Goals as goal

pub returns : goal.returns
unfolding move_text
returns c =
    record { placed = placed_on c.put-a.ensures (placed_on c.entries-b.ensures.placed c.put.ensures); upper_bound = omega (arith, c.put-a.ensures.end, c.entries-b.ensures.upper_bound, c.put.ensures.end) }
