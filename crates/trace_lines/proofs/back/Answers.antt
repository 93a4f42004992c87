-- `back` meets its contract: its parts stand in a row.
use Rattle.std.proofs.Common.{arith}
use Rattle.text.specs.ListingLaws.{placed_on}
use Rattle.trace_lines.specs.Parts.{back_text}
use Rattle.trace_lines.proofs.back.Goals as goal

pub returns : goal.returns
unfolding back_text
returns c =
    record { placed = placed_on c.stack-a.ensures.placed (placed_on c.put-b.ensures (placed_on c.written-c.ensures.placed (placed_on c.entries-d.ensures.placed c.put.ensures))); upper_bound = omega (arith, c.stack-a.ensures.upper_bound, c.put-b.ensures.end, c.written-c.ensures.upper_bound, c.entries-d.ensures.upper_bound, c.put.ensures.end) }
