-- `parts::cell` meets its contract: a blank, the type, a colon and the value.
use Rattle.std.proofs.Common.{arith}
use Rattle.text.specs.ListingLaws.{placed_on}
use Rattle.trace_lines.specs.Parts.{cell_text}
use Rattle.trace_lines.proofs.parts.cell.Goals as goal

pub returns : goal.returns
unfolding cell_text
returns c =
    record { placed = placed_on c.put-a.ensures (rw c.tag.ensures at (placed_on c.decimal-b.ensures.placed (placed_on c.put-d.ensures c.worth.ensures.placed))); upper_bound = omega (arith, c.put-a.ensures.end, c.decimal-b.ensures.upper_bound, c.put-d.ensures.end, c.worth.ensures.upper_bound) }
