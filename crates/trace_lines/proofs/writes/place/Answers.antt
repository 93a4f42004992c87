-- `writes::place` meets its contract: its parts stand in a row.
use Rattle.std.proofs.Common.{arith}
use Rattle.text.specs.ListingLaws.{placed_on}
use Rattle.trace_lines.specs.Parts.{place_text}
use Rattle.trace_lines.proofs.writes.place.Goals as goal

pub returns : goal.returns
unfolding place_text
returns c =
    record { placed = placed_on c.put-a.ensures (placed_on c.decimal-b.ensures.placed (placed_on c.put-c.ensures c.decimal.ensures.placed)); upper_bound = omega (arith, c.put-a.ensures.end, c.decimal-b.ensures.upper_bound, c.put-c.ensures.end, c.decimal.ensures.upper_bound) }
