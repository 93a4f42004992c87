-- `front` meets its contract: its parts stand in a row.
use Rattle.std.proofs.Common.{arith}
use Rattle.text.specs.ListingLaws.{placed_on}
use Rattle.trace.specs.LineText.{front_text}
use Rattle.trace_lines.proofs.front.Goals as goal

pub returns : goal.returns
unfolding front_text
returns c =
    record { placed = placed_on c.columns-a.ensures.placed (placed_on c.columns-b.ensures.placed (placed_on c.command-c.ensures.placed c.put.ensures)); upper_bound = omega (arith, c.columns-a.ensures.upper_bound, c.columns-b.ensures.upper_bound, c.command-c.ensures.upper_bound, c.put.ensures.end) }
