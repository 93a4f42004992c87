-- `lines::line` meets its contract: its five parts stand in a row.
use Rattle.std.proofs.Common.{arith}
use Rattle.text.specs.Listing.{line}
use Rattle.text.specs.ListingLaws.{placed_on}
use Rattle.text.proofs.lines.line.Goals as goal

pub returns : goal.returns
unfolding line
returns c =
    let a = rw c.from.ensures at c.column-a.ensures.placed in let b = rw c.from-2.ensures at c.column-b.ensures.placed in
    record { placed = placed_on a (placed_on b (placed_on c.column-c.ensures.placed (placed_on c.command-d.ensures.placed c.byte.ensures))); upper_bound = omega (arith, c.column-a.ensures.upper_bound, c.column-b.ensures.upper_bound, c.column-c.ensures.upper_bound, c.command-d.ensures.upper_bound, c.byte.ensures.end) }
