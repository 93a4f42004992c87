-- `lines::column` meets its contract: a space behind the number.
use Rattle.std.proofs.Common.{arith}
use Rattle.text.specs.Listing.{column}
use Rattle.text.specs.ListingLaws.{placed_on}
use Rattle.text.proofs.lines.column.Goals as goal

pub returns : goal.returns
unfolding column
returns c =
    record { placed = placed_on c.decimal-i.ensures.placed c.byte.ensures; upper_bound = omega (arith, c.decimal-i.ensures.upper_bound, c.byte.ensures.end) }
