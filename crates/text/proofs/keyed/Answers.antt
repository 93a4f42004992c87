-- `text::keyed` meets its contract: the operand stands behind the word.
use Rattle.std.proofs.Common.{arith}
use Rattle.text.specs.Listing.{keyed}
use Rattle.text.specs.ListingLaws.{placed_on}
use Rattle.text.proofs.keyed.Goals as goal

pub returns : goal.returns
unfolding keyed
returns c =
    record { placed = placed_on c.put-i.ensures c.decimal.ensures.placed; upper_bound = omega (arith, c.requires, c.put-i.ensures.end, c.decimal.ensures.upper_bound) }
