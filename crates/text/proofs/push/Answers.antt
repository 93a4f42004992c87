-- `text::push` meets its contract: its four parts stand in a row.
use Rattle.std.proofs.Common.{arith}
use Rattle.text.specs.Listing.{push_text}
use Rattle.text.specs.ListingLaws.{placed_on}
use Rattle.text.proofs.push.Goals as goal

pub returns : goal.returns
unfolding push_text
returns c =
    record { placed = placed_on c.put-a.ensures (placed_on c.decimal-b.ensures.placed (placed_on c.byte-c.ensures c.value.ensures.placed)); upper_bound = omega (arith, c.put-a.ensures.end, c.decimal-b.ensures.upper_bound, c.byte-c.ensures.end, c.value.ensures.upper_bound) }
