-- `text::decimal` meets its contract: 20 digits are enough.
use Rattle.text.specs.Listing.{decimal}
use Rattle.text.proofs.decimal.Goals as goal

pub returns : goal.returns
unfolding decimal
returns c = record { placed = c.digits.ensures.placed; upper_bound = c.digits.ensures.upper_bound }
