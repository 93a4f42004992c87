-- `text::value` meets its contract: a plain number or an Int that is not negative, and one that is.
use Rattle.text.specs.ListingLaws.{placed_as, placed_on}
use Rattle.text.specs.TextLaws.{value_plain, value_positive, value_negative}
use Rattle.text.proofs.value.Goals as goal
use Rattle.text.proofs.value.Goals.{then-typ-ne-INT-via-then-typ-ne-INT, then-typ-ne-INT-via-else-typ-ne-INT+then-v-lt-INT_HALF}

pub returns-then-typ-ne-INT-clause-placed : goal.returns-then-typ-ne-INT-clause-placed
returns-then-typ-ne-INT-clause-placed c =
    elim c.then-typ-ne-INT.branch [
      | then-typ-ne-INT-via-then-typ-ne-INT w ↦ placed_as (value_plain _ _ w.if-typ-ne-INT.true) c.decimal.ensures.placed
      | then-typ-ne-INT-via-else-typ-ne-INT+then-v-lt-INT_HALF w ↦
          placed_as (value_positive _ _ w.if-typ-ne-INT.false w.if-v-lt-INT_HALF.true) c.decimal.ensures.placed
    ]

pub returns-clause-placed : goal.returns-clause-placed
returns-clause-placed c =
    placed_as (value_negative _ _ c.if-typ-ne-INT.false c.if-v-lt-INT_HALF.false) (placed_on c.byte-i.ensures c.decimal-2.ensures.placed)
