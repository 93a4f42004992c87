-- `text::digits` meets its contract: no digit, one, or those of a tenth and the last. The measure is how many may be written.
use Rattle.std.proofs.Common.{arith, ◌∙◌}
use Rattle.text.specs.ListingLaws.{digits_none, digits_one, digits_more, placed_none, placed_as, placed_on}
use Rattle.text.proofs.+digits.Goals as goal

pub returns-then-w-eq0 : goal.returns-then-w-eq0
returns-then-w-eq0 t c =
    record { placed = placed_as (digits_none _ _ c.if-w-eq0.true) (placed_none _ _); upper_bound = omega arith }

pub digit-requires : goal.digit-requires
digit-requires t c = (omega (arith, c.requires, c.if-w-eq0.false), c.if-n-lt10.true)

pub shape_of-out-then-n-lt10 : goal.shape_of-out-then-n-lt10
shape_of-out-then-n-lt10 t c = c.digit.auto.out

pub returns-then-n-lt10 : goal.returns-then-n-lt10
returns-then-n-lt10 t c =
    record { placed = placed_as (digits_one _ _ c.if-w-eq0.false c.if-n-lt10.true) c.digit.ensures; upper_bound = omega (arith, c.digit.ensures.end, c.if-w-eq0.false) }

pub overflow_sub-w : goal.overflow_sub-w
overflow_sub-w t c = omega (arith, c.if-w-eq0.false)

pub digits-i-requires : goal.digits-i-requires
digits-i-requires t c = (
  omega (arith, c.requires, c.if-w-eq0.false),
  omega (arith, c.requires, c.if-w-eq0.false),
)

pub digit-requires-2 : goal.digit-requires-2
digit-requires-2 t c =
    (omega (arith, c.requires, c.if-w-eq0.false, c.digits-i.auto.out, c.digits-i.ensures.upper_bound), omega arith)

pub shape_of-out : goal.shape_of-out
shape_of-out t c = c.digit-2.auto.out ∙ c.digits-i.auto.out

pub returns : goal.returns
returns t c =
    record { placed = placed_as (digits_more _ _ c.if-w-eq0.false c.if-n-lt10.false) (placed_on c.digits-i.ensures.placed c.digit-2.ensures); upper_bound = omega (arith, c.digits-i.ensures.upper_bound, c.digit-2.ensures.end, c.if-w-eq0.false) }
