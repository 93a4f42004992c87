-- `interpreter::moving::settle` meets its contract. The loop's invariant: memory is where the moves have led, whichever machine it held.
-- The measure is the moves that are left.
use Rattle.std.proofs.Common.{◌≡◌, refl, ap, not, rules, arith}
use Rattle.interpreter.specs.Laws.DueLaws.{none_due, some_due}
use Rattle.interpreter.specs.Laws.SettleWays.{led_none, led_held, led_ended, led_within, led_movable, led_less, led_more}
use Rattle.interpreter.proofs.moving.settle.Goals as goal

pub loop-place-init : goal.loop-place-init
loop-place-init c = (refl, led_none)

pub offset_bounds-items-place : goal.offset_bounds-items-place
offset_bounds-items-place c = omega (arith, led_within c.loop-place.invariant.1 c.requires)

pub bounds-items-place : goal.bounds-items-place
bounds-items-place c = led_within c.loop-place.invariant.1 c.requires

pub returns-then-items-place-eq-END : goal.returns-then-items-place-eq-END
returns-then-items-place-eq-END c =
    let nobody' : c.loop-place.next.numbers.holding ≡ 0 = none_due c.loop-place.next.numbers _ c.due.ensures (ap not c.loop-place-test.true) in
    led_ended c.loop-place.invariant.1 nobody' c.if-items-place-eq-END.true

pub advance-next-requires : goal.advance-next-requires
advance-next-requires c = led_movable c.loop-place.invariant.1 c.requires c.if-items-place-eq-END.false

pub loop-place-smaller : goal.loop-place-smaller
loop-place-smaller c = led_less c.loop-place.invariant.1 c.requires c.if-items-place-eq-END.false c.advance-next.ensures

pub loop-place-preserved : goal.loop-place-preserved
loop-place-preserved c =
    let nobody' : c.loop-place.next.numbers.holding ≡ 0 = none_due c.loop-place.next.numbers _ c.due.ensures (ap not c.loop-place-test.true) in
    (search rules, led_more c.loop-place.invariant.1 c.requires c.if-items-place-eq-END.false c.advance-next.ensures nobody')

pub returns : goal.returns
returns c =
    led_held c.loop-place.invariant.1 (some_due c.loop-place.next.numbers _ c.due.ensures (ap not c.loop-place-test.false))
