-- `unmarked` meets its contract. The loop's invariant: what is left leads to the length of the marks. The measure is what is left of the text.
use Rattle.std.proofs.Common.{sym, ◌∙◌, arith}
use Rattle.lexer.specs.FrontSpots.{rest_spot}
use Rattle.text_place.specs.PlaceLaws.{marked_start, marked_stray, marked_inside, marked_next}
use Rattle.text_place.proofs.unmarked.Goals as goal

pub loop-n-init : goal.loop-n-init
loop-n-init c = marked_start _

pub slice_bounds-token-count : goal.slice_bounds-token-count
slice_bounds-token-count c = c.loop-n.invariant.inner

pub overflow_add-i : goal.overflow_add-i
overflow_add-i c = omega (arith, marked_inside c.loop-n.invariant (rest_spot c.args.text.now c.loop-n.i (sym c.in-Some.is ∙ c.token.ensures)))

pub overflow_add-i-in-Some : goal.overflow_add-i-in-Some
overflow_add-i-in-Some c =
    omega (arith, marked_inside c.loop-n.invariant (rest_spot c.args.text.now c.loop-n.i (sym c.in-Some.is ∙ c.token.ensures)))

pub loop-n-smaller : goal.loop-n-smaller
loop-n-smaller c = omega (arith, marked_inside c.loop-n.invariant (rest_spot c.args.text.now c.loop-n.i (sym c.in-Some.is ∙ c.token.ensures)))

pub loop-n-preserved : goal.loop-n-preserved
loop-n-preserved c = marked_next c.loop-n.invariant (rest_spot c.args.text.now c.loop-n.i (sym c.in-Some.is ∙ c.token.ensures))

pub returns : goal.returns
returns c = marked_stray c.loop-n.invariant (rest_spot c.args.text.now c.loop-n.i (sym c.in_default.is ∙ c.token.ensures))
