-- `stuck` meets its contract. The loop's invariant: what is left leads to the first token with which no derivation goes on.
use Rattle.std.proofs.Common.{◌≡◌, length, arith, ◌∙◌}
use Rattle.text_place.specs.PlaceLaws.{goes_start, goes_end, goes_past, goes_dead, goes_on}
use Rattle.text_place.proofs.stuck.Goals as goal
use Rattle.text_place.proofs.stuck.Goals.{then-k-ne-NONE+else-m-eq-DEAD, else-k-ne-NONE}

pub loop-i-init : goal.loop-i-init
loop-i-init c = goes_start c.args.kinds.now c.args.stack.now c.requires

pub returns-then-m-eq-DEAD : goal.returns-then-m-eq-DEAD
returns-then-m-eq-DEAD c = goes_dead c.loop-i.invariant c.loop-i-test.true c.if-k-ne-NONE.true c.step-m.ensures.kept c.if-m-eq-DEAD.true

pub loop-i-preserved : goal.loop-i-preserved
loop-i-preserved c =
    let inv = c.loop-i.invariant in
    let less = c.loop-i-test.true in
    elim c.if-k-ne-NONE.branch [
      | then-k-ne-NONE+else-m-eq-DEAD w ↦ rw (w.stack-is, w.m-is) (goes_on inv less w.if-k-ne-NONE.true w.step-m.ensures.kept w.if-m-eq-DEAD.false
          w.step-m.ensures.height_bound.0 w.step-m.ensures.height_bound.1)
      | else-k-ne-NONE w ↦ rw (w.stack-is, w.m-is) (goes_past inv less w.if-k-ne-NONE.false)
    ]

pub returns : goal.returns
returns c =
    let inv = c.loop-i.invariant in
    let end : length c.args.kinds.now ≡ c.loop-i.i = omega (arith, inv.inner, c.loop-i-test.false) in end ∙ goes_end inv c.loop-i-test.false
