-- `waiting::counted` meets its contract: nothing waits, or the count is written.
use Rattle.std.proofs.Common.{arith, ap, ◌∙◌, drop, get_or, ◌-◌}
use Rattle.derive.specs.Held.{held}
use Rattle.compose.specs.Writing.{wrote}
use Rattle.composing.specs.Pens.{stands}
use Rattle.composing.specs.PenLaws.{spoilt_stands, popped_stands, near_spoilt, near_popped, near_within, near_then, counted_none, counted_on}
use Rattle.composing.proofs.waiting.counted.Goals as goal

pub returns-then-h-eq0 : goal.returns-then-h-eq0
unfolding stands
returns-then-h-eq0 c =
    let args = c.args in
    let p = args.p in
    let e = c.spoilt.ensures in
    record {
      by_index = λ n. spoilt_stands args.out.now args.stack.now n p c.spoilt.result e ∙ counted_none (drop p.place args.out.now) args.stack.now
          (held n p.left) p.height p.later p.fits c.if-h-eq0.true;
      height_le_height = (omega (arith, e.1), near_within 1 0 0 (near_spoilt p c.spoilt.result e) (omega arith) (omega arith) (omega arith));
    }

pub returns : goal.returns
unfolding stands
returns c =
    let args = c.args in
    let p = args.p in
    let q = c.popped.result in
    let e = c.popped.ensures in
    record {
      by_index = λ n. c.wrote.ensures.by_index args.stack.now n ∙ ap (wrote (get_or args.stack.now (p.height - 1) 0))
          (popped_stands args.out.now args.stack.now n p q e) ∙ counted_on (drop p.place args.out.now) args.stack.now (held n p.left) p.height p.later
          p.fits c.if-h-eq0.false;
      height_le_height = (
        omega (arith, e.1, c.wrote.ensures.place_value.1.height),
        near_then 1 0 0 (near_popped p q e) c.wrote.ensures.place_value.1
            (omega arith) (omega arith) (omega arith),
      );
    }
