-- `waiting::more` meets its contract: nothing waits, the row is full, or it has one more.
use Rattle.std.proofs.Common.{arith, ap, ◌∙◌, drop}
use Rattle.derive.specs.Held.{held}
use Rattle.composing.specs.Pens.{stands}
use Rattle.compose.specs.Fits.{kept}
use Rattle.composing.specs.PenLaws.{spoilt_stands, near_same, near_spoilt, more_none, more_over, more_within}
use Rattle.composing.proofs.waiting.more.Goals as goal

pub returns-then-h-eq0 : goal.returns-then-h-eq0
unfolding stands
returns-then-h-eq0 c =
    let args = c.args in
    let p = args.p in
    let e = c.spoilt.ensures in
    record {
      by_index = λ s n. ap kept (spoilt_stands s args.stack.now n p c.spoilt.result e ∙ more_none (drop p.place s) args.stack.now (held n p.left)
          p.height p.later p.fits args.limit c.if-h-eq0.true);
      near = near_spoilt p c.spoilt.result e;
    }

pub returns-then-c-limit : goal.returns-then-c-limit
unfolding stands
returns-then-c-limit c =
    let args = c.args in
    let p = args.p in
    let e = c.spoilt-then-c-limit.ensures in
    record {
      by_index = λ s n. ap kept (spoilt_stands s args.stack.now n p c.spoilt-then-c-limit.result e) ∙ more_over (drop p.place s) args.stack.now
          (held n p.left) p.height p.later p.fits c.if-h-eq0.false args.limit c.if-c-limit.true;
      near = near_spoilt p c.spoilt-then-c-limit.result e;
    }

pub returns : goal.returns
unfolding stands
returns c =
    let args = c.args in
    let p = args.p in
    record {
      by_index = λ s n. ap kept (more_within (drop p.place s) args.stack.now (held n p.left) p.height p.later p.fits c.if-h-eq0.false args.limit
          (omega arith) c.if-c-limit.false);
      near = near_same p;
    }
