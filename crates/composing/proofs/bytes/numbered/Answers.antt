-- `bytes::numbered` meets its contract: no number is left, or the last one is written.
use Rattle.std.proofs.Common.{arith, refl, ◌∙◌, drop}
use Rattle.derive.specs.Held.{held}
use Rattle.composing.specs.Pens.{stands}
use Rattle.composing.specs.PenLaws.{spoilt_stands, near_spoilt, near_within, numbered_none, numbered_some}
use Rattle.composing.proofs.bytes.numbered.Goals as goal

pub returns-then-n-eq0 : goal.returns-then-n-eq0
unfolding stands
returns-then-n-eq0 c =
    let args = c.args in
    let p = args.p in
    let e = c.spoilt.ensures in
    record {
      by_index = λ w. spoilt_stands args.out.now w args.numbers.now p c.spoilt.result e ∙ numbered_none (drop p.place args.out.now) (held w p.height)
          args.numbers.now p.left p.later p.fits c.if-n-eq0.true;
      later_value = (e.3, near_within 1 0 0 (near_spoilt p c.spoilt.result e) (omega arith) (omega arith) (omega arith));
    }

pub returns : goal.returns
unfolding stands
returns c =
    let args = c.args in
    let p = args.p in
    record {
      by_index = λ w. numbered_some args.out.now (held w p.height) args.numbers.now p.place p.left p.later p.fits (omega arith) (omega arith)
          c.if-n-eq0.false;
      later_value = (refl, record { front = omega arith; behind = omega arith; height = omega arith; left = omega arith; later = omega arith });
    }
