-- `bytes::pathed` meets its contract: the path is too long, or its length is written.
use Rattle.std.proofs.Common.{arith, ap, ◌∙◌, drop}
use Rattle.derive.specs.Held.{held}
use Rattle.composing.specs.Pens.{stands}
use Rattle.compose.specs.Fits.{kept}
use Rattle.composing.specs.PenLaws.{unlengthened, spoilt_stands, near_spoilt, near_within, pathed_over, pathed_within}
use Rattle.composing.proofs.bytes.pathed.Goals as goal

pub returns-then-l-gt-MAX_LATER : goal.returns-then-l-gt-MAX_LATER
unfolding stands
returns-then-l-gt-MAX_LATER c =
    let args = c.args in
    let p = args.p in
    let e = c.spoilt.ensures in
    record {
      by_index = λ w n. ap kept (spoilt_stands args.out.now w n p c.spoilt.result e) ∙ pathed_over (drop p.place args.out.now) (held w p.height)
          (held n p.left) (drop p.place args.out.now) (held w p.height) (held n p.left) p.later p.later p.fits c.if-l-gt-MAX_LATER.true;
      near = near_within 1 0 0 (near_spoilt p c.spoilt.result e) (omega arith) (omega arith) (omega arith);
    }

pub returns : goal.returns
unfolding stands unlengthened
returns c =
    let args = c.args in
    let p = args.p in
    let q = c.wrote-q.result in
    let near = c.wrote-q.ensures.place_value.1 in
    record {
      by_index = λ w n. pathed_within (drop p.place args.out.now) (held w p.height) (held n p.left) p.later p.fits (stands c.wrote-q.new.out w n q)
          (omega (arith, c.if-l-gt-MAX_LATER.false)) (c.wrote-q.ensures.by_index w n);
      near = record { front = near.front; behind = near.behind; height = near.height; left = near.left; later = omega arith };
    }
