-- `bytes::worded` meets its contract: four bytes, the last one first.
use Rattle.std.proofs.Common.{arith, drop}
use Rattle.derive.specs.Held.{held}
use Rattle.composing.specs.Pens.{stands}
use Rattle.composing.specs.PenLaws.{near_then, worded_by}
use Rattle.composing.proofs.bytes.worded.Goals as goal

pub returns : goal.returns
unfolding stands
returns c =
    let args = c.args in
    let p = args.p in
    let near-2 = near_then 2 0 0 c.wrote-a.ensures.place_value.1 c.wrote-b.ensures.place_value.1 (omega arith) (omega arith) (omega arith) in
    let near-3 = near_then 3 0 0 near-2 c.wrote-c.ensures.place_value.1 (omega arith) (omega arith) (omega arith) in
    record {
      by_index = λ w n. worded_by args.v c.low.result c.low-2.result c.low-3.result c.low-4.result (drop p.place args.out.now) (held w p.height)
          (held n p.left) p.later p.fits (stands c.wrote-a.new.out w n c.wrote-a.result) (stands c.wrote-b.new.out w n c.wrote-b.result)
          (stands c.wrote-c.new.out w n c.wrote-c.result) (stands c.wrote.new.out w n c.wrote.result) c.low.ensures c.low-2.ensures c.low-3.ensures
          c.low-4.ensures (c.wrote-a.ensures.by_index w n) (c.wrote-b.ensures.by_index w n) (c.wrote-c.ensures.by_index w n)
          (c.wrote.ensures.by_index w n);
      near = near_then 4 0 0 near-3 c.wrote.ensures.place_value.1 (omega arith) (omega arith) (omega arith);
    }
