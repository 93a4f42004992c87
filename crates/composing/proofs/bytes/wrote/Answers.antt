-- `bytes::wrote` meets its contract: the byte stands in front of what was there.
use Rattle.std.proofs.Common.{arith, ap}
use Rattle.derive.specs.Held.{held}
use Rattle.compose.specs.Writing.{Writing.writing, wrote}
use Rattle.composing.specs.Pens.{stands}
use Rattle.composing.specs.PenLaws.{drop_front}
use Rattle.composing.proofs.bytes.wrote.Goals as goal

pub returns : goal.returns
unfolding stands wrote
returns c =
    let args = c.args in
    let p = args.p in
    record {
      by_index = λ w n. ap (λ s. writing s (held w p.height) (held n p.left) p.later p.fits)
          (drop_front args.out.now p.place args.b (omega arith) (omega arith));
      place_value = (omega arith, record { front = omega arith; behind = omega arith; height = omega arith; left = omega arith; later = omega arith });
    }
