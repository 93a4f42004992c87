-- `bytes::lengthened` meets its contract.
use Rattle.std.proofs.Common.{arith, add-one, refl, ap, drop}
use Rattle.derive.specs.Held.{held}
use Rattle.compose.specs.Writing.{Writing.writing, lengthened}
use Rattle.composing.specs.Pens.{stands}
use Rattle.composing.proofs.bytes.lengthened.Goals as goal

pub returns : goal.returns
unfolding stands lengthened
returns c =
    let p = c.args.p in
    record {
      by_index = λ s w n. ap (λ l. writing (drop p.place s) (held w p.height) (held n p.left) l p.fits) (add-one p.later);
      place_value = (refl, record { front = omega arith; behind = omega arith; height = omega arith; left = omega arith; later = omega arith });
    }
