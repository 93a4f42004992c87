-- `waiting::opened` meets its contract.
use Rattle.std.proofs.Common.{arith, refl, drop}
use Rattle.derive.specs.Held.{held}
use Rattle.composing.specs.Pens.{stands}
use Rattle.composing.specs.PenLaws.{opened_on}
use Rattle.composing.proofs.waiting.opened.Goals as goal

pub returns : goal.returns
unfolding stands
returns c =
    let args = c.args in
    let p = args.p in
    record {
      by_index = λ s n. opened_on (drop p.place s) args.stack.now (held n p.left) p.height p.later p.fits args.c (omega arith);
      place_value = (refl, record { front = omega arith; behind = omega arith; height = omega arith; left = omega arith; later = omega arith });
    }
