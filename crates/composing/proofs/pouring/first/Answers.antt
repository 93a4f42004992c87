-- `pouring::first` meets its contract: one law for each mark.
use Rattle.std.proofs.Common.{◌-◌, arith, refl, ap, length}
use Rattle.compose.specs.Writing.{pourings}
use Rattle.compose.specs.Fits.{within}
use Rattle.composing.specs.Pens.{stands}
use Rattle.composing.specs.PutLaws.{picked, picked_none}
use Rattle.composing.specs.PouringLaws.{poured_same}
use Rattle.composing.specs.Sizes.{margin}
use Rattle.composing.proofs.pouring.first.Goals as goal

pub returns-in-1 : goal.returns-in-1
unfolding pourings
returns-in-1 c =
    let args = c.args in
    record {
      by_index = λ n. picked (within (length args.out.now - margin)) (pourings args.o) (stands args.out.now args.stack.now n args.p) c.in-1.is
          (c.begun.ensures.by_index n);
      poured = c.begun.ensures.poured;
    }

pub returns-in-2 : goal.returns-in-2
unfolding pourings
returns-in-2 c =
    let args = c.args in
    record {
      by_index = λ n. picked (within (length args.out.now - margin)) (pourings args.o) (stands args.out.now args.stack.now n args.p) c.in-2.is
          (rw c.tightness.ensures at (c.poured.ensures.by_index n));
      poured = c.poured.ensures.poured;
    }

pub returns-in_default : goal.returns-in_default
unfolding pourings
returns-in_default c =
    let args = c.args in
    record {
      by_index = λ n. ap (within (length args.out.now - margin)) (picked_none (pourings args.o) args.mark (stands args.out.now args.stack.now n args.p)
          refl (λ l. omega arith));
      poured = poured_same args.p c.requires.0;
    }
