use Rattle.text.specs.ListingLaws.{placed_mid}
use Rattle.text.proofs.put.Goals as goal

pub returns : goal.returns
returns c = placed_mid c.args.t.now c.args.out.now _ c.args.k c.requires c.copy_from_slice.ensures.after
