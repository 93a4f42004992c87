-- `roomy` meets its contract.
use Rattle.std.proofs.Common.{leb}
use Rattle.composing.specs.PutLaws.{both_on}
use Rattle.composing.specs.Sizes.{margin}
use Rattle.composing.proofs.roomy.Goals as goal

pub returns-then-p : goal.returns-then-p
returns-then-p c =
    let p = c.args.p in
    both_on p.fits (leb margin p.place) c.if-p.true
