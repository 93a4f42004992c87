-- `parts::dued` meets its contract.
use Rattle.std.proofs.Common.{refl}
use Rattle.uses.specs.Seeing.{dued}
use Rattle.uses.proofs.parts.dued.Goals as goal

pub returns : goal.returns
unfolding dued
returns c = refl
