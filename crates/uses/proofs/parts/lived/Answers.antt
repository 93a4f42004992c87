-- `parts::lived` meets its contract.
use Rattle.std.proofs.Common.{refl}
use Rattle.uses.specs.Seeing.{lived}
use Rattle.uses.proofs.parts.lived.Goals as goal

pub returns : goal.returns
unfolding lived
returns c = refl
