-- `all_codes` meets its contract: each constant is the code of its type.
use mathlib.Core.Path.{refl}
use Rattle.types.specs.Types.{code}
use Rattle.types.specs.Constants.{codes}
use Rattle.types.proofs.all_codes.Goals as goal

pub returns : goal.returns
unfolding codes code
returns c = refl
