-- `declarations::narrow` meets its contract.
use Rattle.std.proofs.Common.{◌-◌, leb}
use Rattle.types.specs.Limits.{max_steps}
use Rattle.resolve.specs.Checks.{narrow}
use Rattle.resolve.proofs.declarations.narrow.Goals as goal

pub returns : goal.returns
unfolding narrow
returns c = c.between_all.ensures (λ a b. leb (b - a) max_steps) (λ a b r p q e. e)
