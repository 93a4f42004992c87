-- `ends` meets its contract.
use Rattle.std.proofs.Common.{arith}
use Rattle.std.proofs.lemmas.Grind.{common_steps}
use Rattle.derive.specs.Held.{ends}
use Rattle.derive.proofs.ends.Goals as goal

pub returns-in-30 : goal.returns-in-30
unfolding ends
returns-in-30 c = grind (arith, common_steps)

pub returns-in_default : goal.returns-in_default
unfolding ends
returns-in_default c = grind (arith, common_steps)

pub returns-else-h-eq0 : goal.returns-else-h-eq0
unfolding ends
returns-else-h-eq0 c = grind (arith, common_steps)
