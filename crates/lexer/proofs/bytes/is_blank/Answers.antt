-- `bytes::is_blank` meets its contract.
use Rattle.std.proofs.Common.{arith}
use Rattle.std.proofs.lemmas.Grind.{common_steps}
use Rattle.tokens.specs.Tokens.{blank}
use Rattle.lexer.proofs.bytes.is_blank.Goals as goal

pub returns-in_default : goal.returns-in_default
unfolding blank
returns-in_default c = grind (arith, common_steps)

pub returns-in_default-2 : goal.returns-in_default-2
unfolding blank
returns-in_default-2 c = grind (arith, common_steps)

pub returns-in-32 : goal.returns-in-32
unfolding blank
returns-in-32 c = grind (arith, common_steps)

pub returns-in-32-2 : goal.returns-in-32-2
unfolding blank
returns-in-32-2 c = grind (arith, common_steps)
