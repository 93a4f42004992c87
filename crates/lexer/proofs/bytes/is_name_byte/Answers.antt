-- `bytes::is_name_byte` meets its contract.
use Rattle.std.proofs.Common.{arith}
use Rattle.std.proofs.lemmas.Grind.{common_steps}
use Rattle.tokens.specs.Tokens.{name_byte, letter, digit, between}
use Rattle.lexer.proofs.bytes.is_name_byte.Goals as goal

pub returns-then-is_ascii_alphanumeric : goal.returns-then-is_ascii_alphanumeric
unfolding name_byte letter digit between
returns-then-is_ascii_alphanumeric c = grind (arith, common_steps)

pub returns-else-is_ascii_alphanumeric : goal.returns-else-is_ascii_alphanumeric
unfolding name_byte letter digit between
returns-else-is_ascii_alphanumeric c = grind (arith, common_steps)
