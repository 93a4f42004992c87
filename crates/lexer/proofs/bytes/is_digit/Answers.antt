-- `bytes::is_digit` meets its contract.
use Rattle.std.proofs.Common.{rules}
use Rattle.tokens.specs.Tokens.{digit, between}
use Rattle.lexer.proofs.bytes.is_digit.Goals as goal

pub returns : goal.returns
unfolding digit between
returns c = search rules
