-- `bytes::is_letter` meets its contract.
use Rattle.std.proofs.Common.{rules}
use Rattle.tokens.specs.Tokens.{letter, between}
use Rattle.lexer.proofs.bytes.is_letter.Goals as goal

pub returns : goal.returns
unfolding letter between
returns c = search rules
