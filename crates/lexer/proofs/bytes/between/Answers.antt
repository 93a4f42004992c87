-- `bytes::between` meets its contract.
use Rattle.std.proofs.Common.{rules}
use Rattle.tokens.specs.Tokens.{between}
use Rattle.lexer.proofs.bytes.between.Goals as goal

pub returns : goal.returns
unfolding between
returns c = search rules
