-- `words::same` meets its contract.
use Rattle.std.proofs.Common.{◌∙◌}
use Rattle.lexer.specs.RunLaws.{same_bytes}
use Rattle.lexer.proofs.words.same.Goals as goal

pub returns : goal.returns
returns c = c.eq.ensures ∙ same_bytes _ _
