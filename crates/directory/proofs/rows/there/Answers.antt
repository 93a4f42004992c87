-- `rows::there` meets its contract.
use Rattle.std.proofs.Common.{ap, ◌∙◌, is_some}
use Rattle.directory.proofs.FindLaws.{there_told}
use Rattle.directory.proofs.rows.there.Goals as goal

pub returns : goal.returns
returns c = c.is_some.ensures ∙ ap is_some c.find.ensures ∙ there_told _ _ _
