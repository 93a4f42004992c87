-- `declared::declares` meets its contract.
use Rattle.std.proofs.Common.{sym, ◌∙◌}
use Rattle.uses.specs.Laws.AmongLaws.{named_declares, typed_declares}
use Rattle.uses.proofs.declared.declares.Goals as goal

pub returns-then-between : goal.returns-then-between
returns-then-between c = c.if-between.true ∙ named_declares _ (sym c.between.ensures ∙ c.if-between.true)

pub returns-else-between : goal.returns-else-between
returns-else-between c = c.between-else-between.ensures ∙ typed_declares _ (sym c.between.ensures ∙ c.if-between.false)
