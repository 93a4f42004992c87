-- `spotted` meets its contract: there is no row, or its numbers are places.
use Rattle.std.proofs.Common.{sym, ap, ◌∙◌}
use Rattle.step_part.specs.StepPart.{spot_at}
use Rattle.step_part.specs.StepPartLaws.{same_spot}
use Rattle.step_part.proofs.spotted.Goals as goal

pub returns-in_default : goal.returns-in_default
returns-in_default c = c.nowhere.ensures ∙ sym (ap spot_at c.in_default.is)

pub returns : goal.returns
returns c = same_spot _ _ _ _ c.from.ensures c.from-2.ensures ∙ sym (ap spot_at c.in-Some.is)
