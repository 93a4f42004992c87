-- `literals::longer` meets its contract.
use Rattle.std.proofs.Common.{◌∙◌}
use Rattle.resolve.specs.Laws.DigitLaws.{longer_least}
use Rattle.resolve.proofs.literals.longer.Goals as goal

pub returns : goal.returns
returns c = c.min.ensures ∙ longer_least c.args.n c.args.b c.digit_value.ensures.0
