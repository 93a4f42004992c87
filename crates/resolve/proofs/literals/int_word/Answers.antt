-- `literals::int_word` meets its contract.
use Rattle.std.proofs.Common.{refl, ◌∙◌}
use Rattle.resolve.specs.Laws.DigitLaws.{int_here}
use Rattle.resolve.proofs.literals.int_word.Goals as goal

pub returns : goal.returns
returns c = c.signed.ensures ∙ int_here c.args.text.now c.args.at refl c.value-n.ensures
