-- `literals::nat_word` meets its contract.
use Rattle.resolve.specs.Laws.DigitLaws.{nat_here}
use Rattle.resolve.proofs.literals.nat_word.Goals as goal

pub returns : goal.returns
returns c = nat_here c.args.text.now c.args.at _ c.value.ensures c.try_from.ensures c.ok.ensures.value
