use Rattle.resolve.specs.Laws.DigitLaws.{Adds}
use Rattle.resolve.proofs.literals.value.Given as goal

abbrev pub invariant-loop-i : goal.invariant-loop-i
invariant-loop-i l = Adds l.text l.at l.n l.i
