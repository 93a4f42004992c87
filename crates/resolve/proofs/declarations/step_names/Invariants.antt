use Rattle.resolve.specs.Laws.FirstLaws.{Firsting}
use Rattle.resolve.proofs.declarations.step_names.Given as goal

abbrev pub invariant-loop-at : goal.invariant-loop-at
invariant-loop-at l = Firsting l.text l.places l.initial.table l.table l.n l.at-index
