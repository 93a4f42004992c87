use Rattle.composing.specs.PouringLaws.{Pouring}
use Rattle.composing.proofs.pouring.poured.Given as goal

abbrev pub invariant-loop-i : goal.invariant-loop-i
invariant-loop-i l = Pouring l.initial.out l.stack l.p l.t l.out l.place l.i
