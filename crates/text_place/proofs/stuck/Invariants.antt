use Rattle.text_place.specs.PlaceLaws.{Goes}
use Rattle.text_place.proofs.stuck.Given as goal

abbrev pub invariant-loop-i : goal.invariant-loop-i
invariant-loop-i l = Goes l.kinds l.initial.stack l.stack l.m.state l.m.height l.i
