use Rattle.std.proofs.Common.{◌-◌, length}
use Rattle.text_place.specs.PlaceLaws.{MarkedTo}
use Rattle.text_place.proofs.unmarked.Given as goal

abbrev pub invariant-loop-n : goal.invariant-loop-n
invariant-loop-n l = MarkedTo l.text l.i

abbrev pub decreases-loop-n : goal.decreases-loop-n
decreases-loop-n l = length l.text - l.i
