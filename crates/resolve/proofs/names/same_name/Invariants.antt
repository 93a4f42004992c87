use Rattle.std.proofs.Common.{◌-◌, length}
use Rattle.resolve.specs.Laws.NamedLaws.{Alike}
use Rattle.resolve.proofs.names.same_name.Given as goal

abbrev pub invariant-loop-c : goal.invariant-loop-c
invariant-loop-c l = Alike l.text l.a l.b l.p l.q l.c

abbrev pub decreases-loop-c : goal.decreases-loop-c
decreases-loop-c l = length l.text - l.p
