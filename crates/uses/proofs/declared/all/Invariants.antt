use Rattle.std.proofs.Common.{◌-◌, length}
use Rattle.resolve.specs.Laws.TableLaws.{Gathers}
use Rattle.uses.specs.Laws.AmongLaws.{declared_behind}
use Rattle.uses.proofs.declared.all.Given as goal

abbrev pub invariant-loop-i : goal.invariant-loop-i
invariant-loop-i l = Gathers (declared_behind l.roles) l.initial.table l.table l.n l.i
