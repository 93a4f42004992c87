use Rattle.std.proofs.Common.{◌-◌, length}
use Rattle.resolve.specs.Laws.TableLaws.{Gathers}
use Rattle.uses.specs.Laws.AmongLaws.{among_behind}
use Rattle.uses.proofs.declared.Declarations.gather.Given as goal

abbrev pub invariant-loop-at : goal.invariant-loop-at
invariant-loop-at l = Gathers (among_behind l.low l.high l.self.roles.now l.self.places.now) l.initial.table l.table l.n l.at-index
