use Rattle.std.proofs.Common.{◌-◌, length}
use Rattle.resolve.specs.Laws.TableLaws.{Lays}
use Rattle.uses.specs.Among.{bytes_at}
use Rattle.uses.proofs.declared.Declarations.rows.Given as goal

abbrev pub invariant-loop-at : goal.invariant-loop-at
invariant-loop-at l = Lays (bytes_at l.self.roles.now l.self.places.now) l.initial.table l.table l.role l.n l.k l.at-index
