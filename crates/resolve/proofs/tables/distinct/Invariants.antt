use Rattle.resolve.specs.Laws.TableLaws.{Differ}
use Rattle.resolve.proofs.tables.distinct.Given as goal

abbrev pub invariant-loop-i : goal.invariant-loop-i
invariant-loop-i l = Differ l.text l.table l.i
