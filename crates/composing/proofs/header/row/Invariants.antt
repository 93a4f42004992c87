use Rattle.std.proofs.Common.{◌≤◌}
use Rattle.composing.specs.RowLaws.{RowReached}
use Rattle.composing.proofs.header.row.Given as goal

abbrev pub invariant-loop-i : goal.invariant-loop-i
invariant-loop-i l = (l.a ≤ l.i) × RowReached l.initial.out l.types l.out l.place l.b l.p l.i
