use Rattle.std.proofs.Common.{◌-◌, ◌≤◌}
use Rattle.composing.specs.RowLaws.{RowsReached}
use Rattle.composing.proofs.header.write_header.Given as goal

abbrev pub invariant-loop-k : goal.invariant-loop-k
invariant-loop-k l = (1 ≤ l.k) × RowsReached l.initial.out l.offsets l.types l.out l.place l.p (l.k - 1)
