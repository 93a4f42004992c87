use Rattle.std.proofs.Common.{◌≤◌, ◌+◌, ◌-◌, ◌≡◌}
use Rattle.table_read.specs.Refer.{row_refers}
use Rattle.table_read.proofs.refer.row_refers.Given as goal

abbrev pub invariant-loop-x : goal.invariant-loop-x
invariant-loop-x l =
    (l.x ≤ l.m) × (row_refers l.heads l.n l.types (l.from + l.x) l.cells (l.place + l.x) (l.m - l.x) ≡ row_refers l.heads l.n l.types l.from l.cells l.place l.m)
