use Rattle.std.proofs.Common.{◌≤◌, ◌≡◌, length}
use Rattle.table_read.specs.Laws.ValuesWays.{ValuesGo}
use Rattle.table_read.proofs.reading.values.Given as goal

abbrev pub invariant-loop-x : goal.invariant-loop-x
invariant-loop-x l =
    ((l.x ≤ l.n) × (l.at ≤ l.next) × (l.next ≤ length l.s) × (length l.cells ≡ length l.initial.cells)) × ValuesGo l.s l.types l.from l.n l.at l.initial.cells l.place l.x l.next l.cells
