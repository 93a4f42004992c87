use Rattle.std.proofs.Common.{◌≤◌, ◌≡◌, length}
use Rattle.table_read.specs.Laws.RecordWays.{RecordsGo}
use Rattle.table_read.proofs.reading.records.Given as goal

abbrev pub invariant-loop-i : goal.invariant-loop-i
invariant-loop-i l =
    ((l.i ≤ l.n) × (l.at ≤ l.next) × (l.next ≤ length l.s) × (length l.heads ≡ length l.initial.heads) × (length l.cells ≡ length l.initial.cells))
    × RecordsGo l.p.counts.now l.p.types.now l.s l.n l.at l.initial.heads l.initial.cells (length l.p.counts.now) l.i l.next l.heads l.cells
