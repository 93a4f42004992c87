use Rattle.std.proofs.Common.{◌≤◌, ◌≡◌, length}
use Rattle.table_read.specs.Params.{lists_of}
use Rattle.table_read.specs.Laid.{heads_laid, rows_laid, null_records}
use Rattle.table_read.specs.Laws.NullWays.{nulls_from}
use Rattle.table_read.proofs.nulls.nulls.Given as goal

abbrev pub invariant-loop-k : goal.invariant-loop-k
invariant-loop-k l =
    ((l.k ≤ length l.p.counts.now) × (length l.heads ≡ length l.initial.heads) × (length l.cells ≡ length l.initial.cells))
    × ((heads_laid l.heads l.k (nulls_from l.p.counts.now l.p.types.now l.k) ≡ heads_laid l.initial.heads 0 (null_records 0 (lists_of l.p.counts.now l.p.types.now)))
    × (rows_laid l.p.types.now l.cells l.k (nulls_from l.p.counts.now l.p.types.now l.k) ≡ rows_laid l.p.types.now l.initial.cells 0 (null_records 0 (lists_of l.p.counts.now l.p.types.now))))
