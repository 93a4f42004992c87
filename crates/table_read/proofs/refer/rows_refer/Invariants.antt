use Rattle.std.proofs.Common.{◌≤◌, ◌-◌, ◌≡◌}
use Rattle.table_read.specs.Refer.{rows_refer}
use Rattle.table_read.proofs.refer.rows_refer.Given as goal

abbrev pub invariant-loop-l : goal.invariant-loop-l
invariant-loop-l l =
    (l.first ≤ l.l) × (l.l ≤ l.n) × (rows_refer l.p.counts.now l.p.types.now l.heads l.cells l.n l.l (l.n - l.l) ≡ rows_refer l.p.counts.now l.p.types.now l.heads l.cells l.n l.first (l.n - l.first))
