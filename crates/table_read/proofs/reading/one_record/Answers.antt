-- `reading::one_record` meets its contract: no struct byte, one that is not allowed, the values behind one.
use Rattle.std.proofs.Common.{arith}
use Rattle.table_read.specs.Laws.RecordWays.{record_cut, record_wrong, record_right}
use Rattle.table_read.proofs.reading.one_record.Goals as goal

pub returns-then-s-at-clause-record_laid : goal.returns-then-s-at-clause-record_laid
returns-then-s-at-clause-record_laid c =
    let args = c.args in record_cut _ _ _ _ args.heads.now args.cells.now args.l c.if-s-at.true args.heads.now args.cells.now

pub returns-then-p-k-clause-record_laid : goal.returns-then-p-k-clause-record_laid
returns-then-p-k-clause-record_laid c =
    let args = c.args in
    record_wrong _ _ _ _ args.heads.now args.cells.now args.l c.if-s-at.false (omega (arith, c.index-k.ensures)) args.heads.now args.cells.now

pub returns-clause-record_laid : goal.returns-clause-record_laid
returns-clause-record_laid c =
    record_right _ _ _ _ _ _ _ c.if-s-at.false c.index-k.result c.index-k.ensures.0 c.if-p-k.false _ c.seat.ensures _ _
    (rw c.index.ensures.0 at c.values.ensures.values_laid)
