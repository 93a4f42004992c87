-- `reading::records` meets its contract. The loop's invariant: what the records that are left come to, all of them do.
use Rattle.std.proofs.Common.{◌∙◌, arith}
use Rattle.std.proofs.lemmas.Result.{err_from_is_err_and}
use Rattle.table_read.specs.Laws.RecordWays.{records_turn, records_refused, records_end}
use Rattle.table_read.proofs.reading.records.Goals as goal

pub returns-in_err-next-clause-records_laid : goal.returns-in_err-next-clause-records_laid
returns-in_err-next-clause-records_laid c =
    let p = err_from_is_err_and c.from_residual.result c.from_residual.ensures.1 in
    rw (p.1, p.2)
    (records_refused _ _ _ _ _ _ _ _ c.loop-i.i c.loop-i.next _ _ c.loop-i.invariant.1 c.loop-i-test.true _ _ _
    c.in_err-next.ensures.record_laid _ _)

pub loop-i-preserved : goal.loop-i-preserved
loop-i-preserved c =
    let loop = c.loop-i in let w = c.in_ok-next.ensures.within in (
      (
        omega arith,
        omega arith,
        omega arith,
        c.one_record.auto.heads ∙ loop.invariant.0.3,
        c.one_record.auto.cells ∙ loop.invariant.0.4,
      ),
      records_turn _ _ _ _ _ _ _ _ loop.i loop.next _ _ loop.invariant.1 c.loop-i-test.true _ _ _ c.in_ok-next.ensures.record_laid,
    )

pub returns-clause-records_laid : goal.returns-clause-records_laid
returns-clause-records_laid c = records_end _ _ _ _ _ _ _ _ c.loop-i.i _ _ _ c.loop-i.invariant.1 c.loop-i-test.false
