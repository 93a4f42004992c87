-- `reading::values` meets its contract. The loop's invariant: what the values that are left come to, all of them do.
use Rattle.std.proofs.Common.{◌∙◌, arith}
use Rattle.std.proofs.lemmas.Result.{err_from_is_err_and}
use Rattle.table_read.specs.Laws.ValuesWays.{values_turn, values_refused, values_end}
use Rattle.table_read.proofs.reading.values.Goals as goal

pub returns-in_err-next-clause-values_laid : goal.returns-in_err-next-clause-values_laid
returns-in_err-next-clause-values_laid c =
    let p = err_from_is_err_and c.from_residual.result c.from_residual.ensures.1 in
    rw (p.1, p.2)
    (values_refused _ _ _ _ _ _ _ c.loop-x.x c.loop-x.next _ c.loop-x-test.true c.loop-x.invariant.1 _ _
    c.in_err-next.ensures.value_laid _)

pub loop-x-preserved : goal.loop-x-preserved
loop-x-preserved c =
    let w = c.in_ok-next.ensures.within in (
      (omega arith, omega arith, omega arith, c.value.auto.cells ∙ c.loop-x.invariant.0.3),
      values_turn _ _ _ _ _ _ _ c.loop-x.x c.loop-x.next _ c.loop-x-test.true c.loop-x.invariant.1 _ _ c.in_ok-next.ensures.value_laid,
    )

pub returns-clause-values_laid : goal.returns-clause-values_laid
returns-clause-values_laid c = values_end _ _ _ _ _ _ _ c.loop-x.x _ _ c.loop-x-test.false c.loop-x.invariant.1
