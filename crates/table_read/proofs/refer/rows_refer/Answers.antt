-- `refer::rows_refer` meets its contract. The loop's invariant: the instances that are left decide.
use Rattle.std.proofs.Common.{◌∙◌, arith}
use Rattle.table_read.specs.Laws.ReferWays.{rows_turn, rows_stop, rows_end}
use Rattle.table_read.proofs.refer.rows_refer.Goals as goal

pub returns-then-not-row_refers : goal.returns-then-not-row_refers
returns-then-not-row_refers c =
    rows_stop _ _ _ _ _ c.loop-l.l c.head-k.result c.index-m.result c.loop-l-test.true c.head-k.ensures.0 c.index-m.ensures.0
    c.row_refers.result c.row_refers.ensures c.if-not-row_refers.true ∙ c.loop-l.invariant.2

pub loop-l-preserved : goal.loop-l-preserved
loop-l-preserved c = (
  omega arith,
  omega arith,
  rows_turn _ _ _ _ _ c.loop-l.l c.head-k.result c.index-m.result c.loop-l-test.true c.head-k.ensures.0 c.index-m.ensures.0
      c.row_refers.result c.row_refers.ensures c.if-not-row_refers.false ∙ c.loop-l.invariant.2,
)

pub returns : goal.returns
returns c = rows_end _ _ _ _ _ c.loop-l.l c.loop-l-test.false ∙ c.loop-l.invariant.2
