-- `refer::row_refers` meets its contract. The loop's invariant: the cells that are left decide. The measure is how many are left.
use Rattle.std.proofs.Common.{◌∙◌, sym, arith}
use Rattle.table_read.specs.Laws.ReferWays.{row_begin, row_turn, row_stop, row_end}
use Rattle.table_read.proofs.refer.row_refers.Goals as goal

pub loop-x-init : goal.loop-x-init
loop-x-init c =
    let args = c.args in
    (omega arith, row_begin args.heads.now args.n args.types.now args.from args.cells.now args.place args.m)

pub returns-then-not-cell_refers : goal.returns-then-not-cell_refers
returns-then-not-cell_refers c =
    let args = c.args in
    row_stop args.heads.now args.n args.types.now args.from args.cells.now args.place args.m c.loop-x.x
    c.loop-x-test.true (sym c.cell_refers.ensures ∙ c.if-not-cell_refers.true) ∙ c.loop-x.invariant.1

pub loop-x-preserved : goal.loop-x-preserved
loop-x-preserved c =
    let args = c.args in (
      omega arith,
      row_turn args.heads.now args.n args.types.now args.from args.cells.now args.place args.m c.loop-x.x
          c.loop-x-test.true (sym c.cell_refers.ensures ∙ c.if-not-cell_refers.false) ∙ c.loop-x.invariant.1,
    )

pub returns : goal.returns
returns c =
    let args = c.args in
    row_end args.heads.now args.n args.types.now args.from args.cells.now args.place args.m c.loop-x.x
    c.loop-x-test.false ∙ c.loop-x.invariant.1
