-- `nulls::null_cell` meets its contract.
use Rattle.std.proofs.Common.{ap, ◌∙◌, arith}
use Rattle.layout.specs.Layout.{cell}
use Rattle.table_read.proofs.nulls.null_cell.Goals as goal

pub cell-requires : goal.cell-requires
cell-requires c = omega (arith, c.default_word-w.type_inv)

pub returns : goal.returns
returns c =
    let args = c.args in
    c.cell.ensures ∙ ap (cell args.t) c.default_word-w.ensures
