-- `nulls::defaults` meets its contract. The loop's invariant: what is left to lay makes of the cells what laying all does. The measure is how many are
-- left.
use Rattle.std.proofs.Common.{◌∙◌, refl, arith, length-set}
use Rattle.table_read.specs.Laws.NullWays.{defaults_begin, defaults_turn, defaults_end}
use Rattle.table_read.proofs.nulls.defaults.Goals as goal

pub loop-x-init : goal.loop-x-init
loop-x-init c =
    let args = c.args in
    ((omega arith, refl), defaults_begin args.types.now args.from args.n args.cells.now args.place)

pub loop-x-preserved : goal.loop-x-preserved
loop-x-preserved c =
    let loop = c.loop-x in
    let args = c.args in let long = loop.invariant.0.1 in (
      (omega arith, simp length-set long),
      defaults_turn args.types.now args.from args.n loop.cells args.place loop.x _ c.loop-x-test.true
          c.null_cell.ensures ∙ loop.invariant.1,
    )

pub shape_of-cells : goal.shape_of-cells
shape_of-cells c = c.loop-x.invariant.0.1

pub returns : goal.returns
returns c =
    let args = c.args in
    defaults_end args.types.now args.from args.n c.loop-x.cells args.place c.loop-x.x c.loop-x-test.false
    ∙ c.loop-x.invariant.1
