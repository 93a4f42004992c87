-- `writing::values` meets its contract. The loop's invariant: what is left to write makes of the output what writing all does. The measure is how many
-- cells are left.
use Rattle.std.proofs.Common.{◌∙◌, refl, arith}
use Rattle.table_write.specs.WrittenWays.{cells_begin, cells_turn, cells_end}
use Rattle.table_write.proofs.writing.values.Goals as goal

pub loop-x-init : goal.loop-x-init
loop-x-init c =
    let args = c.args in
    ((omega arith, refl), cells_begin args.at args.cells.now args.place args.m args.out.now)

pub loop-x-preserved : goal.loop-x-preserved
loop-x-preserved c =
    let loop = c.loop-x in let args = c.args in (
      (omega arith, c.put_word.auto.out ∙ loop.invariant.0.1),
      cells_turn args.at args.cells.now args.place args.m loop.out c.put_word.new.out loop.x c.loop-x-test.true
          c.operand.ensures.0 c.put_word.ensures ∙ loop.invariant.1,
    )

pub shape_of-out : goal.shape_of-out
shape_of-out c = c.loop-x.invariant.0.1

pub returns : goal.returns
returns c =
    let args = c.args in
    cells_end args.at args.cells.now args.place args.m c.loop-x.out c.loop-x.x c.loop-x-test.false ∙ c.loop-x.invariant.1
