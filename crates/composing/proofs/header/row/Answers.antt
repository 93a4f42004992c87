-- `header::row` meets its contract. The loop's invariant: the bytes from i on stand in front of the place.
use Rattle.std.proofs.Common.{◌-◌, arith, ◌∙◌, length-set}
use Rattle.composing.specs.RowLaws.{RowReached, row_start, row_on, row_left, row_end}
use Rattle.composing.proofs.header.row.Goals as goal

pub loop-i-init : goal.loop-i-init
loop-i-init c = (omega arith, row_start c.args.out.now c.args.types.now c.args.place c.args.b)

pub overflow_cast-out : goal.overflow_cast-out
overflow_cast-out c = record { fits = c.requires.by_index (c.loop-i.i - 1) (omega arith) }

pub loop-i-preserved : goal.loop-i-preserved
loop-i-preserved c =
    let args = c.args in
    let here = c.loop-i in (
      omega arith,
      row_on args.out.now args.types.now here.out args.place args.b here.p here.i here.invariant.1 (omega arith) (omega arith)
          (omega arith) (omega arith),
    )

pub shape_of-out : goal.shape_of-out
shape_of-out c =
    let args = c.args in
    let here = c.loop-i in
    length-set here.out (here.p - 1) (args.b - args.a) ∙ here.invariant.1.same

pub returns : goal.returns
returns c =
    let args = c.args in
    let here = c.loop-i in
    let ended : RowReached args.out.now args.types.now here.out args.place args.b here.p args.a =
    row_left args.out.now args.types.now here.out args.place args.b here.p here.i args.a (omega arith) here.invariant.1 in
    record {
      out_after = row_end args.out.now args.types.now here.out args.place args.b here.p args.a ended (omega arith) (omega arith) (omega arith);
      b_value = omega arith;
    }
