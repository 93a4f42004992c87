-- `header::write_header` meets its contract. The loop's invariant: the rows from k on stand in front of the place.
use Rattle.std.proofs.Common.{◌-◌, arith, ◌∙◌, length, length-set}
use Rattle.composing.specs.RowLaws.{rows_start, rows_on, row_fits, rows_end}
use Rattle.composing.proofs.header.write_header.Goals as goal

pub loop-k-init : goal.loop-k-init
loop-k-init c =
    let args = c.args in
    (omega (arith, c.requires.2.some), rows_start args.offsets.now args.types.now args.out.now args.place c.requires.2.some)

pub row-p-requires : goal.row-p-requires
row-p-requires c =
    let args = c.args in
    let here = c.loop-k in
    record {
      a_le_b = row_fits args.out.now args.offsets.now args.types.now here.out args.place here.p (here.k - 1) here.invariant.1 (omega (arith, c.loop-k-test.true)) c.requires.2
          c.requires.0 c.requires.1;
      by_index = c.requires.2.bytes;
    }

pub loop-k-preserved : goal.loop-k-preserved
loop-k-preserved c =
    let args = c.args in
    let here = c.loop-k in
    let row = c.row-p in (
      omega (arith, c.loop-k-test.true),
      rows_on args.out.now args.offsets.now args.types.now here.out args.place here.p row.new.out row.result (here.k - 1)
          here.invariant.1 (omega (arith, c.loop-k-test.true)) c.requires.2 row.ensures.out_after row.ensures.b_value row.auto.out,
    )

pub shape_of-out : goal.shape_of-out
shape_of-out c =
    let args = c.args in
    let here = c.loop-k in
    length-set here.out (here.p - 1) (length args.offsets.now - 1) ∙ here.invariant.1.same

pub returns : goal.returns
returns c =
    let args = c.args in
    let here = c.loop-k in
    record {
      out_after = rows_end args.out.now args.offsets.now args.types.now here.out args.place here.p (here.k - 1) here.invariant.1 (omega arith) (omega arith)
          (omega arith);
      upper_bound = omega arith;
    }
