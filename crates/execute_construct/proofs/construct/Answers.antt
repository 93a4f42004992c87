-- `construct` meets its contract: refused, or the parameters copied, the numbers written and the label put on top.
use Rattle.std.proofs.Common.{◌+◌, ◌-◌, ◌*◌, ◌≤◌, ◌∙◌, refl, arith, length, get_or}
use Rattle.layout.specs.Layout.{row_size, stacked}
use Rattle.execute_construct.specs.ConsWays.{full_way, made_way, copied_within}
use Rattle.execute_construct.proofs.construct.Goals as goal

pub returns-then-count-ge-MAX_INSTANCES : goal.returns-then-count-ge-MAX_INSTANCES
returns-then-count-ge-MAX_INSTANCES c =
    let args = c.args in
    full_way args.counts.now args.heads.now args.cells.now args.a.label args.count args.k c.if-count-ge-MAX_INSTANCES.true

pub returns : goal.returns
returns c =
    let a = c.args in
    let l = stacked a.a.label (a.a.height - get_or a.counts.now a.k 0) in
    let b : l + get_or a.counts.now a.k 0 ≤ row_size * a.count = omega arith in
    let w : row_size * a.count + get_or a.counts.now a.k 0 ≤ length a.cells.now = omega arith in
    made_way a.counts.now a.heads.now a.cells.now a.count a.k c.requires.acting c.if-count-ge-MAX_INSTANCES.false
    (record {
      copy = c.copy_within.ensures.after ∙ copied_within a.cells.now l (row_size * a.count) (get_or a.counts.now a.k 0) _ refl b w;
      seat = c.seat.ensures;
      cell = c.cell-c.ensures;
      put = (c.put.ensures.heads_after, c.put.ensures.cells_after);
    })
