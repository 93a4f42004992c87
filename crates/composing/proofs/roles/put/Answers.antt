-- `roles::put` meets its contract: a byte of no role does nothing; the others by their four marks.
use Rattle.std.proofs.Common.{◌-◌, arith, ◌∙◌, length}
use Rattle.composing.specs.Pens.{stands}
use Rattle.composing.specs.PenLaws.{near_same, near_within, near_then}
use Rattle.composing.specs.PouringLaws.{near_poured}
use Rattle.composing.specs.PutLaws.{put_by, put_none}
use Rattle.composing.specs.Sizes.{margin}
use Rattle.composing.proofs.roles.put.Goals as goal

pub returns-then-c-ge-COUNT : goal.returns-then-c-ge-COUNT
returns-then-c-ge-COUNT c =
    let args = c.args in
    record {
      result_after = put_none (length args.out.now - margin) args.c args.v (stands args.out.now args.stack.now args.numbers.now args.p)
          c.if-c-ge-COUNT.true;
      near = near_within args.p.place 1 1 (near_same args.p) (omega arith) (omega arith) (omega arith);
    }

pub formed-r-requires : goal.formed-r-requires
formed-r-requires c =
    let pre = c.requires.margin_le_place in
    let w = c.first-a.ensures.poured in
    let x = c.behind-q.ensures.near in
    (omega (arith, w.front, x.front), omega (arith, pre.1, w.behind, x.behind, c.first-a.auto.out, c.behind-q.auto.out))

pub mark-requires-4 : goal.mark-requires-4
mark-requires-4 c =
    (omega arith, omega (arith, c.if-c-ge-COUNT.false))

pub overflow_add-c-2 : goal.overflow_add-c-2
overflow_add-c-2 c = omega (arith, c.if-c-ge-COUNT.false)

pub stacked-requires : goal.stacked-requires
stacked-requires c =
    let pre = c.requires.margin_le_place in
    let w = c.first-a.ensures.poured in
    let x = c.behind-q.ensures.near in
    let y = c.formed-r.ensures.near in (
      omega (arith, w.front, x.front, y.front),
      omega (arith, pre.1, w.behind, x.behind, y.behind, c.first-a.auto.out, c.behind-q.auto.out, c.formed-r.auto.out),
      omega (arith, pre.2, w.height, x.height, y.height),
    )

pub shape_of-out : goal.shape_of-out
shape_of-out c = c.stacked.auto.out ∙ c.formed-r.auto.out ∙ c.behind-q.auto.out ∙ c.first-a.auto.out

pub shape_of-stack : goal.shape_of-stack
shape_of-stack c = c.stacked.auto.stack

pub returns : goal.returns
returns c =
    let args = c.args in
    let near-2 = near_then 5 0 1 c.behind-q.ensures.near c.formed-r.ensures.near (omega arith) (omega arith) (omega arith) in
    record {
      result_after = put_by (length args.out.now - margin) args.c args.v c.mark.result c.mark-2.result c.mark-3.result c.mark-4.result
          (stands args.out.now args.stack.now args.numbers.now args.p) (stands c.first-a.new.out args.stack.now args.numbers.now c.first-a.result)
          (stands c.behind-q.new.out args.stack.now args.numbers.now c.behind-q.result)
          (stands c.formed-r.new.out args.stack.now args.numbers.now c.formed-r.result)
          (stands c.stacked.new.out c.stacked.new.stack args.numbers.now c.stacked.result) c.mark.ensures c.mark-2.ensures c.mark-3.ensures
          c.mark-4.ensures (c.first-a.ensures.by_index args.numbers.now) (c.behind-q.ensures.by_index args.stack.now)
          (c.formed-r.ensures.by_index args.stack.now args.numbers.now) (c.stacked.ensures.by_index args.numbers.now);
      near = near_poured c.first-a.ensures.poured (near_then 6 1 1 near-2 c.stacked.ensures.near (omega arith) (omega arith) (omega arith));
    }
