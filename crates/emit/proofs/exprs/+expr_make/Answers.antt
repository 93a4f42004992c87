-- `emit::exprs` meets its contracts, a law for each form. The measure goes by the depth, with a construct above its arguments. The invariant
-- of the loop over these: once those that are left are written, all are.
use Rattle.std.proofs.Common.{◌+◌, ◌-◌, ◌≡◌, length, get_or, ◌<◌, arith, refl, ap, ◌∙◌}
use Rattle.program.specs.Tree.{Exprs}
use Rattle.program.specs.Reader.{Result}
use Rattle.emit.specs.Written.{Wrote, args_words, args_at}
use Rattle.emit.specs.Laws.WrittenLaws.{placed_kept, placed_one, placed_as}
use Rattle.emit.specs.Laws.PartsLaws.{part_ready, part_room, part_same, part_last, parts_ready, parts_next, parts_room, parts_last, rest_all}
use Rattle.emit.specs.Laws.ExprLaws.{args_ready, args_next, args_none, make_facts, expr_in, inv_part, make_part, path_part, op_parts, MakeFacts}
use Rattle.emit.specs.Laws.LiteralLaws.{leaf_facts, LeafFacts}
use Rattle.emit.proofs.exprs.+expr_make.Goals as goal

pub expr-bounds-s-at : goal.expr-bounds-s-at
expr-bounds-s-at t c =
    let expr_known' : (c.args.at < length c.args.s.now) × (0 < c.args.depth) = expr_in _ _ _ _ c.requires.good in
    omega (arith, expr_known')

pub expr-overflow_add-at : goal.expr-overflow_add-at
expr-overflow_add-at t c =
    let expr_known' : (c.args.at < length c.args.s.now) × (0 < c.args.depth) = expr_in _ _ _ _ c.requires.good in
    omega (arith, expr_known')

pub expr-overflow_sub-depth : goal.expr-overflow_sub-depth
expr-overflow_sub-depth t c =
    let expr_known' : (c.args.at < length c.args.s.now) × (0 < c.args.depth) = expr_in _ _ _ _ c.requires.good in
    omega (arith, expr_known')

pub expr-expr-p-requires : goal.expr-expr-p-requires
expr-expr-p-requires t c =
    let expr_known' : (c.args.at < length c.args.s.now) × (0 < c.args.depth) = expr_in _ _ _ _ c.requires.good in
    let i = expr_known' in (
      omega (arith, c.decreases),
      part_ready (inv_part _ _ _ _ c.requires.good c.in-16.is)
          c.requires,
    )

pub expr-add-requires : goal.expr-add-requires
expr-add-requires t c =
    let f = inv_part _ _ _ _ c.requires.good c.in-16.is in
    omega (arith, part_room f c.requires c.expr-p.ensures)

pub expr-returns-in-16 : goal.expr-returns-in-16
expr-returns-in-16 t c =
    let f = inv_part _ _ _ _ c.requires.good c.in-16.is in
    part_last _ f c.expr-p.ensures c.add.ensures.0 c.add.ensures.1 (c.add.ensures.2 ∙ rw c.coded-v.ensures refl)

pub expr-overflow_add-at-in-17 : goal.expr-overflow_add-at-in-17
expr-overflow_add-at-in-17 t c =
    let expr_known' : (c.args.at < length c.args.s.now) × (0 < c.args.depth) = expr_in _ _ _ _ c.requires.good in
    omega (arith, expr_known')

pub expr-overflow_sub-depth-in-17 : goal.expr-overflow_sub-depth-in-17
expr-overflow_sub-depth-in-17 t c =
    let expr_known' : (c.args.at < length c.args.s.now) × (0 < c.args.depth) = expr_in _ _ _ _ c.requires.good in
    omega (arith, expr_known')

pub expr-make-requires : goal.expr-make-requires
expr-make-requires t c =
    let expr_known' : (c.args.at < length c.args.s.now) × (0 < c.args.depth) = expr_in _ _ _ _ c.requires.good in
    let i = expr_known' in (
      omega (arith, c.decreases),
      part_ready (make_part _ _ _ _ c.requires.good c.in-17.is)
          c.requires,
    )

pub expr-returns-in-17 : goal.expr-returns-in-17
expr-returns-in-17 t c = part_same (make_part _ _ _ _ c.requires.good c.in-17.is) c.make.ensures

pub expr-overflow_add-at-in-18 : goal.expr-overflow_add-at-in-18
expr-overflow_add-at-in-18 t c =
    let expr_known' : (c.args.at < length c.args.s.now) × (0 < c.args.depth) = expr_in _ _ _ _ c.requires.good in
    omega (arith, expr_known')

pub expr-path-requires : goal.expr-path-requires
expr-path-requires t c = part_ready (path_part _ _ _ _ c.requires.good c.in-18.is) c.requires

pub expr-returns-in-18 : goal.expr-returns-in-18
expr-returns-in-18 t c = part_same (path_part _ _ _ _ c.requires.good c.in-18.is) c.path.ensures

pub expr-leaf-v-requires : goal.expr-leaf-v-requires
expr-leaf-v-requires t c =
    let expr_leaf' : LeafFacts c.args.ar.now c.args.s.now c.args.depth c.args.at (get_or c.args.s.now c.args.at 0) = leaf_facts _ _ _ _ c.requires.good (omega arith) (omega arith) (omega arith) (omega arith) in
    let f = expr_leaf' in (f.low, f.fits)

pub expr-store-requires : goal.expr-store-requires
expr-store-requires t c =
    let expr_leaf' : LeafFacts c.args.ar.now c.args.s.now c.args.depth c.args.at (get_or c.args.s.now c.args.at 0) = leaf_facts _ _ _ _ c.requires.good (omega arith) (omega arith) (omega arith) (omega arith) in
    let f = expr_leaf' in
    omega (arith, rw f.code at c.requires.room)

pub expr-leaf_size-requires : goal.expr-leaf_size-requires
expr-leaf_size-requires t c = tt

pub expr-overflow_add-result : goal.expr-overflow_add-result
expr-overflow_add-result t c =
    let expr_leaf' : LeafFacts c.args.ar.now c.args.s.now c.args.depth c.args.at (get_or c.args.s.now c.args.at 0) = leaf_facts _ _ _ _ c.requires.good (omega arith) (omega arith) (omega arith) (omega arith) in
    let f = expr_leaf' in
    omega (arith, rw f.code at c.requires.room)

pub expr-overflow_add-result-in-0-to-23 : goal.expr-overflow_add-result-in-0-to-23
expr-overflow_add-result-in-0-to-23 t c =
    let expr_leaf' : LeafFacts c.args.ar.now c.args.s.now c.args.depth c.args.at (get_or c.args.s.now c.args.at 0) = leaf_facts _ _ _ _ c.requires.good (omega arith) (omega arith) (omega arith) (omega arith) in
    let f = expr_leaf' in
    omega (arith, rw f.code at c.requires.room)

pub expr-returns-in-0-to-23 : goal.expr-returns-in-0-to-23
expr-returns-in-0-to-23 t c =
    let expr_leaf' : LeafFacts c.args.ar.now c.args.s.now c.args.depth c.args.at (get_or c.args.s.now c.args.at 0) = leaf_facts _ _ _ _ c.requires.good (omega arith) (omega arith) (omega arith) (omega arith) in
    let f = expr_leaf' in
    placed_as (placed_one (ap (λ n. c.args.at + n) c.leaf_size.ensures) refl
    (c.store.ensures ∙ rw c.leaf-v.ensures refl)) f.code f.next

pub expr-overflow_add-at-in_default : goal.expr-overflow_add-at-in_default
expr-overflow_add-at-in_default t c =
    let expr_known' : (c.args.at < length c.args.s.now) × (0 < c.args.depth) = expr_in _ _ _ _ c.requires.good in
    omega (arith, expr_known')

pub expr-overflow_sub-depth-in_default : goal.expr-overflow_sub-depth-in_default
expr-overflow_sub-depth-in_default t c =
    let expr_known' : (c.args.at < length c.args.s.now) × (0 < c.args.depth) = expr_in _ _ _ _ c.requires.good in
    omega (arith, expr_known')

pub expr-expr-p-requires-in_default : goal.expr-expr-p-requires-in_default
expr-expr-p-requires-in_default t c =
    let expr_known' : (c.args.at < length c.args.s.now) × (0 < c.args.depth) = expr_in _ _ _ _ c.requires.good in
    let i = expr_known' in (
      omega (arith, c.decreases),
      parts_ready (op_parts _ _ _ _ c.requires.good (omega arith)) c.requires,
    )

pub expr-overflow_sub-depth-in_default-2 : goal.expr-overflow_sub-depth-in_default-2
expr-overflow_sub-depth-in_default-2 t c =
    let expr_known' : (c.args.at < length c.args.s.now) × (0 < c.args.depth) = expr_in _ _ _ _ c.requires.good in
    omega (arith, expr_known')

pub expr-expr-q-requires : goal.expr-expr-q-requires
expr-expr-q-requires t c =
    let expr_known' : (c.args.at < length c.args.s.now) × (0 < c.args.depth) = expr_in _ _ _ _ c.requires.good in
    let i = expr_known' in (
      omega (arith, c.decreases),
      parts_next (op_parts _ _ _ _ c.requires.good (omega arith))
          c.requires c.expr-p-in_default.ensures,
    )

pub expr-add-requires-in_default : goal.expr-add-requires-in_default
expr-add-requires-in_default t c =
    let f = op_parts _ _ _ _ c.requires.good (omega arith) in
    omega (
      arith,
      parts_room f c.requires c.expr-p-in_default.ensures
          c.expr-q.ensures,
    )

pub expr-returns-in_default : goal.expr-returns-in_default
expr-returns-in_default t c =
    let f = op_parts _ _ _ _ c.requires.good (omega arith) in
    parts_last c.expr-p-in_default.ensures c.expr-q.ensures _ f c.add-in_default.ensures.0 c.add-in_default.ensures.1
    (c.add-in_default.ensures.2 ∙ rw (c.coded-v-in_default.ensures, c.from.ensures) refl)

pub make-bounds-s-at : goal.make-bounds-s-at
make-bounds-s-at t c =
    let make_known' : MakeFacts c.args.ar.now c.args.s.now c.args.depth c.args.at = make_facts _ _ _ _ c.requires.good in
    omega (arith, make_known')

pub make-bounds-ar-i : goal.make-bounds-ar-i
make-bounds-ar-i t c =
    let make_known' : MakeFacts c.args.ar.now c.args.s.now c.args.depth c.args.at = make_facts _ _ _ _ c.requires.good in
    omega (arith, make_known', c.from-i.ensures)

pub make-overflow_add-p : goal.make-overflow_add-p
make-overflow_add-p t c =
    let make_known' : MakeFacts c.args.ar.now c.args.s.now c.args.depth c.args.at = make_facts _ _ _ _ c.requires.good in
    omega (arith, make_known')

pub make-loop-x-init : goal.make-loop-x-init
make-loop-x-init t c =
    let make_known' : MakeFacts c.args.ar.now c.args.s.now c.args.depth c.args.at = make_facts _ _ _ _ c.requires.good in
    let whole : get_or c.args.ar.now c.from-i.result 0 - 0 ≡ get_or c.args.ar.now c.from-i.result 0 = omega arith in
    rw whole (rw c.from-i.ensures (rest_all _ (part_ready make_known'.part c.requires)))

pub make-expr-p-requires : goal.make-expr-p-requires
make-expr-p-requires t c = (omega (arith, c.decreases), args_ready _ _ _ _ c.loop-x.invariant (λ z. omega arith))

pub make-loop-x-preserved : goal.make-loop-x-preserved
make-loop-x-preserved t c =
    let one : get_or c.args.ar.now c.from-i.result 0 - (c.loop-x.x + 1) ≡ get_or c.args.ar.now c.from-i.result 0 - c.loop-x.x - 1 = omega arith in rw one (args_next _ _ _ _ c.loop-x.invariant (λ z. omega arith) c.expr-p.ensures)

pub make-add-requires : goal.make-add-requires
make-add-requires t c =
    let make_known' : MakeFacts c.args.ar.now c.args.s.now c.args.depth c.args.at = make_facts _ _ _ _ c.requires.good in
    let make_args' : Result Exprs = args_at c.args.ar.now c.args.s.now c.args.depth (get_or c.args.ar.now (get_or c.args.s.now c.args.at 0) 0) (c.args.at + 1) in
    let make_written' : Wrote args_words make_args' c.args.out.now c.args.k c.loop-x.p c.loop-x.out = rw c.from-i.ensures at (args_none _ _ _ _ c.loop-x.invariant (omega arith)) in
    omega (arith, part_room make_known'.part c.requires make_written')

pub make-shape_of-out : goal.make-shape_of-out
make-shape_of-out t c = c.add.auto.out ∙ c.loop-x.invariant.kept

pub make-returns : goal.make-returns
make-returns t c =
    let make_known' : MakeFacts c.args.ar.now c.args.s.now c.args.depth c.args.at = make_facts _ _ _ _ c.requires.good in
    let make_args' : Result Exprs = args_at c.args.ar.now c.args.s.now c.args.depth (get_or c.args.ar.now (get_or c.args.s.now c.args.at 0) 0) (c.args.at + 1) in
    let make_written' : Wrote args_words make_args' c.args.out.now c.args.k c.loop-x.p c.loop-x.out = rw c.from-i.ensures at (args_none _ _ _ _ c.loop-x.invariant (omega arith)) in
    part_last _ make_known'.part make_written' c.add.ensures.0 c.add.ensures.1
    (c.add.ensures.2 ∙ rw (c.coded-v.ensures, c.from.ensures) refl)
