-- `emit::stmts` meets its contracts, a law for each kind. The measure goes by the levels of if, with a body, a block and an if above its
-- statements. The invariant of the loop over these: once those that are left are written, all are.
use Rattle.std.proofs.Common.{◌+◌, ◌-◌, ◌≡◌, get_or, length, ◌<◌, arith, ◌∙◌}
use Rattle.emit.specs.Written.{Ready, body_words, body_at as body-from}
use Rattle.emit.specs.Laws.WrittenLaws.{placed_kept}
use Rattle.emit.specs.Laws.PartsLaws.{part_ready, part_same, parts_ready, parts_next, parts_same, rest_all}
use Rattle.emit.specs.Laws.StmtLaws.{block_ready, block_wrote, body_facts, BodyFacts, when_parts, stmts_ready, stmts_next, stmts_none, stmt_in}
use Rattle.emit.specs.Laws.StmtLaws.{when_part, declare_part}
use Rattle.emit.specs.Laws.StmtLaws.{updated_part, create_part}
use Rattle.emit.proofs.stmts.+block_body_stmt_when.Goals as goal

pub block-overflow_add-k : goal.block-overflow_add-k
block-overflow_add-k t c =
    let block_known' : (c.args.k < length c.args.out.now) × (Ready body_words (body-from c.args.ar.now c.args.s.now c.args.depth c.args.at) c.args.out.now (c.args.k + 1)) = block_ready _ c.requires.good c.requires in
    omega (arith, block_known')

pub block-body-p-requires : goal.block-body-p-requires
block-body-p-requires t c =
    let block_known' : (c.args.k < length c.args.out.now) × (Ready body_words (body-from c.args.ar.now c.args.s.now c.args.depth c.args.at) c.args.out.now (c.args.k + 1)) = block_ready _ c.requires.good c.requires in
    (omega (arith, c.decreases), block_known'.1)

pub block-overflow_sub-n : goal.block-overflow_sub-n
block-overflow_sub-n t c =
    let block_known' : (c.args.k < length c.args.out.now) × (Ready body_words (body-from c.args.ar.now c.args.s.now c.args.depth c.args.at) c.args.out.now (c.args.k + 1)) = block_ready _ c.requires.good c.requires in
    omega
    (arith, block_known', c.body-p.ensures.at, placed_kept c.body-p.ensures)

pub block-overflow_sub-n-2 : goal.block-overflow_sub-n-2
block-overflow_sub-n-2 t c =
    let block_known' : (c.args.k < length c.args.out.now) × (Ready body_words (body-from c.args.ar.now c.args.s.now c.args.depth c.args.at) c.args.out.now (c.args.k + 1)) = block_ready _ c.requires.good c.requires in
    omega
    (arith, block_known', c.body-p.ensures.at, placed_kept c.body-p.ensures)

pub block-coded-v-requires : goal.block-coded-v-requires
block-coded-v-requires t c =
    let block_known' : (c.args.k < length c.args.out.now) × (Ready body_words (body-from c.args.ar.now c.args.s.now c.args.depth c.args.at) c.args.out.now (c.args.k + 1)) = block_ready _ c.requires.good c.requires in
    let b = block_known' in
    (omega arith, omega (arith, c.body-p.ensures.at, b.1.few))

pub block-store-requires : goal.block-store-requires
block-store-requires t c =
    let block_known' : (c.args.k < length c.args.out.now) × (Ready body_words (body-from c.args.ar.now c.args.s.now c.args.depth c.args.at) c.args.out.now (c.args.k + 1)) = block_ready _ c.requires.good c.requires in
    omega
    (arith, block_known', c.body-p.ensures.at, placed_kept c.body-p.ensures)

pub block-shape_of-out : goal.block-shape_of-out
block-shape_of-out t c = c.store.auto.out ∙ placed_kept c.body-p.ensures

pub block-returns : goal.block-returns
block-returns t c = block_wrote _ c.requires.good c.body-p.ensures c.coded-v.ensures c.store.ensures

pub body-bounds-s-at : goal.body-bounds-s-at
body-bounds-s-at t c =
    let body_known' : BodyFacts c.args.ar.now c.args.s.now c.args.depth c.args.at = body_facts _ _ _ _ c.requires.good in
    omega (arith, body_known')

pub body-overflow_add-p : goal.body-overflow_add-p
body-overflow_add-p t c =
    let body_known' : BodyFacts c.args.ar.now c.args.s.now c.args.depth c.args.at = body_facts _ _ _ _ c.requires.good in
    omega (arith, body_known')

pub body-loop-x-init : goal.body-loop-x-init
body-loop-x-init t c =
    let whole : get_or c.args.s.now c.args.at 0 - 0 ≡ get_or c.args.s.now c.args.at 0 = omega arith in rw whole (let body_known' : BodyFacts c.args.ar.now c.args.s.now c.args.depth c.args.at = body_facts _ _ _ _ c.requires.good in
    rest_all _ (part_ready body_known'.part c.requires))

pub body-stmt-p-requires : goal.body-stmt-p-requires
body-stmt-p-requires t c = (omega (arith, c.decreases), stmts_ready _ _ _ _ c.loop-x.invariant (λ z. omega arith))

pub body-loop-x-preserved : goal.body-loop-x-preserved
body-loop-x-preserved t c =
    let one : get_or c.args.s.now c.args.at 0 - (c.loop-x.x + 1) ≡ get_or c.args.s.now c.args.at 0 - c.loop-x.x - 1 = omega arith in rw one (stmts_next _ _ _ _ c.loop-x.invariant (λ z. omega arith) c.stmt-p.ensures)

pub body-shape_of-out : goal.body-shape_of-out
body-shape_of-out t c = c.loop-x.invariant.kept

pub body-returns : goal.body-returns
body-returns t c =
    let body_known' : BodyFacts c.args.ar.now c.args.s.now c.args.depth c.args.at = body_facts _ _ _ _ c.requires.good in
    part_same body_known'.part (stmts_none _ _ _ _ c.loop-x.invariant (omega arith))

pub stmt-bounds-s-at : goal.stmt-bounds-s-at
stmt-bounds-s-at t c = omega (arith, stmt_in _ _ _ _ c.requires.good)

pub stmt-overflow_add-at : goal.stmt-overflow_add-at
stmt-overflow_add-at t c = omega (arith, stmt_in _ _ _ _ c.requires.good)

pub stmt-overflow_sub-depth : goal.stmt-overflow_sub-depth
stmt-overflow_sub-depth t c =
    let w = when_part _ _ _ _ c.requires.good c.in-1.is in
    omega (arith, w.0)

pub stmt-when-requires : goal.stmt-when-requires
stmt-when-requires t c =
    let w = when_part _ _ _ _ c.requires.good c.in-1.is in
    (omega (arith, c.decreases, w.0), part_ready w.1 c.requires)

pub stmt-returns-in-1 : goal.stmt-returns-in-1
stmt-returns-in-1 t c = part_same (when_part _ _ _ _ c.requires.good c.in-1.is).1 c.when.ensures

pub stmt-overflow_add-at-in-2 : goal.stmt-overflow_add-at-in-2
stmt-overflow_add-at-in-2 t c = omega (arith, stmt_in _ _ _ _ c.requires.good)

pub stmt-declare-requires : goal.stmt-declare-requires
stmt-declare-requires t c = part_ready (declare_part _ _ _ _ c.requires.good c.in-2.is) c.requires

pub stmt-returns-in-2 : goal.stmt-returns-in-2
stmt-returns-in-2 t c = part_same (declare_part _ _ _ _ c.requires.good c.in-2.is) c.declare.ensures

pub stmt-overflow_add-at-in-3 : goal.stmt-overflow_add-at-in-3
stmt-overflow_add-at-in-3 t c = omega (arith, stmt_in _ _ _ _ c.requires.good)

pub stmt-update-requires : goal.stmt-update-requires
stmt-update-requires t c = part_ready (updated_part _ _ _ _ c.requires.good c.in-3.is) c.requires

pub stmt-returns-in-3 : goal.stmt-returns-in-3
stmt-returns-in-3 t c = part_same (updated_part _ _ _ _ c.requires.good c.in-3.is) c.update.ensures

pub stmt-overflow_add-at-in_default : goal.stmt-overflow_add-at-in_default
stmt-overflow_add-at-in_default t c = omega (arith, stmt_in _ _ _ _ c.requires.good)

pub stmt-make-requires : goal.stmt-make-requires
stmt-make-requires t c =
    part_ready (create_part _ _ _ _ c.requires.good (omega arith) (omega arith) (omega arith))
    c.requires

pub stmt-returns-in_default : goal.stmt-returns-in_default
stmt-returns-in_default t c =
    part_same (create_part _ _ _ _ c.requires.good (omega arith) (omega arith) (omega arith))
    c.make.ensures

pub when-expr-p-requires : goal.when-expr-p-requires
when-expr-p-requires t c = parts_ready (when_parts _ _ _ _ c.requires.good) c.requires

pub when-block-requires : goal.when-block-requires
when-block-requires t c = (
  omega (arith, c.decreases),
  parts_next (when_parts _ _ _ _ c.requires.good) c.requires c.expr-p.ensures,
)

pub when-shape_of-out : goal.when-shape_of-out
when-shape_of-out t c = placed_kept c.block.ensures ∙ placed_kept c.expr-p.ensures

pub when-returns : goal.when-returns
when-returns t c = parts_same c.expr-p.ensures c.block.ensures (when_parts _ _ _ _ c.requires.good)
