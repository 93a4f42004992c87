-- `derived` meets its contract. The loop's invariant: state and stack are the shape over the kinds passed, the stack is no higher than places were passed, and
-- what is left leads to the roles of the whole; a token begins at the next place. The measure is what is left of the kinds.
use Rattle.std.proofs.Common.{◌<◌, ap, ◌∙◌, arith, length}
use Rattle.derive.specs.LoopLaws.{length_left, reached_start, reached_token, reached_gap, reached_end}
use Rattle.derive.proofs.derived.Goals as goal

pub loop-i-init : goal.loop-i-init
loop-i-init c =
    (reached_gap c.first-i.ensures.0 (reached_start c.args.kinds.now c.args.stack.now c.requires), c.first-i.ensures.1)

pub bounds-kinds-i : goal.bounds-kinds-i
bounds-kinds-i c = omega (arith, c.loop-i-test.true)

pub entry-e-requires : goal.entry-e-requires
entry-e-requires c = c.loop-i.invariant.0.code

pub role-role-requires : goal.role-role-requires
role-role-requires c =
    let r = c.loop-i.invariant.0 in
    let e = c.entry-e.ensures in
    (omega (arith, r.low, r.inner, r.fits), e.0, e.2)

pub leave-requires : goal.leave-requires
leave-requires c = (omega (arith, c.loop-i-test.true), omega (arith, c.loop-i.invariant.0, c.loop-i-test.true), c.renamed.ensures.some)

pub moved-m-requires : goal.moved-m-requires
moved-m-requires c =
    let r = c.loop-i.invariant.0 in
    let e = c.entry-e.ensures in
    (omega (arith, r.low, r.fits, r.kept, c.loop-i-test.true), e.0, e.1)

pub overflow_add-i : goal.overflow_add-i
overflow_add-i c =
    omega (arith, c.loop-i-test.true, c.loop-i.invariant.0.kept)

pub next-i-requires : goal.next-i-requires
next-i-requires c = omega (arith, c.loop-i-test.true, ap length c.leave.ensures ∙ length_left _ _ _ _ _)

pub loop-i-smaller : goal.loop-i-smaller
loop-i-smaller c = omega (arith, c.loop-i-test.true, c.loop-i.invariant.0.kept, c.next-i.ensures.0.behind)

pub loop-i-preserved : goal.loop-i-preserved
loop-i-preserved c =
    let inv = c.loop-i.invariant in
    let less : c.loop-i.i < length c.args.kinds.now = omega (arith, c.loop-i-test.true, inv.0.kept) in
    let on =
    reached_token inv.0 less (inv.1 c.loop-i-test.true) c.role-role.ensures c.renamed.ensures.value c.leave.ensures
    c.moved-m.ensures.kept c.moved-m.ensures.height_bound.0 c.moved-m.ensures.height_bound.1 in
    (reached_gap c.next-i.ensures.0 on, c.next-i.ensures.1)

pub shape_of-kinds : goal.shape_of-kinds
shape_of-kinds c = c.loop-i.invariant.0.kept

pub shape_of-stack : goal.shape_of-stack
shape_of-stack c = c.loop-i.invariant.0.room

pub returns : goal.returns
returns c =
    let r = c.loop-i.invariant.0 in
    let e = reached_end r (omega (arith, r.kept, c.loop-i-test.false)) in
    record { value = c.ends.ensures ∙ e.0; kinds_after = e.1 }
