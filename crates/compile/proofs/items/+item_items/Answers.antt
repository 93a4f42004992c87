use Rattle.std.proofs.Common.{◌+◌, ◌-◌, ◌<◌, ◌≡◌, length, get_or, arith}
use Rattle.emit.specs.Laws.PartsLaws.{part_ready, part_same}
use Rattle.compile.specs.WalkLaws.{one_room, one_wrote, item_in, call_one, call_in_one, fix_facts, fix_room, fix_ready, fix_end, fix_wrote}
use Rattle.compile.specs.WalkLaws.{items_part, left_all, left_ready, left_next, left_none}
use Rattle.compile.proofs.items.+item_items.Goals as goal

-- An item: a step of every struct ------------------------------------------------

pub item-bounds-s-at : goal.item-bounds-s-at
item-bounds-s-at t c = item_in _ _ _ c.requires.good

pub item-bounds-s-at-in-1 : goal.item-bounds-s-at-in-1
item-bounds-s-at-in-1 t c = (call_one _ _ _ c.requires.good c.in-1.is).0

pub item-add-requires : goal.item-add-requires
item-add-requires t c = one_room ((call_one _ _ _ c.requires.good c.in-1.is).1 c.args.k) c.requires

pub item-returns-in-1 : goal.item-returns-in-1
item-returns-in-1 t c =
    one_wrote ((call_one _ _ _ c.requires.good c.in-1.is).1 c.args.k) c.from-n.ensures c.add.ensures

-- A step of one struct -----------------------------------------------------------

pub item-bounds-s-at-in-2 : goal.item-bounds-s-at-in-2
item-bounds-s-at-in-2 t c =
    let h : c.args.at + 2 < length c.args.s.now = (call_in_one _ _ _ c.requires.good c.in-2.is).0 in omega arith

pub item-bounds-s-at-in-2-2 : goal.item-bounds-s-at-in-2-2
item-bounds-s-at-in-2-2 t c = (call_in_one _ _ _ c.requires.good c.in-2.is).0

pub item-add-requires-in-2 : goal.item-add-requires-in-2
item-add-requires-in-2 t c = one_room ((call_in_one _ _ _ c.requires.good c.in-2.is).1 c.args.k) c.requires

pub item-returns-in-2 : goal.item-returns-in-2
item-returns-in-2 t c =
    one_wrote ((call_in_one _ _ _ c.requires.good c.in-2.is).1 c.args.k)
    (omega (arith, c.from-j.ensures, c.from-n-in-2.ensures)) c.add-in-2.ensures

-- A Fix --------------------------------------------------------------------------

pub item-bounds-codes-k : goal.item-bounds-codes-k
item-bounds-codes-k t c =
    let f = fix_facts _ _ _ c.requires.good (λ e. omega arith) (λ e. omega arith) in fix_room c.args.s.now f c.requires

pub item-overflow_add-at-in_default : goal.item-overflow_add-at-in_default
item-overflow_add-at-in_default t c = let h : c.args.at < length c.args.s.now = item_in _ _ _ c.requires.good in omega arith

pub item-overflow_sub-depth : goal.item-overflow_sub-depth
item-overflow_sub-depth t c = (fix_facts _ _ _ c.requires.good (λ e. omega arith) (λ e. omega arith)).deep

pub item-items-p-requires : goal.item-items-p-requires
item-items-p-requires t c =
    let f = fix_facts _ _ _ c.requires.good (λ e. omega arith) (λ e. omega arith) in
    (omega (arith, f.deep), fix_ready c.args.s.now f c.requires)

pub item-add-requires-in_default : goal.item-add-requires-in_default
item-add-requires-in_default t c =
    let f = fix_facts _ _ _ c.requires.good (λ e. omega arith) (λ e. omega arith) in
    fix_end c.args.s.now f c.items-p.ensures c.requires

pub item-returns-in_default : goal.item-returns-in_default
item-returns-in_default t c =
    let f = fix_facts _ _ _ c.requires.good (λ e. omega arith) (λ e. omega arith) in
    fix_wrote c.args.s.now f c.items-p.ensures (omega arith) c.add-in_default.ensures

-- Items in a row -----------------------------------------------------------------

pub items-bounds-s-at : goal.items-bounds-s-at
items-bounds-s-at t c = (items_part _ _ _ c.requires.good).0

pub items-overflow_add-p : goal.items-overflow_add-p
items-overflow_add-p t c = let h : c.args.at < length c.args.s.now = (items_part _ _ _ c.requires.good).0 in omega arith

pub items-loop-done-init : goal.items-loop-done-init
items-loop-done-init t c =
    let n = get_or c.args.s.now c.args.at 0 in
    let z : n - 0 ≡ n = omega arith in
    rw z (left_all _ _ _ _ (part_ready ((items_part _ _ _ c.requires.good).1 c.args.k) c.requires))

pub items-item-p-requires : goal.items-item-p-requires
items-item-p-requires t c =
    let some : get_or c.args.s.now c.args.at 0 - c.loop-done._done ≡ 0 → ⊥ = λ e. omega arith in
    (omega arith, left_ready _ _ _ c.loop-done.invariant some)

pub items-loop-done-preserved : goal.items-loop-done-preserved
items-loop-done-preserved t c =
    let n = get_or c.args.s.now c.args.at 0 in
    let some : n - c.loop-done._done ≡ 0 → ⊥ = λ e. omega arith in
    let one : n - c.loop-done._done - 1 ≡ n - (c.loop-done._done + 1) = omega arith in
    rw (← one) (left_next _ _ _ c.loop-done.invariant some c.item-p.ensures)

pub items-returns : goal.items-returns
items-returns t c =
    let none : get_or c.args.s.now c.args.at 0 - c.loop-done._done ≡ 0 = omega arith in
    part_same ((items_part _ _ _ c.requires.good).1 c.args.k) (left_none _ _ _ c.loop-done.invariant none)
