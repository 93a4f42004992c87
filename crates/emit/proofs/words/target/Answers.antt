-- `emit::words::target` meets its contract: push this, the reads of all but the last, the write of the last.
use Rattle.std.proofs.Common.{length, get_or, ◌+◌, ◌≤◌, arith, refl}
use Rattle.emit.specs.Laws.PathLaws.{path_facts, target_room, target_wrote, PathFacts}
use Rattle.emit.proofs.words.target.Goals as goal

pub bounds-s-at : goal.bounds-s-at
bounds-s-at c =
    let known' : PathFacts c.args.s.now c.args.at (get_or c.args.s.now c.args.at 0) = path_facts _ _ c.requires.good in
    omega (arith, known')

pub store-requires : goal.store-requires
store-requires c =
    let known' : PathFacts c.args.s.now c.args.at (get_or c.args.s.now c.args.at 0) = path_facts _ _ c.requires.good in
    let room' : c.args.k + 1 + get_or c.args.s.now c.args.at 0 ≤ length c.args.out.now = target_room _ _ _ _ c.requires in
    omega (arith, known', room')

pub overflow_add-at : goal.overflow_add-at
overflow_add-at c =
    let known' : PathFacts c.args.s.now c.args.at (get_or c.args.s.now c.args.at 0) = path_facts _ _ c.requires.good in
    let room' : c.args.k + 1 + get_or c.args.s.now c.args.at 0 ≤ length c.args.out.now = target_room _ _ _ _ c.requires in
    omega (arith, known', room')

pub overflow_sub-n : goal.overflow_sub-n
overflow_sub-n c =
    let known' : PathFacts c.args.s.now c.args.at (get_or c.args.s.now c.args.at 0) = path_facts _ _ c.requires.good in
    let room' : c.args.k + 1 + get_or c.args.s.now c.args.at 0 ≤ length c.args.out.now = target_room _ _ _ _ c.requires in
    omega (arith, known', room')

pub reads-p-requires : goal.reads-p-requires
reads-p-requires c =
    let known' : PathFacts c.args.s.now c.args.at (get_or c.args.s.now c.args.at 0) = path_facts _ _ c.requires.good in
    let room' : c.args.k + 1 + get_or c.args.s.now c.args.at 0 ≤ length c.args.out.now = target_room _ _ _ _ c.requires in
    let f = known' in let h = room' in (omega arith, omega (arith, c.store.auto.out))

pub bounds-s-last : goal.bounds-s-last
bounds-s-last c =
    let known' : PathFacts c.args.s.now c.args.at (get_or c.args.s.now c.args.at 0) = path_facts _ _ c.requires.good in
    let room' : c.args.k + 1 + get_or c.args.s.now c.args.at 0 ≤ length c.args.out.now = target_room _ _ _ _ c.requires in
    omega (arith, known', room', c.store.auto.out, c.reads-p.ensures.0, c.reads-p.ensures.1, c.reads-p.auto.out)

pub store-requires-2 : goal.store-requires-2
store-requires-2 c =
    let known' : PathFacts c.args.s.now c.args.at (get_or c.args.s.now c.args.at 0) = path_facts _ _ c.requires.good in
    let room' : c.args.k + 1 + get_or c.args.s.now c.args.at 0 ≤ length c.args.out.now = target_room _ _ _ _ c.requires in
    omega (arith, known', room', c.store.auto.out, c.reads-p.ensures.0, c.reads-p.ensures.1, c.reads-p.auto.out)

pub overflow_add-result : goal.overflow_add-result
overflow_add-result c =
    let known' : PathFacts c.args.s.now c.args.at (get_or c.args.s.now c.args.at 0) = path_facts _ _ c.requires.good in
    let room' : c.args.k + 1 + get_or c.args.s.now c.args.at 0 ≤ length c.args.out.now = target_room _ _ _ _ c.requires in
    omega (arith, known', room', c.store.auto.out, c.reads-p.ensures.0, c.reads-p.ensures.1, c.reads-p.auto.out)

pub overflow_add-result-2 : goal.overflow_add-result-2
overflow_add-result-2 c =
    let known' : PathFacts c.args.s.now c.args.at (get_or c.args.s.now c.args.at 0) = path_facts _ _ c.requires.good in
    let room' : c.args.k + 1 + get_or c.args.s.now c.args.at 0 ≤ length c.args.out.now = target_room _ _ _ _ c.requires in
    omega (
      arith,
      known',
      room',
      c.store.auto.out,
      c.reads-p.ensures.0,
      c.reads-p.ensures.1,
      c.reads-p.auto.out,
    )

pub returns : goal.returns
returns c =
    let a = c.args in
    target_wrote a.s.now a.at a.k a.out.now c.requires.good c.coded-v.ensures c.store.ensures
    c.reads-p.ensures c.from.ensures c.coded-w.ensures c.store-2.ensures refl refl
