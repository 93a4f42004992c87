-- `emit::words::path` meets its contract: push this before the reads.
use Rattle.std.proofs.Common.{length, get_or, ◌+◌, ◌≤◌, arith}
use Rattle.emit.specs.Laws.PathLaws.{path_facts, path_room, path_wrote, PathFacts}
use Rattle.emit.proofs.words.path.Goals as goal

pub bounds-s-at : goal.bounds-s-at
bounds-s-at c =
    let known' : PathFacts c.args.s.now c.args.at (get_or c.args.s.now c.args.at 0) = path_facts _ _ c.requires.good in
    omega (arith, known')

pub store-requires : goal.store-requires
store-requires c =
    let known' : PathFacts c.args.s.now c.args.at (get_or c.args.s.now c.args.at 0) = path_facts _ _ c.requires.good in
    let room' : c.args.k + 1 + get_or c.args.s.now c.args.at 0 ≤ length c.args.out.now = path_room _ _ _ _ c.requires in
    omega (arith, known', room')

pub overflow_add-at : goal.overflow_add-at
overflow_add-at c =
    let known' : PathFacts c.args.s.now c.args.at (get_or c.args.s.now c.args.at 0) = path_facts _ _ c.requires.good in
    let room' : c.args.k + 1 + get_or c.args.s.now c.args.at 0 ≤ length c.args.out.now = path_room _ _ _ _ c.requires in
    omega (arith, known', room')

pub reads-requires : goal.reads-requires
reads-requires c =
    let known' : PathFacts c.args.s.now c.args.at (get_or c.args.s.now c.args.at 0) = path_facts _ _ c.requires.good in
    let room' : c.args.k + 1 + get_or c.args.s.now c.args.at 0 ≤ length c.args.out.now = path_room _ _ _ _ c.requires in
    let f = known' in let h = room' in (omega arith, omega (arith, c.store.auto.out))

pub returns : goal.returns
returns c =
    let a = c.args in
    path_wrote a.s.now a.at a.k a.out.now c.requires.good c.coded-v.ensures c.store.ensures
    c.reads.ensures
