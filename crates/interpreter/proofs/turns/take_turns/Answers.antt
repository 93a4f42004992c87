use Rattle.std.proofs.Common.{◌<◌, ◌≤◌, arith}
use Rattle.types.specs.Limits.{max_instances}
use Rattle.interpreter.specs.Laws.GoingLaws.{picks_due, kept_asks, kept_more, kept_less}
use Rattle.interpreter.proofs.turns.take_turns.Goals as goal

pub turn-next-requires : goal.turn-next-requires
turn-next-requires c = kept_asks c.loop-next.invariant c.in-Some.is c.holder-l.ensures

pub bounds-known-l : goal.bounds-known-l
bounds-known-l c =
    let h : c.holder-l.result < c.loop-next.next.machine.numbers.count =
    (kept_asks c.loop-next.invariant c.in-Some.is c.holder-l.ensures).0.chosen in
    let few : c.loop-next.next.machine.numbers.count ≤ max_instances = (c.loop-next.invariant.ready (picks_due c.loop-next.next c.in-Some.is)).begun.ready.stands.few in
    omega arith

pub loop-next-smaller : goal.loop-next-smaller
loop-next-smaller c = kept_less c.loop-next.invariant c.in-Some.is c.holder-l.ensures c.turn-next.ensures

pub loop-next-preserved : goal.loop-next-preserved
loop-next-preserved c = kept_more c.loop-next.invariant c.in-Some.is c.holder-l.ensures c.turn-next.ensures
