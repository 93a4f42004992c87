-- `schedule::advance` meets its contract: a law of each kind of item.
use Rattle.std.proofs.Common.{rules, arith}
use Rattle.scheduler.specs.MoveWays.{item_starts, item_fixes, item_rounds}
use Rattle.scheduler.proofs.schedule.advance.Goals as goal

pub returns-then-c-lt-FIX : goal.returns-then-c-lt-FIX
returns-then-c-lt-FIX c =
    let a = c.args in
    let i = item_starts a.items.now a.spans.now a.heads.now a.numbers c.if-c-lt-FIX.true in
    λ x. rw (c.holding.ensures, c.begin_all.ensures) (i x)

pub fix-requires : goal.fix-requires
fix-requires c =
    let free = c.requires.free c.if-c-eq-FIX.true in
    search rules

pub returns-then-c-eq-FIX : goal.returns-then-c-eq-FIX
returns-then-c-eq-FIX c =
    let a = c.args in
    item_fixes a.items.now a.spans.now a.heads.now a.numbers c.fix.result c.if-c-eq-FIX.true c.fix.ensures

pub overflow_sub-c : goal.overflow_sub-c
overflow_sub-c c = c.requires.item (omega arith)

pub returns : goal.returns
returns c =
    let a = c.args in
    item_rounds a.items.now a.spans.now a.heads.now a.numbers c.round.result c.if-c-lt-FIX.false c.if-c-eq-FIX.false c.round.ensures
