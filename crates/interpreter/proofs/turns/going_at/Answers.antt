-- `interpreter::turns::going_at` meets its contract: nobody holds commands, no byte is left, or a turn is due.
use Rattle.std.proofs.Common.{◌<◌, sym, ap, not, ◌∙◌, arith}
use Rattle.interpreter.specs.Laws.DueLaws.{none_due, some_due}
use Rattle.interpreter.specs.Laws.GoingLaws.{at_nobody, at_last, at_turn}
use Rattle.interpreter.proofs.turns.going_at.Goals as goal

pub returns-then-not-due : goal.returns-then-not-due
returns-then-not-due c =
    let a = c.args in
    let nobody = none_due a.machine.numbers _ c.due.ensures (ap not c.if-not-due.true) in
    c.resting.ensures ∙ sym (at_nobody a.turns.now a.machine a.taken a.actor nobody)

pub returns-then-turns-taken : goal.returns-then-turns-taken
returns-then-turns-taken c =
    let held' : 0 < c.args.machine.numbers.holding = some_due c.args.machine.numbers _ c.due.ensures (ap not c.if-not-due.false) in
    let a = c.args in
    c.resting-then-turns-taken.ensures ∙ sym (at_last a.turns.now a.machine a.taken a.actor held' c.if-turns-taken.true)

pub nonzero_rem-result : goal.nonzero_rem-result
nonzero_rem-result c =
    let held' : 0 < c.args.machine.numbers.holding = some_due c.args.machine.numbers _ c.due.ensures (ap not c.if-not-due.false) in
    omega (arith, held')

pub returns : goal.returns
returns c =
    let held' : 0 < c.args.machine.numbers.holding = some_due c.args.machine.numbers _ c.due.ensures (ap not c.if-not-due.false) in
    let a = c.args in
    rw c.from-e.ensures (sym (at_turn a.turns.now a.machine a.taken a.actor held' c.if-turns-taken.false))
