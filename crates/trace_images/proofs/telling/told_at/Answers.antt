-- `telling::told_at` meets its contract: nobody holds commands, no byte is left, or a turn is due.
use Rattle.std.proofs.Common.{ap, not, sym, ◌∙◌, arith}
use Rattle.trace_images.specs.TellingLaws.{nobody_holds, somebody_holds, at_nobody, at_last, at_turn}
use Rattle.trace_images.proofs.telling.told_at.Goals as goal

pub returns-then-not-due : goal.returns-then-not-due
returns-then-not-due c =
    let a = c.args in
    c.resting.ensures ∙ sym (at_nobody a.turns.now a.s (nobody_holds a.s.coming.machine.numbers c.due.ensures (ap not c.if-not-due.true)))

pub returns-then-turns-taken : goal.returns-then-turns-taken
returns-then-turns-taken c =
    let a = c.args in
    let held = somebody_holds a.s.coming.machine.numbers c.due.ensures (ap not c.if-not-due.false) in
    c.resting-then-turns-taken.ensures ∙ sym (at_last a.turns.now a.s held c.if-turns-taken.true)

pub returns : goal.returns
returns c =
    let a = c.args in
    let held = somebody_holds a.s.coming.machine.numbers c.due.ensures (ap not c.if-not-due.false) in
    sym (at_turn a.turns.now a.s held (omega (arith, c.if-turns-taken.false)))
