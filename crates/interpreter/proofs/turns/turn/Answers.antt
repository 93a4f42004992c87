-- `interpreter::turns::turn` meets its contract: the command is refused, or the run goes on behind it.
use Rattle.std.proofs.Common.{◌+◌, sym, ap, ◌∙◌, Bool, arith}
use Rattle.layout.specs.Layout.{holds}
use Rattle.interpreter.specs.Going.{going_at}
use Rattle.interpreter.specs.Laws.GoingLaws.{behind_refused, behind_taken}
use Rattle.interpreter.proofs.turns.turn.Goals as goal

pub returns-then-number-ne0 : goal.returns-then-number-ne0
returns-then-number-ne0 c =
    let a = c.args in
    record {
      machine = c.command-machine.result;
      acted = c.command-machine.ensures;
      goes =
          c.resting.ensures ∙ sym (behind_refused a.turns.now a.s c.command-machine.result (holds c.command-machine.new.heads a.l)
          c.if-number-ne0.true);
    }

pub overflow_add-s : goal.overflow_add-s
overflow_add-s c = omega (arith, c.requires.2)

pub returns : goal.returns
returns c =
    let a = c.args in
    let es = a.turns.now in
    let m = c.command-machine.result in
    record {
      machine = m;
      acted = c.command-machine.ensures;
      goes =
          c.going_at.ensures ∙ ap (λ (t : Bool). going_at es m (a.s.taken + 1) (record { holds = t })) c.holds-holds.ensures
          ∙ sym (behind_taken es a.s m (holds c.command-machine.new.heads a.l) c.if-number-ne0.false);
    }
