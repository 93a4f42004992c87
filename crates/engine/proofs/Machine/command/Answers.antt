-- `Machine::command` meets its contract: what the answer makes of the numbers is the state after the command.
use Rattle.std.proofs.Common.{ℕ, arith, sym, subst, get_or}
use Rattle.layout.specs.State.{state_of}
use Rattle.execute.specs.Ready.{Ready}
use Rattle.execute.specs.ReadyLaws.{ready}
use Rattle.engine.specs.StateLaws.{acted}
use Rattle.engine.proofs.Machine.command.Goals as goal

pub perform-acted-requires : goal.perform-acted-requires
perform-acted-requires c =
    let a = c.args in
    subst (λ (at : ℕ). Ready a.counts.now a.heads.now a.cells.now a.l a.self.numbers.count (get_or a.list.now at 0))
    (sym c.head-at.ensures.0)
    (ready a.list.now a.counts.now a.l (state_of a.self.numbers a.heads.now a.cells.now) c.requires.fit)

pub left_holding-requires : goal.left_holding-requires
left_holding-requires c =
    let f = c.requires.fit in
    (omega (arith, c.perform-acted.auto.heads, f.chosen, f.few, f.heads_long), c.requires.holding_nonzero)

pub turned-self-requires : goal.turned-self-requires
turned-self-requires c =
    let f = c.requires.fit in
    omega (arith, f.chosen, f.few)

pub returns : goal.returns
returns c =
    let a = c.args in
    acted a.list.now a.counts.now a.heads.now a.cells.now a.l a.self.numbers c.perform-acted.result
    (rw c.head-at.ensures.0 at c.perform-acted.ensures) c.after-next.ensures c.left_holding.ensures c.turned-self.ensures
