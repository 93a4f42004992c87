-- `left_holding` meets its contract, by whether the actor still holds commands.
use Rattle.std.proofs.Common.{sym, ◌∙◌}
use Rattle.engine.specs.StateLaws.{actor_holds, actor_ended}
use Rattle.engine.proofs.left_holding.Goals as goal

pub returns-then-holds : goal.returns-then-holds
returns-then-holds c =
    let a = c.args in
    actor_holds a.heads.now a.l a.n (sym c.holds.ensures ∙ c.if-holds.true)

pub returns-else-holds : goal.returns-else-holds
returns-else-holds c =
    let a = c.args in
    actor_ended a.heads.now a.l a.n (sym c.holds.ensures ∙ c.if-holds.false)
