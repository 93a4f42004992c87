-- `moved` meets its contract: one law for each act.
use Rattle.std.proofs.Common.{refl, sym, ap, ◌∙◌, arith, length, length-set}
use Rattle.derive.specs.HeldLaws.{step_go, step_open, step_below, step_stop}
use Rattle.derive.proofs.moved.Goals as goal

pub act_at-requires : goal.act_at-requires
act_at-requires c = c.requires.1

pub below-requires : goal.below-requires
below-requires c = omega arith

pub returns-in-Go : goal.returns-in-Go
returns-in-Go c =
    record { kept = step_go c.args.m.state c.args.k c.args.m.height c.args.stack.now _ (sym c.in-Go.is ∙ c.act_at.ensures ∙ c.requires.2); height_bound = (omega arith, refl) }

pub shape_of-stack-in-Open : goal.shape_of-stack-in-Open
shape_of-stack-in-Open c = ap length c.pushed.ensures.stack_after ∙ simp length-set

pub returns-in-Open : goal.returns-in-Open
returns-in-Open c =
    let state_value = c.pushed.ensures.state_value in
    let stack_after = c.pushed.ensures.stack_after in
    record { kept = step_open c.args.m.state c.args.k c.args.m.height c.args.stack.now _ _ _ (sym c.in-Open.is ∙ c.act_at.ensures ∙ c.requires.2) (omega arith) state_value stack_after; height_bound = (omega (arith, state_value), ap length stack_after ∙ simp length-set) }

pub shape_of-stack-in-Below : goal.shape_of-stack-in-Below
shape_of-stack-in-Below c = c.below.ensures.height_le_h.1

pub returns-in-Below : goal.returns-in-Below
returns-in-Below c =
    let bound = c.below.ensures.height_le_h in record { kept = step_below c.args.m.state c.args.k c.args.m.height c.args.stack.now _ (sym c.in-Below.is ∙ c.act_at.ensures ∙ c.requires.2) c.below.ensures.kept; height_bound = (omega (arith, bound.0), bound.1) }

pub returns-in-Stop : goal.returns-in-Stop
returns-in-Stop c =
    record { kept = step_stop c.args.m.state c.args.k c.args.m.height c.args.stack.now c.args.stack.now (sym c.in-Stop.is ∙ c.act_at.ensures ∙ c.requires.2) c.dead.ensures; height_bound = (omega (arith, c.dead.ensures), refl) }
