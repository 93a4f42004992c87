-- `below` meets its contract: one law for each act.
use Rattle.std.proofs.Common.{refl, sym, ap, ◌∙◌, arith, length, length-set}
use Rattle.derive.specs.HeldLaws.{below_none, below_go, below_open, below_below, below_stop}
use mathlib.Core.Logic.{inl, inr}
use Rattle.derive.proofs.below.Goals as goal

pub returns-then-h-eq0 : goal.returns-then-h-eq0
returns-then-h-eq0 c =
    let args = c.args in record { kept = below_none args.k args.h args.stack.now args.stack.now c.if-h-eq0.true c.dead.ensures; height_le_h = (omega (arith, c.dead.ensures), refl) }

pub act_at-requires : goal.act_at-requires
act_at-requires c = c.index.ensures.0

pub pushed-requires : goal.pushed-requires
pushed-requires c = omega (arith, c.if-h-eq0.false)

pub returns-in-Go : goal.returns-in-Go
returns-in-Go c =
    let some = c.if-h-eq0.false in
    let args = c.args in record { kept = below_go args.k args.h args.stack.now some _ (sym c.in-Go.is ∙ c.act_at.ensures ∙ c.index.ensures.1); height_le_h = (omega (arith, some), refl) }

pub shape_of-stack : goal.shape_of-stack
shape_of-stack c = ap length c.pushed.ensures.stack_after ∙ simp length-set

pub returns-in-Open : goal.returns-in-Open
returns-in-Open c =
    let some = c.if-h-eq0.false in
    let state_value = c.pushed.ensures.state_value in
    let stack_after = c.pushed.ensures.stack_after in
    let args = c.args in record { kept = below_open args.k args.h args.stack.now some _ _ _ (sym c.in-Open.is ∙ c.act_at.ensures ∙ c.index.ensures.1) (omega arith) state_value stack_after; height_le_h = (omega (arith, state_value, some), ap length stack_after ∙ simp length-set) }

pub returns-in-Below : goal.returns-in-Below
returns-in-Below c =
    let args = c.args in
    let some = c.if-h-eq0.false in
    record {
      kept = elim c.in-Below.is [
        | inl e ↦ below_below args.k args.h args.stack.now some args.stack.now (sym e ∙ c.act_at.ensures ∙ c.index.ensures.1) c.dead-in-Below.ensures
        | inr e ↦ below_stop args.k args.h args.stack.now some args.stack.now (sym e ∙ c.act_at.ensures ∙ c.index.ensures.1) c.dead-in-Below.ensures
      ];
      height_le_h = (omega (arith, c.dead-in-Below.ensures), refl);
    }
