-- `pass::quiet` meets its contract: what it answers true to leaves the pass as it is.
use Rattle.std.proofs.Common.{arith, ltb-true}
use Rattle.uses.specs.Laws.LoopLaws.{quiet_kind, quiet_part}
use Rattle.text_shape.specs.RoleNames.{body_close_role}
use Rattle.uses.proofs.pass.quiet.Goals as goal

pub returns-in-0-to-36 : goal.returns-in-0-to-36
returns-in-0-to-36 c e = quiet_kind c.args.role (omega arith) (λ f. omega arith)

pub returns-in-63-to-65 : goal.returns-in-63-to-65
returns-in-63-to-65 c e = quiet_part c.args.role (omega arith) (omega arith) (λ f. omega arith) (λ f. omega arith)

pub returns-then-role-gt-NO_ARGS_CLOSE : goal.returns-then-role-gt-NO_ARGS_CLOSE
returns-then-role-gt-NO_ARGS_CLOSE c e =
    let h = c.if-role-gt-NO_ARGS_CLOSE.true in
    quiet_part c.args.role (omega (arith, h)) (ltb-true _ body_close_role e) (λ f. omega (arith, f, h)) (λ f. omega (arith, f, h))
