-- `roles::leave` meets its contract.
use Rattle.derive.specs.LeavingLaws.{left_some, left_none}
use Rattle.std.proofs.Common.{set, ap, ◌∙◌}
use Rattle.derive.proofs.roles.leave.Goals as goal
use Rattle.derive.proofs.roles.leave.Goals.{in-Some, in_default}

pub returns : goal.returns
returns c =
    let args = c.args in
    elim c.match-other.branch [
      | in-Some w ↦ ap (λ m. set m args.i args.role) w.kinds-is ∙ left_some args.kinds.now args.i args.last args.role _ w.in-Some.is c.requires.2
      | in_default w ↦ ap (λ m. set m args.i args.role) w.kinds-is ∙ left_none args.kinds.now args.i args.last args.role w.in_default.is
    ]
