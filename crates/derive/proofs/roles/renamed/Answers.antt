-- `roles::renamed` meets its contract: one law for each state and kind.
use Rattle.std.proofs.Common.{arith}
use Rattle.derive.specs.RoleWays.{name_type, name_made, name_kept, id_made, id_kept, step_struct, step_kept, none_waits}
use Rattle.derive.proofs.roles.renamed.Goals as goal

pub returns-in-14-eq36-clause-value : goal.returns-in-14-eq36-clause-value
returns-in-14-eq36-clause-value c = name_type c.in-14-eq36.is-0 c.in-14-eq36.is-1

pub returns-in-14-eq13-clause-value : goal.returns-in-14-eq13-clause-value
returns-in-14-eq13-clause-value c = name_made c.in-14-eq13.is-0 (omega arith) c.in-14-eq13.is-1

pub returns-in-24-eq13-clause-value : goal.returns-in-24-eq13-clause-value
returns-in-24-eq13-clause-value c = id_made c.in-24-eq13.is-0 c.in-24-eq13.is-1

pub returns-in-30-eq21-clause-value : goal.returns-in-30-eq21-clause-value
returns-in-30-eq21-clause-value c = step_struct c.in-30-eq21.is-0 c.in-30-eq21.is-1

pub returns-in_default-clause-value : goal.returns-in_default-clause-value
returns-in_default-clause-value c = name_kept c.in_default.is-0 (omega arith) (omega arith)

pub returns-in_default-2-clause-value : goal.returns-in_default-2-clause-value
returns-in_default-2-clause-value c = id_kept c.in_default.is-0 (omega arith)

pub returns-in_default-3-clause-value : goal.returns-in_default-3-clause-value
returns-in_default-3-clause-value c = step_kept c.in_default.is-0 (omega arith)

pub returns-in_default-4-clause-value : goal.returns-in_default-4-clause-value
returns-in_default-4-clause-value c = none_waits _ _ (omega arith) (omega arith) (omega arith)
