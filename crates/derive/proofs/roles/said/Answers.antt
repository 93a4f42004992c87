-- `roles::said` meets its contract.
use Rattle.std.proofs.Common.{eq-eqb, ne_eqb}
use Rattle.text_shape.specs.RoleMarks.{said}
use Rattle.derive.proofs.roles.said.Goals as goal

pub returns-then-m-eq-BY_KIND : goal.returns-then-m-eq-BY_KIND
unfolding said
returns-then-m-eq-BY_KIND c = rw (said, eq-eqb _ 95 c.if-m-eq-BY_KIND.true)

pub returns-else-m-eq-BY_KIND : goal.returns-else-m-eq-BY_KIND
unfolding said
returns-else-m-eq-BY_KIND c = rw (said, ne_eqb _ 95 c.if-m-eq-BY_KIND.false)
