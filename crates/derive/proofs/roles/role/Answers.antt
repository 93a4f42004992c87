-- `roles::role` meets its contract: one law for each way.
use Rattle.std.proofs.Common.{ap, ◌∙◌}
use Rattle.text_shape.specs.RoleMarks.{said}
use Rattle.derive.specs.RoleWays.{role_own, role_none, role_top}
use Rattle.derive.proofs.roles.role.Goals as goal

pub returns-then-b-ne-BY_OPENED : goal.returns-then-b-ne-BY_OPENED
returns-then-b-ne-BY_OPENED c =
    c.said.ensures ∙ role_own c.args.m.state c.args.k c.args.m.height c.args.stack.now (c.mark_at-b.ensures ∙ c.requires.2) c.if-b-ne-BY_OPENED.true

pub returns-then-m-eq0 : goal.returns-then-m-eq0
returns-then-m-eq0 c =
    role_none c.args.m.state c.args.k c.args.m.height c.args.stack.now (c.mark_at-b.ensures ∙ c.requires.2) c.if-b-ne-BY_OPENED.false c.if-m-eq0.true

pub returns-else-m-eq0 : goal.returns-else-m-eq0
returns-else-m-eq0 c =
    c.said-else-m-eq0.ensures ∙ ap (λ b. said b c.args.k) (c.mark_at.ensures ∙ c.index.ensures.2)
    ∙ role_top c.args.m.state c.args.k c.args.m.height c.args.stack.now (c.mark_at-b.ensures ∙ c.requires.2) c.if-b-ne-BY_OPENED.false c.if-m-eq0.false
