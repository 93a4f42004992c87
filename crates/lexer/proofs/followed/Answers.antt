-- `followed` meets its contract.
use Rattle.std.proofs.Common.{eq-eqb, ne_eqb, rules}
use Rattle.tokens.specs.Marking.{followed}
use Rattle.lexer.proofs.followed.Goals as goal

pub returns-then-c-d : goal.returns-then-c-d
unfolding followed
returns-then-c-d c = rw (followed, eq-eqb _ _ c.if-c-d.true)

pub returns-else-c-d : goal.returns-else-c-d
unfolding followed
returns-else-c-d c = rw (followed, ne_eqb _ _ c.if-c-d.false) (search rules)
