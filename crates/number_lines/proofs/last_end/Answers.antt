use Rattle.number_lines.specs.Lines.{last_end}
use Rattle.number_lines.proofs.last_end.Goals as goal

pub returns-then-begin-clause-text : goal.returns-then-begin-clause-text
unfolding last_end
returns-then-begin-clause-text c = rw c.if-begin.true

pub returns-else-begin-clause-text : goal.returns-else-begin-clause-text
unfolding last_end
returns-else-begin-clause-text c = rw c.if-begin.false
