use Rattle.std.proofs.Common.{sym}
use Rattle.number_lines.specs.Lines.{separator}
use Rattle.number_lines.specs.LineLaws.{separator_blank, separator_line}
use Rattle.number_lines.proofs.separator.Goals as goal

pub returns-then-begin-clause-text : goal.returns-then-begin-clause-text
unfolding separator
returns-then-begin-clause-text c = rw c.if-begin.true

pub returns-then-w-lt-FIRST-clause-text : goal.returns-then-w-lt-FIRST-clause-text
returns-then-w-lt-FIRST-clause-text c = rw c.if-begin.false (sym (separator_blank _ c.if-w-lt-FIRST.true))

pub returns-else-w-lt-FIRST-clause-text : goal.returns-else-w-lt-FIRST-clause-text
returns-else-w-lt-FIRST-clause-text c = rw c.if-begin.false (sym (separator_line _ c.if-w-lt-FIRST.false))
