use Rattle.std.proofs.Common.{sym}
use Rattle.number_lines.specs.LineLaws.{sign_none, sign_minus}
use Rattle.number_lines.proofs.sign.Goals as goal

pub returns-then-w-lt-MINUS-clause-text : goal.returns-then-w-lt-MINUS-clause-text
returns-then-w-lt-MINUS-clause-text c = sym (sign_none _ c.if-w-lt-MINUS.true)

pub returns-else-w-lt-MINUS-clause-text : goal.returns-else-w-lt-MINUS-clause-text
returns-else-w-lt-MINUS-clause-text c = sym (sign_minus _ c.if-w-lt-MINUS.false)
