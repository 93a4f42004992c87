-- `step_at` meets its contract.
use Rattle.trace_lines.specs.PartsLaws.{step_started, step_kept}
use Rattle.trace_lines.proofs.step_at.Goals as goal

pub returns-then-item-lt-FIX : goal.returns-then-item-lt-FIX
returns-then-item-lt-FIX c = step_started _ _ c.if-item-lt-FIX.true

pub returns-else-item-lt-FIX : goal.returns-else-item-lt-FIX
returns-else-item-lt-FIX c = step_kept _ _ c.if-item-lt-FIX.false
