use Rattle.std.proofs.Common.{◌+◌, ◌*◌, ◌<◌, ◌≤◌, ◌≡◌, ◌∙◌, length}
use Rattle.types.specs.Limits.{step_names}
use Rattle.trace_lines.specs.Parts.{line_most}
use Rattle.trace_images.specs.Telling.{Silent}
use Rattle.trace_images.specs.SettlingWays.{left_at}
use Rattle.trace_images.proofs.telling.settle.Given as goal

abbrev pub invariant-loop-place : goal.invariant-loop-place
invariant-loop-place l =
    (length l.heads ≡ length l.initial.heads)
    × (length l.out ≡ length l.initial.out)
    × Silent l.items l.spans l.initial.next l.initial.heads l.initial.out l.next l.heads l.out
    × (l.next.coming.step < step_names)
    × (l.next.coming.taken ≡ l.initial.next.coming.taken)
    × (l.next.page.from ≡ l.initial.next.page.from)
    × (l.next.page.length + line_most * left_at l.items l.next ≤ l.initial.next.page.length + line_most * left_at l.items l.initial.next)

abbrev pub decreases-loop-place : goal.decreases-loop-place
decreases-loop-place l = left_at l.items l.next
