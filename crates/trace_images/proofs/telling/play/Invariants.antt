use Rattle.std.proofs.Common.{ℕ, ◌+◌, ◌*◌, ◌<◌, ◌≤◌, ◌≡◌, ◌∙◌, List, length, take}
use Rattle.std.proofs.Math.Option.{Option}
use Rattle.types.specs.Limits.{step_names}
use Rattle.program.specs.Tree.{Program}
use Rattle.machine.specs.Machine.{Machine}
use Rattle.trace_images.specs.Telling.{told_most}
use Rattle.trace_images.specs.PlayWays.{turns_left, Goes}
use Rattle.trace_images.proofs.telling.play.Given as goal

abbrev pub invariant-loop-next : goal.invariant-loop-next
invariant-loop-next l =
    (length l.heads ≡ length l.initial.heads)
    × (length l.cells ≡ length l.initial.cells)
    × (length l.out ≡ length l.initial.out)
    × (l.next.coming.step < step_names)
    × (l.next.page.length ≤ told_most * (l.next.coming.taken + 1))
    × (l.next.page.from ≡ l.initial.next.page.from)
    × ((lent : Option (List ℕ)) (p : Program) (m : Machine) → Goes lent p m l.turns l.cs l.list l.items l.spans l.initial.next l.initial.heads l.initial.cells l.initial.out
    → Goes lent p m l.turns l.cs l.list l.items l.spans l.next l.heads l.cells l.out)

abbrev pub decreases-loop-next : goal.decreases-loop-next
decreases-loop-next l = turns_left l.turns l.next
