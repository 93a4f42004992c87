use Rattle.std.proofs.Common.{◌≤◌, ◌-◌, ◌≡◌, ◌∙◌}
use Rattle.count_images.specs.Asking.{has_step}
use Rattle.count_images.proofs.has_step.Given as goal

abbrev pub invariant-loop-k : goal.invariant-loop-k
invariant-loop-k l =
    (l.k ≤ l.structs) × (has_step l.spans l.name l.k (l.structs - l.k) ≡ has_step l.spans l.name 0 l.structs)
