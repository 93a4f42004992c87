use Rattle.std.proofs.Common.{◌-◌, ◌*◌, ◌≡◌, length}
use Rattle.types.specs.Limits.{step_names}
use Rattle.compile.specs.Spans.{cleared}
use Rattle.compile.proofs.spans.clear.Given as goal

abbrev pub invariant-loop-i : goal.invariant-loop-i
invariant-loop-i l =
    (length l.spans ≡ length l.initial.spans) × (cleared (step_names * l.n - l.i) (2 * l.i) l.spans ≡ cleared (step_names * l.n) 0 l.initial.spans)
