use Rattle.std.proofs.Common.{◌+◌, ◌-◌, ◌≤◌, ◌≡◌, ◌∙◌, length}
use Rattle.trace_lines.specs.PartsLaws.{BitsPassed}
use Rattle.trace_lines.proofs.parts.entries.Given as goal

abbrev pub invariant-loop-i : goal.invariant-loop-i
invariant-loop-i l =
    (length l.out ≡ length l.initial.out) × BitsPassed l.n l.s l.initial.out l.initial.at l.out l.at l.left l.i
