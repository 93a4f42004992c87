-- The lines of the first i commands are written.
use Rattle.std.proofs.Common.{◌+◌, ◌*◌, ◌≤◌, ◌≡◌, length, take}
use Rattle.text.specs.Listing.{Placed}
use Rattle.step_lines.specs.RowLines.{line_most, word_lines}
use Rattle.step_lines.proofs.step.Given as goal

abbrev pub invariant-loop-i : goal.invariant-loop-i
invariant-loop-i l =
    (length l.out ≡ length l.initial.out)
    × (l.at ≤ l.k + line_most * l.i)
    × Placed (word_lines l.r.structure l.r.name 0 (take l.i l.commands)) l.initial.out l.k l.at l.out
