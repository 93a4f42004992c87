use Rattle.std.proofs.Common.{◌+◌, ◌-◌, ◌*◌, ◌≤◌, ◌≡◌, length}
use Rattle.directory.specs.Rows.{rows_from}
use Rattle.directory.proofs.DirectoryLaws.{sizes}
use Rattle.text.specs.Listing.{Placed}
use Rattle.step_lines.specs.RowLines.{line_most, rows_lines}
use Rattle.step_lines.proofs.program.Given as goal

abbrev pub invariant-loop-i : goal.invariant-loop-i
invariant-loop-i l =
    (l.i ≤ l.n)
    × (length l.out ≡ length l.initial.out)
    × (l.at + line_most * sizes (rows_from l.rows l.i (l.n - l.i)) ≤ length l.initial.out)
    × Placed (rows_lines l.list (rows_from l.rows 0 l.i)) l.initial.out l.k l.at l.out
