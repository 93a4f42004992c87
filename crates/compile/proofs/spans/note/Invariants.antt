use Rattle.std.proofs.Common.{◌-◌, ◌≡◌, length}
use Rattle.directory.specs.Rows.{rows_from}
use Rattle.compile.specs.Spans.{noted}
use Rattle.compile.proofs.spans.note.Given as goal

abbrev pub invariant-loop-i : goal.invariant-loop-i
invariant-loop-i l =
    (length l.spans ≡ length l.initial.spans) × (l.spans ≡ noted (rows_from l.rows l.i (l.n - l.i)) l.initial.spans)
