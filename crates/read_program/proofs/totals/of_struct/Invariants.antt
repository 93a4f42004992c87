use Rattle.std.proofs.Common.{◌+◌, ◌-◌, ◌≤◌, ◌≡◌, length}
use Rattle.types.specs.Limits.{max_steps}
use Rattle.directory.specs.Rows.{rows_from}
use Rattle.read_program.specs.Total.{Low}
use Rattle.read_program.specs.Own.{Led}
use Rattle.read_program.specs.TotalWays.{steps_row}
use Rattle.read_program.proofs.totals.of_struct.Given as goal

abbrev pub invariant-loop-i : goal.invariant-loop-i
invariant-loop-i l =
    ((length l.rows ≡ length l.initial.rows) × (Low l.all l.next × (l.next ≤ length l.s)) × (l.all.steps + (l.n - l.i) ≤ l.initial.all.steps + max_steps))
    × (steps_row l.ar l.types l.s l.k l.initial.all l.initial.rows l.n l.initial.next ≡ steps_row l.ar l.types l.s l.k l.all l.rows (l.n - l.i) l.next)
    × Led l.k (rows_from l.rows 0 l.all.steps)
