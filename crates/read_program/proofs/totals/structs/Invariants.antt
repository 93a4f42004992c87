use Rattle.std.proofs.Common.{◌+◌, ◌-◌, ◌*◌, ◌≤◌, ◌≡◌, length}
use Rattle.types.specs.Limits.{max_steps}
use Rattle.directory.specs.Rows.{rows_from}
use Rattle.read_program.specs.Total.{Low}
use Rattle.read_program.specs.Own.{Led}
use Rattle.read_program.specs.TotalWays.{structs_row}
use Rattle.read_program.proofs.totals.structs.Given as goal

abbrev pub invariant-loop-k : goal.invariant-loop-k
invariant-loop-k l =
    ((length l.rows ≡ length l.initial.rows) × (Low l.all l.next × (l.next ≤ length l.s)) × (l.all.steps + max_steps * (l.n - l.k) ≤ l.initial.all.steps + max_steps * l.n))
    × (structs_row l.ar l.types l.s 0 l.initial.all l.initial.rows l.n l.initial.next ≡ structs_row l.ar l.types l.s l.k l.all l.rows (l.n - l.k) l.next)
    × Led l.k (rows_from l.rows 0 l.all.steps)
