use Rattle.std.proofs.Common.{◌-◌, ◌≡◌}
use Rattle.directory.specs.Directory.{find_row}
use Rattle.directory.specs.Rows.{rows_from}
use Rattle.directory.proofs.rows.find.Given as goal

abbrev pub invariant-loop-i : goal.invariant-loop-i
invariant-loop-i l = find_row (rows_from l.rows 0 l.n) l.structure l.name ≡ find_row (rows_from l.rows l.i (l.n - l.i)) l.structure l.name
