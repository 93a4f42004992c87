use Rattle.std.proofs.Common.{◌≤◌, ◌-◌, ◌≡◌, length}
use Rattle.std.proofs.lemmas.List.Edits.{sets}
use Rattle.table_write.specs.Written.{cells_bytes}
use Rattle.table_write.specs.WrittenWays.{cells_left}
use Rattle.table_write.proofs.writing.values.Given as goal

abbrev pub invariant-loop-x : goal.invariant-loop-x
invariant-loop-x l =
    ((l.x ≤ l.m) × (length l.out ≡ length l.initial.out)) × (cells_left l.at l.cells l.place l.m l.out l.x ≡ sets l.initial.out l.at (cells_bytes l.cells l.place l.m))
