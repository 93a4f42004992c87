use Rattle.std.proofs.Common.{◌≤◌, ◌+◌, ◌-◌, ◌*◌, ◌≡◌, length}
use Rattle.std.proofs.lemmas.List.Edits.{sets}
use Rattle.table.specs.Sizes.{most_record}
use Rattle.table_write.specs.Written.{rows_bytes}
use Rattle.table_write.proofs.writing.instances.Given as goal

abbrev pub invariant-loop-l : goal.invariant-loop-l
invariant-loop-l l =
    ((l.l ≤ l.n) × (l.next + most_record * (l.n - l.l) ≤ length l.initial.out) × (length l.out ≡ length l.initial.out))
    × ((l.next + length (rows_bytes l.counts l.heads l.cells l.l (l.n - l.l)) ≡ l.at + length (rows_bytes l.counts l.heads l.cells l.first (l.n - l.first)))
    × (sets l.out l.next (rows_bytes l.counts l.heads l.cells l.l (l.n - l.l)) ≡ sets l.initial.out l.at (rows_bytes l.counts l.heads l.cells l.first (l.n - l.first))))
