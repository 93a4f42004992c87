use Rattle.std.proofs.Common.{◌+◌, ◌-◌, ◌≤◌, ◌≡◌, [], ◌∷◌, length}
use Rattle.program.specs.Reader.{many, read_type}
use Rattle.read_params.specs.ParamsLeft.{RowLeft}
use Rattle.read_params.proofs.row.Given as goal

abbrev pub invariant-loop-i : goal.invariant-loop-i
invariant-loop-i l =
    (l.at ≤ l.next)
    × (l.next ≤ length l.s)
    × (length l.types ≡ length l.initial.types)
    × (RowLeft l.s l.structs (many [] ◌∷◌ (read_type l.s l.structs) l.n l.at) l.room l.place l.initial.types (l.n - l.i) l.next (l.room - l.i) (l.place + l.i) l.types)
