use Rattle.std.proofs.Common.{◌+◌, ◌-◌, ◌≤◌, ◌≡◌, [], ◌∷◌, length}
use Rattle.program.specs.Reader.{many, ranged}
use Rattle.judge.specs.Facts.{lead}
use Rattle.read_exprs.specs.Told.{row_told}
use Rattle.read_exprs.proofs.path.follow.Given as goal

abbrev pub invariant-loop-i : goal.invariant-loop-i
invariant-loop-i l =
    ((l.next ≡ l.at + l.i) × (l.next ≤ length l.s))
    × (row_told (lead l.names.ar.now l.names.types.now l.initial.value) l.c (many [] ◌∷◌ (ranged l.s 0 8) l.n l.initial.next)
    ≡ row_told (lead l.names.ar.now l.names.types.now l.value) (l.c + l.i) (many [] ◌∷◌ (ranged l.s 0 8) (l.n - l.i) l.next))
