use Rattle.std.proofs.Common.{length}
use Rattle.resolve.specs.Named.{names_at}
use Rattle.resolve.specs.Laws.CheckLaws.{Typing}
use Rattle.resolve.proofs.declarations.types.Given as goal

abbrev pub invariant-loop-i : goal.invariant-loop-i
invariant-loop-i l =
    Typing l.text l.roles (names_at l.text l.structs) (length l.structs) l.places l.initial.table l.table l.i
