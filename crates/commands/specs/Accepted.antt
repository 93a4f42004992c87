-- An accepted program (01, 'Program stream', and numbers 6 to 8).
use Rattle.program.specs.Tree.{Program}
use Rattle.program.specs.Counts.{Counts}
use Rattle.commands.specs.Bounds.{Within}
use Rattle.commands.specs.Names.{NamesRight}
use Rattle.commands.specs.Typing.{TypesRight}

-- within the counts and the limits, with right names and right types
abbrev pub Accepted : Program → Type 0
Accepted p = (Counts p) × (Within p) × (NamesRight p) × (TypesRight p)
