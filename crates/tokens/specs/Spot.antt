-- What stands at a place of a text: the kind of a token, or 0 for a gap, with the count of its bytes after the first; nothing where no part of a text begins.
use Rattle.std.specs.Prelude.{ℕ, Option}

abbrev pub Spot : Type 0
Spot = Option (ℕ × ℕ)
