-- What the pass over uses is answered: what a name stands for, and what one place does to where the pass stands.
use Rattle.std.specs.Prelude.{ℕ, Option, Some, None}
use Rattle.uses.specs.declared.Scope.{Scope}

-- the word of a literal, if it is of its type
abbrev pub Word : Type 0
Word = Option ℕ

-- the number of what a name stands for and the byte of a type, if it stands for something
abbrev pub Seen : Type 0
Seen = Option (ℕ × ℕ)

-- where the pass stands behind a place, and the number that is left there, if one is; or none, where 17 holds
abbrev pub Passed : Type 0
Passed = Option (Scope × Option ℕ)

-- the pass goes on; it leaves a number and goes on
abbrev pub onward : Scope → Passed
onward c = Some (c, None)

abbrev pub leaves : Scope → ℕ → Passed
leaves c n = Some (c, Some n)
