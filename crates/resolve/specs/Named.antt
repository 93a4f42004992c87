-- Names where they stand in a text, and the first of a row of names that is the same.
use Rattle.std.specs.Prelude.{ℕ, suc, true, false, List, [], ◌∷◌, map, take, drop, Option}
use Rattle.tokens.specs.Tokens.{name_byte, same}
use Rattle.tokens.specs.Scanning.{span}
use Rattle.std.specs.List.{position}
use Rattle.syntax.specs.Syntax.{Id}

-- the name that bytes begin with; the one at a place of a text; those at some places
unfoldable pub name_of : List ℕ → Id
name_of s = take (span name_byte s) s

abbrev pub name_at : List ℕ → ℕ → Id
name_at text i = name_of (drop i text)

abbrev pub names_at : List ℕ → List ℕ → List Id
names_at text places = map (name_at text) places

-- a byte of a name, 0 for any other
unfoldable pub name_letter : ℕ → ℕ
name_letter b = elim (name_byte b) [ true ↦ b | false ↦ 0 ]

-- where a name is first among others, their count where it is none of them
unfoldable pub sought : Id → List Id → ℕ
sought x [] = 0
sought x (y ∷ l) = elim (same y x) [ true ↦ 0 | false ↦ suc (sought x l) ]

-- the first of some places at which a name stands, if it is one of theirs
abbrev pub found : List ℕ → List ℕ → Id → Option ℕ
found text places x = position (λ p. same (name_at text p) x) places
