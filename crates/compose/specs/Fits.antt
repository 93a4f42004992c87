-- The loop over the places of a text from its end: a role's byte in the place where its token begins, a literal by the number that stands there; and whether
-- what is written keeps to a stream's counts and to so many bytes.
use Rattle.std.specs.Prelude.{ℕ, suc, Bool, true, false, ◌&&◌, List, [], ◌∷◌, length, eqb, leb, Option, Some, None}
use Rattle.resolve.specs.Digits.{nat_at, int_at}
use Rattle.compose.specs.Writing.{Writing, Writing.writing, put}
use Rattle.tokens.specs.KindNames.{int_kind, nat_kind}

unfoldable pub word_value : Option ℕ → ℕ
word_value (Some n) = n
word_value None = 0

-- the number of a literal at a place, by its role's byte; 0 of any other
unfoldable pub value_at : List ℕ → ℕ → ℕ → ℕ
value_at text i c =
    elim (eqb c int_kind) [ true ↦ word_value (int_at text i) | false ↦ elim (eqb c nat_kind) [ true ↦ word_value (nat_at text i) | false ↦ 0 ] ]

-- of what stands in the places from i on
unfoldable pub writes_at : List ℕ → ℕ → List ℕ → Writing → Writing
writes_at text i [] z = z
writes_at text i (c ∷ cs) z =
    elim (eqb c 0) [ true ↦ writes_at text (suc i) cs z | false ↦ put c (value_at text i c) (writes_at text (suc i) cs z) ]

-- all writings alike whose counts did not keep to what a stream holds
unfoldable pub kept : Writing → Writing
kept (writing s w n l true) = writing s w n l true
kept (writing s w n l false) = writing [] [] [] 0 false

unfoldable pub fits : ℕ → Writing → Bool
fits room (writing s w n l f) = f && leb (length s) room

-- what is written, if it fits
unfoldable pub within : ℕ → Writing → Writing
within room (writing s w n l f) = kept (writing s w n l (f && leb (length s) room))
