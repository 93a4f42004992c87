-- Tables of places: where roles stand in a text, by their bytes, in order, stored from the front of a lent table; and tables of rows, which say how many of a
-- role stand before each struct.
use Rattle.std.specs.Prelude.{ℕ, suc, ◌+◌, Bool, true, false, List, [], ◌∷◌, set, eqb}
use Rattle.tokens.specs.Tokens.{between}
use Rattle.text_shape.specs.RoleNames.{new_struct_role}

-- the places of bytes from lo to hi, counted from i
unfoldable pub places_from : ℕ → ℕ → ℕ → List ℕ → List ℕ
places_from lo hi i [] = []
places_from lo hi i (b ∷ s) = elim (between lo hi b) [ true ↦ i ∷ places_from lo hi (suc i) s | false ↦ places_from lo hi (suc i) s ]

abbrev pub places : ℕ → ℕ → List ℕ → List ℕ
places lo hi s = places_from lo hi 0 s

-- a table of n places and their count, with one more place if it is one
unfoldable pub with_place : Bool → List ℕ → ℕ → ℕ → List ℕ
with_place true table n i = set table n i
with_place false table n i = table

unfoldable pub with_one : Bool → ℕ → ℕ
with_one true n = n + 1
with_one false n = n

-- how many bytes q stand before each byte of a struct's name, and in all, where n stood before
unfoldable pub offsets_from : ℕ → ℕ → List ℕ → List ℕ
unfolding with_one
offsets_from q n [] = n ∷ []
offsets_from q n (b ∷ s) =
    elim (eqb b new_struct_role) [ true ↦ n ∷ offsets_from q (with_one (eqb b q) n) s | false ↦ offsets_from q (with_one (eqb b q) n) s ]

abbrev pub offsets : ℕ → List ℕ → List ℕ
offsets q s = offsets_from q 0 s
