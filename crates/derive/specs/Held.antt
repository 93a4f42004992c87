-- How a shape stands in memory: its code, and what is open as the front of a stack of bytes, the last one on top. And the loop over kinds by place.
use Rattle.std.specs.Prelude.{ℕ, zero, suc, ◌≡◌, Bool, true, false, ◌||◌, List, [], ◌∷◌, get_or, take, eqb}
use Rattle.tokens.specs.Marking.{kinds_in}
use Rattle.text_shape.specs.Shape.{Shape, Shape.shape, moves}
use Rattle.text_shape.specs.CodeNames.{first_defs_code, behind_execution_code, behind_item_code}

-- what the front h places of memory hold, the last one first
unfoldable pub held : List ℕ → ℕ → List ℕ
held s zero = []
held s (suc h) = get_or s h 0 ∷ held s h

-- a code and a height with the memory are a shape
pub data Kept (q h : ℕ) (s : List ℕ) : Shape → Type 0 where
  kept : {st : List ℕ} → held s h ≡ st → Kept q h s (shape q st)

-- the shape over the kinds up to a place
unfoldable pub passed : List ℕ → ℕ → Shape
passed ks i = moves (shape first_defs_code []) (kinds_in (take i ks))

-- by code and height
unfoldable pub ends : ℕ → ℕ → Bool
ends q h = elim (eqb h 0) [ true ↦ eqb q behind_execution_code || eqb q behind_item_code | false ↦ false ]
