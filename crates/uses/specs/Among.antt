-- Some places of a text, and those among them where roles stand (02 §1): what code has that looks through places once.
use Rattle.std.specs.Prelude.{ℕ, suc, ◌≡◌, Bool, true, false, ◌||◌, List, [], ◌∷◌, map, get_or}
use Rattle.tokens.specs.Tokens.{between}
use Rattle.text_shape.specs.RoleNames.{new_struct_role, new_step_role, first_type_role, last_par_type_role}

-- the bytes of structs, parameters and steps, and of the types of parameters
unfoldable pub declares : ℕ → Bool
declares b = between new_struct_role new_step_role b || between first_type_role last_par_type_role b

-- the places of these bytes, counted from i
unfoldable pub declared_from : ℕ → List ℕ → List ℕ
declared_from i [] = []
declared_from i (b ∷ s) = elim (declares b) [ true ↦ i ∷ declared_from (suc i) s | false ↦ declared_from (suc i) s ]

abbrev pub declared_at : List ℕ → List ℕ
declared_at x = declared_from 0 x

-- every byte from lo to hi is such a one
abbrev pub AllDeclare : ℕ → ℕ → Type 0
AllDeclare lo hi = (b : ℕ) → between lo hi b ≡ true → declares b ≡ true

-- those of some places where bytes from lo to hi stand
unfoldable pub among : ℕ → ℕ → List ℕ → List ℕ → List ℕ
among lo hi x [] = []
among lo hi x (p ∷ at) = elim (between lo hi (get_or x p 0)) [ true ↦ p ∷ among lo hi x at | false ↦ among lo hi x at ]

-- the bytes at some places
unfoldable pub bytes_at : List ℕ → List ℕ → List ℕ
bytes_at x at = map (λ p. get_or x p 0) at
