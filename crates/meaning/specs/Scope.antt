-- What names stand for (02 §1): the place of a name among those declared, counted from 0, and what stands there. The first that bears a name is meant;
-- no struct, parameter or local name is declared twice, so that there is no other.
use Rattle.std.specs.Prelude.{ℕ, suc, ◌≡◌, List, [], ◌∷◌}
use Rattle.syntax.specs.Syntax.{Id, TypeName, Par, Par.par, Step, Step.step, Struct, Struct.struct, Defs, Defs.last_struct, Defs.defs}

-- x is the name of a, at a place of a row, and of nothing before it
pub data Found {A : Type 0} (key : A → Id) (x : Id) : ℕ → A → List A → Type 0 where
  here : {a : A} {l : List A} → key a ≡ x → Found key x 0 a (a ∷ l)
  later : {i : ℕ} {a b : A} {l : List A} → (key b ≡ x → ⊥) → Found key x i a l → Found key x (suc i) a (b ∷ l)

-- x is none of the names; no two of the names are one
abbrev pub Absent : Id → List Id → Type 0
Absent x [] = Unit {0}
Absent x (y ∷ l) = (y ≡ x → ⊥) × (Absent x l)

abbrev pub Distinct : List Id → Type 0
Distinct [] = Unit {0}
Distinct (x ∷ l) = (Absent x l) × (Distinct l)

-- two rows, element by element
pub data Each {A B : Type 0} (R : A → B → Type 0) : List A → List B → Type 0 where
  no_more : Each R [] []
  and_then : {a : A} {b : B} {l : List A} {m : List B} → R a b → Each R l m → Each R (a ∷ l) (b ∷ m)

-- Declarations ----------------------------------------------------------------------------

unfoldable pub par_id : Par → Id
par_id (par x t) = x

unfoldable pub par_type : Par → TypeName
par_type (par x t) = t

unfoldable pub step_id : Step → Id
step_id (step x b) = x

unfoldable pub struct_id : Struct → Id
struct_id (struct x ps ts) = x

unfoldable pub pars_of : Struct → List Par
pars_of (struct x ps ts) = ps

unfoldable pub steps_of : Struct → List Step
steps_of (struct x ps ts) = ts

unfoldable pub structs_of : Defs → List Struct
structs_of (last_struct d) = d ∷ []
structs_of (defs d ds) = d ∷ structs_of ds

-- a living local: its name, its number from 0, its type
pub data Local : Type 0 where
  declared : Id → ℕ → TypeName → Local

unfoldable pub local_id : Local → Id
local_id (declared x n t) = x

unfoldable pub local_number : Local → ℕ
local_number (declared x n t) = n

unfoldable pub local_type : Local → TypeName
local_type (declared x n t) = t
