-- The parameters of a program as two tables of bytes (01, 'Program stream'): for each struct how many it has, and eight places with
-- the bytes of their types.
use Rattle.std.specs.Prelude.{ℕ, zero, suc, ◌*◌, ◌≤◌, List, [], ◌∷◌, length, get_or}
use Rattle.types.specs.Limits.{max_structs, max_params}
use Rattle.types.specs.Types.{Ty, type_of}

-- the n types whose bytes stand from a place on
unfoldable pub types_from : List ℕ → ℕ → ℕ → List Ty
types_from ts i zero = []
types_from ts i (suc n) = type_of (get_or ts i 0) ∷ types_from ts (suc i) n

-- the parameters of the structs from k on, which have so many
unfoldable pub lists_from : List ℕ → ℕ → List ℕ → List (List Ty)
lists_from ts k [] = []
lists_from ts k (c ∷ cs) = types_from ts (max_params * k) c ∷ lists_from ts (suc k) cs

-- the parameters of all structs
abbrev pub lists_of : List ℕ → List ℕ → List (List Ty)
lists_of cs ts = lists_from ts 0 cs

-- tables of at most 16 structs with at most 8 parameters each
pub record Tables (cs ts : List ℕ) : Type 0 where
  pub few : length cs ≤ max_structs
  pub long : max_params * length cs ≤ length ts
  pub each : (k : ℕ) → get_or cs k 0 ≤ max_params
