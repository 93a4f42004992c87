-- The types of parameters in front of a stream (01, 'Program stream'), from a table of their bytes and the offsets at which each struct's begin.
use Rattle.std.specs.Prelude.{ℕ, ◌+◌, ◌<◌, ◌≤◌, List, [], ◌∷◌, length, get_or}
use Rattle.std.proofs.Math.Seq.{slice}
use Rattle.types.specs.Limits.{max_structs, max_params}
use Rattle.program.specs.Encoding.{enc_list}

-- the parts of a table between offsets in a row
unfoldable pub parts : List ℕ → List ℕ → List (List ℕ)
parts [] l = []
parts (a ∷ []) l = []
parts (a ∷ b ∷ os) l = slice a b l ∷ parts (b ∷ os) l

abbrev pub row_of : List ℕ → List ℕ
row_of l = enc_list (λ t. t ∷ []) l

abbrev pub header : List ℕ → List ℕ → List ℕ
header offsets types = enc_list row_of (parts offsets types)

-- a table of bytes; its offsets: from one up to the next at most so many, inside the table, one more than there are structs
pub record Rows (offsets types : List ℕ) : Type 0 where
  pub some : 0 < length offsets
  pub few : length offsets ≤ max_structs + 1
  pub up : (k : ℕ) → k + 1 < length offsets → get_or offsets k 0 ≤ get_or offsets (k + 1) 0
  pub narrow : (k : ℕ) → k + 1 < length offsets → get_or offsets (k + 1) 0 ≤ get_or offsets k 0 + max_params
  pub inside : (k : ℕ) → k + 1 < length offsets → get_or offsets (k + 1) 0 ≤ length types
  pub bytes : (i : ℕ) → i < length types → get_or types i 0 < 256
