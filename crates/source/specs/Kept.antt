-- How a reader answers the bytes of a value that a stream holds, however deep it nests (02 §1, 17: "nesting apart"): with the value and the place behind
-- its bytes, or with 5, a byte that opens one level more (01, 'Program stream').
use Rattle.std.specs.Prelude.{ℕ, List}
use Rattle.program.specs.Reader.{Result, Result.ok, Result.bad, wrong_byte}
use Rattle.program.specs.Exact.{Stands}

-- an answer to the bytes of a, which end before place m
pub data Kept {A : Type 0} (a : A) (m : ℕ) : Result A → Type 0 where
  kept : Kept a m (ok a m)
  too_deep : {p : ℕ} → Kept a m (bad p wrong_byte)

-- r answers so wherever the bytes E of a value stand that C holds of
abbrev pub Keeps : {A : Type 0} → (A → Type 0) → (A → List ℕ) → (List ℕ → ℕ → Result A) → Type 0
Keeps {A} C E r = (s : List ℕ) (a : A) (n m : ℕ) → C a → Stands s n (E a) m → Kept a m (r s n)
