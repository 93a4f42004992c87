-- What it is for a reader to refuse exactly what a relation says of the bytes from its place on (01, 11 and 12 of 'Numbers from
-- the input'). The number tells an end from a byte that is not allowed.
use Rattle.std.specs.Prelude.{ℕ, ◌<◌, ◌≡◌, List, ◌++◌, length, drop}
use Rattle.program.specs.Encoding.{flat}
use Rattle.program.specs.Counts.{All}
use Rattle.program.specs.Reader.{Result, Result.ok, Result.bad}

-- what is refused, by its number and the bytes from its place on
abbrev pub Faults : Type 1
Faults = ℕ → List ℕ → Type 0

-- P holds of the number of a refusal
pub data Blames {A : Type 0} (P : ℕ → Type 0) : Result A → Type 0 where
  unblamed : {a : A} {m : ℕ} → Blames P (ok a m)
  blamed : {p k : ℕ} → P k → Blames P (bad p k)

-- r refuses with a number exactly where P holds of it and of the bytes from its place on
pub record Refusing {A : Type 0} (r : List ℕ → ℕ → Result A) (P : Faults) : Type 0 where
  pub sound : (s : List ℕ) (n : ℕ) → Blames (λ k. P k (drop n s)) (r s n)
  pub complete : (s : List ℕ) (n k : ℕ) → P k (drop n s) → (p : ℕ) × (r s n ≡ bad p k)

-- of a thing and another behind it: the first is refused, or it stands there and the second is refused
pub data Joined {A : Type 0} (C : A → Type 0) (E : A → List ℕ) (P : Faults) (R : A → Faults) (k : ℕ) (t : List ℕ)
    : Type 0 where
  in_first : P k t → Joined C E P R k t
  in_second : (a : A) (u : List ℕ) → C a → t ≡ E a ++ u → R a k u → Joined C E P R k t

-- of i things in a row: some stand there, and the next is refused
pub data InRow {A : Type 0} (C : A → Type 0) (E : A → List ℕ) (P : Faults) (i k : ℕ) (t : List ℕ) : Type 0 where
  in_row : (l : List A) (u : List ℕ) → length l < i → All C l → t ≡ flat E l ++ u → P k u → InRow C E P i k t
