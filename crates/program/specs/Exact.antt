-- What it is for a reader to be exact for an encoding (01, 'Program stream' and 4 and 5 of 'Numbers from the input').
use Rattle.std.specs.Prelude.{ℕ, suc, ◌+◌, ◌<◌, ◌≤◌, ◌≡◌, List, [], ◌∷◌, ◌++◌, length, get_or}
use Rattle.program.specs.Reader.{Result, Result.ok, Result.bad, wrong_end, wrong_byte}

-- the bytes xs stand in s from n up to below m
pub data Stands (s : List ℕ) : ℕ → List ℕ → ℕ → Type 0 where
  done : {n : ℕ} → Stands s n [] n
  letter : {n x m : ℕ} {xs : List ℕ} → n < length s → get_or s n 0 ≡ x → Stands s (n + 1) xs m → Stands s n (x ∷ xs) m

-- P holds of the value and the next place, if the answer is no refusal
pub data Told {A : Type 0} (P : A → ℕ → Type 0) : Result A → Type 0 where
  told : {a : A} {m : ℕ} → P a m → Told P (ok a m)
  silent : {p k : ℕ} → Told P (bad p k)

-- an answer that had to go beyond place N, in a stream of M bytes
pub data Beyond {A : Type 0} (N M : ℕ) : Result A → Type 0 where
  value_beyond : {a : A} {m : ℕ} → N < m → m ≤ M → Beyond N M (ok a m)
  refusal_beyond : {p k : ℕ} → N ≤ p → Beyond N M (bad p k)

-- the answers from n on in a stream of N bytes and in a longer one of M: both are alike and lie before the end, or the shorter
-- is refused at its end and the longer goes beyond; what stands behind a byte may refuse that byte, so a refused place from n - 1 on
pub data Cut {A : Type 0} (n N M : ℕ) : Result A → Result A → Type 0 where
  same : {a : A} {m : ℕ} → n ≤ m → m ≤ N → Cut n N M (ok a m) (ok a m)
  stop : {p : ℕ} → n ≤ suc p → p < N → Cut n N M (bad p wrong_byte) (bad p wrong_byte)
  short : {r : Result A} → Beyond N M r → Cut n N M (bad N wrong_end) r

-- of a reader, at every place of a stream; and of one that reads behind the byte at a place
abbrev pub Cuts : {A : Type 0} → (List ℕ → ℕ → Result A) → Type 0
Cuts r = (s t : List ℕ) (n : ℕ) → n ≤ length s → Cut n (length s) (length (s ++ t)) (r s n) (r (s ++ t) n)

abbrev pub CutsBehind : {A : Type 0} → (List ℕ → ℕ → Result A) → Type 0
CutsBehind r = (s t : List ℕ) (n : ℕ) → n < length s → Cut (n + 1) (length s) (length (s ++ t)) (r s n) (r (s ++ t) n)

-- a value from n up to below m that C holds of, whose bytes E stand there
abbrev pub At : {A : Type 0} → (A → Type 0) → (A → List ℕ) → List ℕ → ℕ → A → ℕ → Type 0
At C E s n a m = (C a) × (Stands s n (E a) m)

-- r reads in any stream, at any place, the values that C holds of where their bytes E stand, and nothing else; and it reads a
-- stream that ends early as the longer one, until it asks for the first byte that is not there
pub record Exact {A : Type 0} (C : A → Type 0) (E : A → List ℕ) (r : List ℕ → ℕ → Result A) : Type 0 where
  pub sound : (s : List ℕ) (n : ℕ) → Told (At C E s n) (r s n)
  pub complete : (s : List ℕ) (a : A) (n m : ℕ) → C a → Stands s n (E a) m → r s n ≡ ok a m
  pub cut : Cuts r

-- the same of what r reads behind the byte at a place
pub record Behind {A : Type 0} (C : A → Type 0) (E : A → List ℕ) (r : List ℕ → ℕ → Result A) : Type 0 where
  pub sound : (s : List ℕ) (n : ℕ) → Told (At C E s (n + 1)) (r s n)
  pub complete : (s : List ℕ) (a : A) (n m : ℕ) → C a → Stands s (n + 1) (E a) m → r s n ≡ ok a m
  pub cut : CutsBehind r

-- what r reads behind a byte that B holds of is, with that byte, a value that C holds of
pub record Formed {A : Type 0} (C : A → Type 0) (E : A → List ℕ) (B : ℕ → Type 0) (r : List ℕ → ℕ → Result A) : Type 0 where
  pub sound : (s : List ℕ) (n b : ℕ) → n < length s → get_or s n 0 ≡ b → B b → Told (At C E s n) (r s n)
  pub cut : CutsBehind r

-- a B is a row of As, made of z by c: of i things D i holds, and F i has their bytes
pub record Rowed {A B : Type 0} (z : B) (c : A → B → B) (C : A → Type 0) (E : A → List ℕ) (D : ℕ → B → Type 0) (F : ℕ → B → List ℕ)
    : Type 0 where
  pub nil : D 0 z
  pub cons : (i : ℕ) (a : A) (b : B) → C a → D i b → D (suc i) (c a b)
  pub nil_only : (b : B) → D 0 b → z ≡ b
  pub cons_only : (i : ℕ) (b : B) → D (suc i) b → (a : A) × (l : B) × (C a) × (D i l) × (c a l ≡ b)
  pub nil_bytes : F 0 z ≡ []
  pub cons_bytes : (i : ℕ) (a : A) (b : B) → C a → F (suc i) (c a b) ≡ E a ++ F i b

-- why a whole stream is refused: a byte not allowed; its end, where it ends early; the byte behind a value's, where it goes on
pub data Refused {A : Type 0} (C : A → Type 0) (E : A → List ℕ) (s : List ℕ) : ℕ → ℕ → Type 0 where
  not_allowed : {p : ℕ} → p < length s → Refused C E s p wrong_byte
  ends_early : Refused C E s (length s) wrong_end
  goes_on : (a : A) (b : ℕ) (bs : List ℕ) → C a → s ≡ E a ++ b ∷ bs → Refused C E s (length (E a)) wrong_end
