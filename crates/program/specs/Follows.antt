-- What it is for a reader to follow the fronts of an encoding (01, 4 and 5 of 'Numbers from the input'): it asks for a further byte only
-- where a value goes on with those that are there, and it refuses a byte of a value only where that byte stands too deep.
use Rattle.std.specs.Prelude.{ℕ, suc, ◌+◌, ◌<◌, ◌≤◌, ◌≡◌, List, [], ◌∷◌, length, get_or, drop}
use Rattle.program.specs.Fronts.{Front}
use Rattle.program.specs.Reader.{Result, Result.ok, Result.bad, wrong_end, wrong_byte}
use Rattle.program.specs.Exact.{Stands}

-- each byte of es has its level in ls, and none stands deeper than d
pub data Covers (d : ℕ) : List ℕ → List ℕ → Type 0 where
  covers_none : Covers d [] []
  covers_byte : {x l : ℕ} {es ls : List ℕ} → l ≤ d → Covers d es ls → Covers d (x ∷ es) (l ∷ ls)

-- of the levels ls the one at place j is deeper than d
pub data Deep (d : ℕ) : ℕ → List ℕ → Type 0 where
  deep_here : {l : ℕ} {ls : List ℕ} → d < l → Deep d 0 (l ∷ ls)
  deep_later : {j l : ℕ} {ls : List ℕ} → Deep d j ls → Deep d (suc j) (l ∷ ls)

-- the bytes es of a, which stand from n up to below m at the levels ls, are read as a, or refused at one that is too deep
pub data Met {A : Type 0} (d n : ℕ) (es ls : List ℕ) (a : A) (m : ℕ) : Result A → Type 0 where
  met_whole : Covers d es ls → Met d n es ls a m (ok a m)
  met_deep : {p j : ℕ} → p ≡ n + j → Deep d j ls → Met d n es ls a m (bad p wrong_byte)

-- some value that C holds of goes on with the bytes xs
abbrev pub GoesOn : {A : Type 0} → ℕ → (A → Type 0) → (A → List ℕ) → (A → List ℕ) → List ℕ → Type 0
GoesOn {A} d C E L xs = (a : A) × (C a) × (Front d xs (E a) (L a))

-- r follows the fronts of the values that C holds of, whose bytes E stand at the levels L; `fill` is one of them
pub record Follows {A : Type 0} (d : ℕ) (C : A → Type 0) (E L : A → List ℕ) (r : List ℕ → ℕ → Result A) : Type 0 where
  pub fill : A
  pub fills : C fill
  pub ends : (s : List ℕ) (n : ℕ) → n ≤ length s → r s n ≡ bad (length s) wrong_end → GoesOn d C E L (drop n s)
  pub meets : (s : List ℕ) (a : A) (n m : ℕ) → C a → Stands s n (E a) m → Met d n (E a) (L a) a m (r s n)

-- the same of what r reads behind the byte at a place
pub record FollowsBehind {A : Type 0} (d : ℕ) (C : A → Type 0) (E L : A → List ℕ) (r : List ℕ → ℕ → Result A) : Type 0 where
  pub ends : (s : List ℕ) (n : ℕ) → n < length s → r s n ≡ bad (length s) wrong_end → GoesOn d C E L (drop (n + 1) s)
  pub meets : (s : List ℕ) (a : A) (n m : ℕ) → C a → Stands s (n + 1) (E a) m → Met d (n + 1) (E a) (L a) a m (r s n)

-- a byte that B holds of, behind which r asks for more, begins a value that C holds of
pub record FormEnds {A : Type 0} (d : ℕ) (C : A → Type 0) (E L : A → List ℕ) (B : ℕ → Type 0) (r : List ℕ → ℕ → Result A) : Type 0 where
  pub ends : (s : List ℕ) (n b : ℕ) → n < length s → B b → r s n ≡ bad (length s) wrong_end → GoesOn d C E L (b ∷ drop (n + 1) s)

-- the byte at n opens what q answers of a
abbrev pub Opened : {A : Type 0} → ℕ → List ℕ → (ℕ → Result A) → (A → List ℕ) → (A → List ℕ) → A → ℕ → ℕ → Type 0
Opened d s q E L a n m = (b : ℕ) × (n < length s) × (get_or s n 0 ≡ b) × (Met d n (E a) (L a) a m (q b))
