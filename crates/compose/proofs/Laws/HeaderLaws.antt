-- Laws of the types of parameters in front of a stream: a row is its count and its bytes, and a struct's row stands in front of the others'.
use Rattle.std.specs.Prelude.{ℕ, suc, ◌+◌, ◌-◌, ◌<◌, ◌≤◌, ◌≡◌, refl, List, [], ◌∷◌, ◌++◌, length, get_or, drop}
use Rattle.std.proofs.Common.{arith, add-one, sym, ap, ◌∙◌, drop-cons}
use Rattle.std.proofs.Math.Seq.{slice, length-slice, drop-length}
use Rattle.program.specs.Encoding.{flat}
use Rattle.compose.specs.Header.{parts, row_of}

pub singles : (l : List ℕ) → flat (λ t. t ∷ []) l ≡ l
unfolding flat
singles [] = refl
singles (a ∷ l) = ap (λ k. a ∷ k) (singles l)

pub row_is : (a b : ℕ) (l : List ℕ) → b ≤ length l → row_of (slice a b l) ≡ (b - a) ∷ slice a b l
row_is a b l h = both (length-slice a b l h) (singles (slice a b l))
  where
    both : {m n : ℕ} {k j : List ℕ} → m ≡ n → k ≡ j → m ∷ k ≡ n ∷ j
    both e f = cc

-- the rows from k on
abbrev pub rest : List ℕ → List ℕ → ℕ → List ℕ
rest offsets types k = flat row_of (parts (drop k offsets) types)

one_left : (offsets : List ℕ) (k : ℕ) → k + 1 ≡ length offsets → drop k offsets ≡ get_or offsets k 0 ∷ []
one_left offsets k e =
    drop-cons offsets k 0 (omega (arith, e)) ∙ ap (λ l. get_or offsets k 0 ∷ l) (ap (λ n. drop n offsets) (sym (add-one k) ∙ e) ∙ drop-length offsets)

pub none_left : (offsets types : List ℕ) (k : ℕ) → k + 1 ≡ length offsets → rest offsets types k ≡ []
unfolding parts flat
none_left offsets types k e = rw (one_left offsets k e) refl

-- a struct's row in front of the others'
pub parts_on : (offsets types : List ℕ) (k : ℕ) → k + 1 < length offsets
    → rest offsets types k ≡ row_of (slice (get_or offsets k 0) (get_or offsets (k + 1) 0) types) ++ rest offsets types (k + 1)
unfolding parts flat
parts_on offsets types k l =
    let e : drop k offsets ≡ get_or offsets k 0 ∷ drop (suc k) offsets = drop-cons offsets k 0 (omega arith) in
    let f : drop (k + 1) offsets ≡ get_or offsets (k + 1) 0 ∷ drop (suc (k + 1)) offsets = drop-cons offsets (k + 1) 0 l in
    rw (e, ← add-one k, f) refl

-- as many rows as there are offsets, but one
pub parts_count : (offsets types : List ℕ) → length (parts offsets types) ≡ length offsets - 1
unfolding parts
parts_count [] types = refl
parts_count (a ∷ []) types = refl
parts_count (a ∷ b ∷ os) types = let i = parts_count (b ∷ os) types in omega (arith, i)
