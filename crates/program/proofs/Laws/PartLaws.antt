-- The readers that the others are made of are exact, or carry exactness on (01, 'Program stream').
use Rattle.std.specs.Prelude.{ℕ, ◌+◌, ◌<◌, ◌≤◌, ◌≡◌, get_or}
use native.Mathlib.Omega.{arith}
use Rattle.std.proofs.Math.Decide.{dec_lt}
use Rattle.std.proofs.Math.Path.{refl}
use mathlib.Core.List.{List, [], ◌++◌}
use Rattle.std.proofs.Math.ListN.{length, length-append, get_or-append}
use Rattle.std.proofs.Common.{lt-ltb, le-ltb}
use Rattle.program.specs.Reader.{Result, Result.ok, Result.bad, wrong_end, then, made, byte}
use Rattle.program.specs.Exact.{Told, Told.told, Told.silent, Beyond, Beyond.value_beyond, Beyond.refusal_beyond, Cut, Cut.same, Cut.stop}
use Rattle.program.specs.Exact.{Cut.short, Cuts, CutsBehind}

-- what is said of an answer goes on behind it, gets weaker, and holds of its value
pub told_then : {A B : Type 0} {P : A → ℕ → Type 0} {Q : B → ℕ → Type 0} {r : Result A} {f : A → ℕ → Result B}
    → Told P r → ((a : A) (k : ℕ) → P a k → Told Q (f a k)) → Told Q (then r f)
unfolding then
told_then (told p) h = h _ _ p
told_then silent h = silent

pub told_weak : {A : Type 0} {P Q : A → ℕ → Type 0} {r : Result A} → Told P r → ((a : A) (k : ℕ) → P a k → Q a k) → Told Q r
told_weak (told p) h = told (h _ _ p)
told_weak silent h = silent

pub told_is : {A : Type 0} {P : A → ℕ → Type 0} {r : Result A} {a : A} {m : ℕ} → Told P r → r ≡ ok a m → P a m
told_is {P = P} {a = a} {m = m} h p = go (rw p at h)
  where
    go : Told P (ok a m) → P a m
    go (told q) = q

-- a value goes on with the rest
pub then_ok : {A B : Type 0} {r : Result A} {a : A} {k : ℕ} (f : A → ℕ → Result B) {x : Result B} → r ≡ ok a k
    → f a k ≡ x → then r f ≡ x
unfolding then
then_ok f p q = rw p q

-- what is said of an answer from m on is said of it from an earlier place on
cut_weak : {A : Type 0} {n m N M : ℕ} {u v : Result A} → n ≤ m → Cut m N M u v → Cut n N M u v
cut_weak l (same {m = k} h i) = same {m = k} (omega arith) i
cut_weak l (stop {p = p} h i) = stop {p = p} (omega arith) i
cut_weak l (short b) = short b

-- what is read from behind N on goes beyond N
cut_beyond : {A : Type 0} {n N L M : ℕ} {u v : Result A} → N < n → n ≤ L → Cut n L M u v → Beyond N L u
cut_beyond l k (same {m = m} h i) = value_beyond {m = m} (omega arith) i
cut_beyond l k (stop {p = p} h i) = refusal_beyond {p = p} (omega arith)
cut_beyond {L = L} l k (short b) = refusal_beyond {p = L} (omega arith)

-- two streams are read alike by one reader and another behind it
pub cuts_ok : {A : Type 0} (a : A) → Cuts (λ s n. ok a n)
cuts_ok a s t n l = same {m = n} (omega arith) l

pub cuts_then : {A B : Type 0} {r : List ℕ → ℕ → Result A} {q : A → List ℕ → ℕ → Result B} → Cuts r → ((a : A) → Cuts (q a))
    → Cuts (λ s n. then (r s n) λ a k. q a s k)
unfolding then
cuts_then {A = A} {B = B} {r = r} {q = q} x y s t n l = go (r s n) (r (s ++ t) n) (x s t n l)
  where
    go : (u v : Result A) → Cut n (length s) (length (s ++ t)) u v
        → Cut n (length s) (length (s ++ t)) (then u λ a k. q a s k) (then v λ a k. q a (s ++ t) k)
    go u v (same {a = a} {m = m} h i) = cut_weak h (y a s t m i)
    go u v (stop h i) = stop h i
    go u v (short (value_beyond {a = a} {m = m} h i)) = short (cut_beyond h i (y a (s ++ t) [] m i))
    go u v (short (refusal_beyond h)) = short (refusal_beyond h)

-- what is made of a thing that is read
pub told_made : {A B : Type 0} {P : A → ℕ → Type 0} {Q : B → ℕ → Type 0} {r : Result A} (f : A → B) → Told P r
    → ((a : A) (m : ℕ) → P a m → Q (f a) m) → Told Q (made f r)
unfolding made
told_made f h g = told_then h λ a m p. told (g a m p)

pub made_ok : {A B : Type 0} {r : Result A} {a : A} {m : ℕ} (f : A → B) → r ≡ ok a m → made f r ≡ ok (f a) m
unfolding made
made_ok f e = then_ok _ e refl

pub cut_made : {A B : Type 0} {n N M : ℕ} {u v : Result A} (f : A → B) → Cut n N M u v → Cut n N M (made f u) (made f v)
unfolding made then
cut_made f (same h i) = same h i
cut_made f (stop h i) = stop h i
cut_made f (short (value_beyond h i)) = short (value_beyond h i)
cut_made f (short (refusal_beyond h)) = short (refusal_beyond h)

-- one byte
pub byte_ok : (s : List ℕ) {n b : ℕ} → n < length s → get_or s n 0 ≡ b → byte s n ≡ ok b (n + 1)
unfolding byte
byte_ok s {n} h e = rw (lt-ltb n (length s) h, byte) (rw e)

pub byte_none : (s : List ℕ) {n : ℕ} → length s ≤ n → byte s n ≡ bad n wrong_end
unfolding byte
byte_none s {n} h = rw (le-ltb n (length s) h, byte)

-- what is said of a byte and of an answer behind it
pub told_byte : {B : Type 0} {Q : B → ℕ → Type 0} (f : ℕ → ℕ → Result B) (s : List ℕ) (n : ℕ)
    → ((b : ℕ) → n < length s → get_or s n 0 ≡ b → Told Q (f b (n + 1))) → Told Q (then (byte s n) f)
unfolding then
told_byte {Q = Q} f s n h = go (dec_lt n (length s))
  where
    go : Dec (n < length s) → Told Q (then (byte s n) f)
    go (yes l) = rw (byte_ok s l refl) (h (get_or s n 0) l refl)
    go (no l) = rw (byte_none s {n = n} (omega arith)) silent

-- two streams are read alike by a byte and a reader behind it
module _ {A : Type 0} (q : ℕ → List ℕ → ℕ → ℕ → Result A) (y : (b : ℕ) → CutsBehind (λ s n. q b s n (n + 1))) where
  byte_beyond : (s : List ℕ) (n : ℕ) → Beyond n (length s) (then (byte s n) λ b k. q b s n k)
  unfolding then
  byte_beyond s n = go (dec_lt n (length s))
    where
      go : Dec (n < length s) → Beyond n (length s) (then (byte s n) λ b k. q b s n k)
      go (yes h) = rw (byte_ok s h refl) (cut_beyond (omega arith) (omega arith) (y (get_or s n 0) s [] n h))
      go (no h) = rw (byte_none s {n = n} (omega arith)) (refusal_beyond {p = n} (omega arith))

  pub cuts_byte : Cuts (λ s n. then (byte s n) λ b k. q b s n k)
  unfolding then
  cuts_byte s t n l = go (dec_lt n (length s))
    where
      go : Dec (n < length s)
          → Cut n (length s) (length (s ++ t)) (then (byte s n) λ b k. q b s n k) (then (byte (s ++ t) n) λ b k. q b (s ++ t) n k)
      go (yes h) =
          rw (byte_ok s h refl, byte_ok (s ++ t) (simp length-append (omega arith)) (get_or-append s t 0 n h))
          (cut_weak {m = n + 1} (omega arith) (y (get_or s n 0) s t n h))
      go (no h) =
          let e : n ≡ length s = omega arith in
          rw (byte_none s {n = n} (omega arith)) (rw e (short (byte_beyond (s ++ t) (length s))))
