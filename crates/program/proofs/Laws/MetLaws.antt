-- Where a refusal comes from, and how the bytes of a value are met, when answers are joined (01, 4 and 5 of 'Numbers from the input').
use Rattle.std.specs.Prelude.{ℕ, ◌+◌, ◌≡◌, refl, List, ◌++◌, length}
use Rattle.std.proofs.Common.{arith, sym, ◌∙◌}
use Rattle.program.specs.Reader.{Result, Result.ok, Result.bad, wrong_byte, then, made}
use Rattle.program.specs.Follows.{Covers, Deep, Met, Met.met_whole, Met.met_deep}
use Rattle.program.proofs.Laws.FrontListLaws.{covers_both, deep_left, deep_right}

-- where a refusal comes from: from a reader, or from what is read behind its value
pub data Whence {A B : Type 0} (r : Result A) (f : A → ℕ → Result B) (p k : ℕ) : Type 0 where
  here : r ≡ bad p k → Whence r f p k
  later : (a : A) (m : ℕ) → r ≡ ok a m → f a m ≡ bad p k → Whence r f p k

pub then_bad : {A B : Type 0} (r : Result A) (f : A → ℕ → Result B) (p k : ℕ) → then r f ≡ bad p k → Whence r f p k
unfolding then
then_bad (ok a m) f p k e = later a m refl e
then_bad (bad q j) f p k e = let x : q ≡ p = cc in let y : j ≡ k = cc in here (rw (x, y))

pub made_bad : {A B : Type 0} (f : A → B) (r : Result A) (p k : ℕ) → made f r ≡ bad p k → r ≡ bad p k
unfolding made
made_bad f r p k e = go (then_bad r _ p k e)
  where
    go : Whence r (λ a m. ok (f a) m) p k → r ≡ bad p k
    go (here q) = q
    go (later a m q e) = let z : ◌≡◌ {A = ℕ} 0 1 = cc in absurd (omega arith)

pub met_made : {A B : Type 0} {d n m : ℕ} {es ls : List ℕ} {a : A} {r : Result A} (f : A → B) → Met d n es ls a m r → Met d n es ls (f a) m (made f r)
unfolding made then
met_made f (met_whole c) = met_whole c
met_made f (met_deep e p) = met_deep e p

-- behind bytes that are there whole
pub met_after : {A : Type 0} {d n k m : ℕ} {es ls fs ms : List ℕ} {a : A} {r : Result A} → Covers d es ls → k ≡ n + length es
    → Met d k fs ms a m r → Met d n (es ++ fs) (ls ++ ms) a m r
met_after c e (met_whole b) = met_whole (covers_both c b)
met_after c e (met_deep {p = o} q p) = let i = deep_right c p in met_deep {p = o} {j = i.0} (omega (arith, i.1)) i.2

pub met_then : {A B : Type 0} {d n k m : ℕ} {es ls fs ms : List ℕ} {a : A} {b : B} {r : Result A} (f : A → ℕ → Result B) → k ≡ n + length es
    → Met d n es ls a k r → Met d k fs ms b m (f a k) → Met d n (es ++ fs) (ls ++ ms) b m (then r f)
unfolding then
met_then f e (met_whole c) w = met_after c e w
met_then {ms = ms} f e (met_deep q p) w = met_deep q (deep_left ms p)

-- what was read is covered
pub met_covers : {A : Type 0} {d n m : ℕ} {es ls : List ℕ} {a b : A} {k : ℕ} {r : Result A} → Met d n es ls a m r → r ≡ ok b k → Covers d es ls
met_covers (met_whole c) e = c
met_covers (met_deep q p) e = let z : ◌≡◌ {A = ℕ} 0 1 = cc in absurd (omega arith)

-- so is the place behind it; what was refused stands too deep
pub met_place : {A : Type 0} {d n m : ℕ} {es ls : List ℕ} {a b : A} {k : ℕ} {r : Result A} → Met d n es ls a m r → r ≡ ok b k → m ≡ k
met_place (met_whole c) e = cc
met_place (met_deep q p) e = let z : ◌≡◌ {A = ℕ} 0 1 = cc in absurd (omega arith)

pub met_refused : {A : Type 0} {d n m p : ℕ} {es ls : List ℕ} {a : A} {r : Result A} → Met d n es ls a m r → r ≡ bad p wrong_byte
    → (j : ℕ) × (p ≡ n + j) × (Deep d j ls)
met_refused (met_whole c) e = let z : ◌≡◌ {A = ℕ} 0 1 = cc in absurd (omega arith)
met_refused {p = p} (met_deep {p = o} {j = j} q h) e = let z : o ≡ p = cc in (j, sym z ∙ q, h)
