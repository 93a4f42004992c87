-- What a reader that gave a value has read (01, 'Program stream').
use Rattle.std.specs.Prelude.{ℕ, zero, suc, ◌+◌, ◌-◌, ◌<◌, ◌≡◌, refl, Bool, true, false, List, [], ◌∷◌, length, get_or, ltb}
use Rattle.std.proofs.Common.{sub-one, ◌∙◌, ltb-true}
use Rattle.program.specs.Reader.{Result, Result.ok, Result.bad, wrong_end, then, pair, made, many, byte, ranged, counted, opened}
use Rattle.program.specs.Exact.{Stands, Stands.done, Stands.letter}
use Rattle.program.proofs.Laws.PartLaws.{told_is, then_ok}
use Rattle.program.proofs.Laws.JoinLaws.{Within, ranged_exact}
use Rattle.emit.specs.Written.{Good}

-- the value that a reader gave
pub value : {A : Type 0} (r : Result A) → Good r → (a : A) × (n : ℕ) × (r ≡ ok a n)
value (ok a n) g = (a, n, refl)
value (bad p k) g = absurd g

-- of one thing behind another
pub then_value : {A B : Type 0} (r : Result A) (f : A → ℕ → Result B) → Good (then r f)
    → (a : A) × (k : ℕ) × (r ≡ ok a k) × (then r f ≡ f a k) × (Good (f a k))
unfolding then
then_value (ok a k) f g = (a, k, refl, refl, g)
then_value (bad p k) f g = absurd g

-- of what is made of a thing
pub made_value : {A B : Type 0} (f : A → B) (r : Result A) → Good (made f r) → (a : A) × (m : ℕ) × (r ≡ ok a m) × (made f r ≡ ok (f a) m)
unfolding made then
made_value f (ok a m) g = (a, m, refl, refl)
made_value f (bad p k) g = absurd g

-- of two things
pub pair_value : {A B : Type 0} (r : Result A) (q : A → ℕ → Result B) → Good (pair r q)
    → (a : A) × (k : ℕ) × (b : B) × (m : ℕ) × (r ≡ ok a k) × (q a k ≡ ok b m) × (pair r q ≡ ok (a, b) m)
unfolding pair
pair_value r q g =
    let p = then_value r _ g in
    let u = then_value (q p.0 p.1) _ p.4 in
    (p.0, p.1, u.0, u.1, p.2, u.2, p.3 ∙ u.3)

-- two things that are read are read as a pair
pub pair_ok : {A B : Type 0} {r : Result A} (q : A → ℕ → Result B) {a : A} {b : B} {k m : ℕ} → r ≡ ok a k → q a k ≡ ok b m → pair r q ≡ ok (a, b) m
unfolding pair
pair_ok q e f = then_ok _ e (then_ok _ f refl)

-- of n things in a row
pub many_value : {A B : Type 0} (z : B) (c : A → B → B) (r : ℕ → Result A) (n at : ℕ) → (n ≡ 0 → ⊥) → Good (many z c r n at)
    → (a : A) × (k : ℕ) × (b : B) × (m : ℕ) × (r at ≡ ok a k) × (many z c r (n - 1) k ≡ ok b m) × (many z c r n at ≡ ok (c a b) m)
unfolding many
many_value z c r zero at h g = absurd (h refl)
many_value z c r (suc n) at h g =
    let p = then_value (r at) _ g in
    let q = then_value (many z c r n p.1) _ p.4 in
    (p.0, p.1, q.0, q.1, p.2, rw sub-one q.2, p.3 ∙ q.3)

-- of no things
pub many_none : {A B : Type 0} (z : B) (c : A → B → B) (r : ℕ → Result A) (n at : ℕ) → n ≡ 0 → many z c r n at ≡ ok z at
unfolding many
many_none z c r n at e = rw e

-- of a byte
pub byte_value : (s : List ℕ) (at : ℕ) → Good (byte s at) → (at < length s) × (byte s at ≡ ok (get_or s at 0) (at + 1))
unfolding byte
byte_value s at g = go (ltb at (length s)) refl g
  where
    go : (t : Bool) → ltb at (length s) ≡ t → Good {A = ℕ} (elim t [ true ↦ ok (get_or s at 0) (at + 1) | false ↦ bad at wrong_end ])
        → (at < length s) × (◌≡◌ {A = Result ℕ} (elim t [ true ↦ ok (get_or s at 0) (at + 1) | false ↦ bad at wrong_end ]) (ok (get_or s at 0) (at + 1)))
    go true h g = (ltb-true at (length s) h, refl)
    go false h g = absurd g

-- of a byte of a range
pub ranged_value : (s : List ℕ) (lo hi at : ℕ) → Good (ranged s lo hi at)
    → (at < length s) × (Within lo hi (get_or s at 0)) × (ranged s lo hi at ≡ ok (get_or s at 0) (at + 1))
ranged_value s lo hi at g =
    let v = value (ranged s lo hi at) g in
    let t = told_is ((ranged_exact lo hi).sound s at) v.2 in
    go v.0 v.1 v.2 t.0 t.1
  where
    go : (b m : ℕ) → ranged s lo hi at ≡ ok b m → Within lo hi b → Stands s at (b ∷ []) m
        → (at < length s) × (Within lo hi (get_or s at 0)) × (ranged s lo hi at ≡ ok (get_or s at 0) (at + 1))
    go b m e w (letter h f done) = (h, rw f w, e ∙ rw f)

-- a byte that stands at a place
pub one_stands : {s : List ℕ} {n b m : ℕ} → Stands s n (b ∷ []) m → (n < length s) × (get_or s n 0 ≡ b) × (m ≡ n + 1)
one_stands (letter h e done) = (h, e, refl)

-- of a count and what it counts
pub counted_value : {B : Type 0} (s : List ℕ) (lo hi : ℕ) (q : ℕ → ℕ → Result B) (at : ℕ) → Good (counted s lo hi q at)
    → (at < length s) × (counted s lo hi q at ≡ q (get_or s at 0) (at + 1))
unfolding counted
counted_value s lo hi q at g =
    let p = then_value (ranged s lo (suc hi) at) q g in
    let b = ranged_value s lo (suc hi) at (rw p.2 tt) in
    (b.0, then_ok q b.2 refl)

-- of what a byte opens
pub opened_value : {I A : Type 0} (s : List ℕ) (key : ℕ → I) (rule : ℕ → ℕ → I → Result A) (at : ℕ) → Good (opened s key rule at)
    → (at < length s) × (opened s key rule at ≡ rule at (at + 1) (key (get_or s at 0)))
unfolding opened
opened_value s key rule at g =
    let p = then_value (byte s at) (λ b k. rule at k (key b)) g in
    let b = byte_value s at (rw p.2 tt) in
    (b.0, then_ok (λ b k. rule at k (key b)) b.1 refl)
