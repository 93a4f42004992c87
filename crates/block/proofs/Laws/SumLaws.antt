-- Laws of the sums: what a sum depends on, and that sum B is the sum of the running sums A (01, 'Blocks').
use Rattle.std.specs.Prelude.{◌≡◌, ℕ, zero, suc, ◌+◌, ◌-◌, ◌*◌, ◌%◌, ◌<◌, ◌≤◌, List, ◌++◌, length, refl}
use Rattle.std.proofs.Common.{arith, suc-mul, add-one, ap, sym, ◌∙◌}
use Rattle.std.proofs.Math.ListN.{get_or-append}
use Rattle.block.specs.Sums.{byte, sum, sum_a, sum_b, summed, weight, wrap}

-- a sum depends on its terms alone
pub sum_ext : (n : ℕ) (f g : ℕ → ℕ) → ((i : ℕ) → i < n → f i ≡ g i) → sum n f ≡ sum n g
unfolding sum
sum_ext zero f g e = refl
sum_ext (suc n) f g e = cc (sum_ext n f g (λ i h. e i (omega arith)), e n (omega arith))

sum_add : (n : ℕ) (f g : ℕ → ℕ) → sum n (λ i. f i + g i) ≡ sum n f + sum n g
unfolding sum
sum_add zero f g = refl
sum_add (suc n) f g = omega (arith, sum_add n f g)

weight_suc : (n i x : ℕ) → i ≤ n → (suc n - i) * x ≡ (n - i) * x + x
weight_suc n i x h = let e : suc n - i ≡ suc (n - i) = omega arith in rw e (suc-mul (n - i) x)

-- with one byte more, every weight grows by one
pub weighted_suc : (n : ℕ) (f : ℕ → ℕ) → sum (suc n) (λ i. (suc n - i) * f i) ≡ sum n (λ i. (n - i) * f i) + sum (suc n) f
unfolding sum
weighted_suc n f =
    let grown = sum_ext n (λ i. (suc n - i) * f i) (λ i. (n - i) * f i + f i) (λ i h. weight_suc n i (f i) (omega arith)) in
    let split = sum_add n (λ i. (n - i) * f i) f in
    let last : (suc n - n) * f n ≡ f n = let e : suc n - n ≡ 1 = omega arith in rw e (omega arith) in
    omega arith

-- the sums of a list are those of its first 508 bytes
pub sums_front : (x y : List ℕ) → summed ≤ length x → (sum_a (x ++ y) ≡ sum_a x) × (sum_b (x ++ y) ≡ sum_b x)
unfolding sum_a sum_b
sums_front x y h =
    let same : (i : ℕ) → i < summed → byte (x ++ y) i ≡ byte x i = λ i k. get_or-append x y 0 i (omega arith) in (
      ap (λ (n : ℕ). n % wrap) (sum_ext summed (λ i. byte (x ++ y) i) (λ i. byte x i) same),
      ap (λ (n : ℕ). n % wrap)
          (sum_ext summed (λ i. weight i * byte (x ++ y) i) (λ i. weight i * byte x i) (λ i k. ap (λ (n : ℕ). weight i * n) (same i k))),
    )

-- a wrapped sum plus a wrapped sum, wrapped
pub wrap_add : (s t a b r : ℕ) → a ≡ s % wrap → b ≡ t % wrap → r ≡ (a + b) % wrap → r ≡ (s + t) % wrap
wrap_add s t a b r p q e = omega arith

-- one turn of the loop that keeps both sums
pub sums_turn : (s : List ℕ) (i a b x a' b' : ℕ) → a ≡ sum i (λ j. byte s j) % wrap → b ≡ sum i (λ j. (i - j) * byte s j) % wrap
    → x ≡ byte s i → x < 256 → a' ≡ (a + x) % wrap → b' ≡ (b + a') % wrap
    → (a' ≡ sum (i + 1) (λ j. byte s j) % wrap) × (b' ≡ sum (i + 1) (λ j. (i + 1 - j) * byte s j) % wrap)
unfolding sum
sums_turn s i a b x a' b' ea eb ex small pa pb =
    let ha : a' ≡ sum (suc i) (λ j. byte s j) % wrap = wrap_add _ (byte s i) a x a' ea (omega arith) pa in
    let hb : b' ≡ sum (suc i) (λ j. (suc i - j) * byte s j) % wrap =
    wrap_add _ _ b a' b' eb ha pb ∙ ap (λ (n : ℕ). n % wrap) (sym (weighted_suc i (λ j. byte s j))) in
    (rw add-one ha, rw add-one hb)
