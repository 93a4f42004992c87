-- The quotient rounds toward minus infinity and the remainder takes the divisor's sign, and no other numbers do (02, 'Retarders below
-- zero').
use Rattle.std.specs.Prelude.{ℕ, zero, suc, ◌+◌, ◌-◌, ◌*◌, ◌/◌, ◌%◌, ◌<◌, ◌≡◌, refl, true, false, ◌⊎◌, ◌↔◌, ℤ, pos, negsuc, neg_ℤ, nat_abs, ◌+ℤ◌, ◌-ℤ◌, ◌*ℤ◌, ◌≤ℤ◌}
use Rattle.std.proofs.Common.{arith, mod-lt, mul-suc, mul_comm, le-div_iff_mul-le, div-lt_iff_lt-mul, le_antisymm, sym, ap, ◌∙◌, true≢false, inl, inr, leb→le, le→leb, lt-ltb, le-ltb}
use Rattle.std.proofs.Math.Nat.{div-add-mod, mul-add-div, div-eq_of_lt, div-eq_of_lt-le}
use Rattle.std.proofs.Math.Dec.{leb-zero, leb-suc-zero, leb-suc-suc}
use Rattle.std.proofs.Math.IntN.{+ℤ_comm, -ℤ-+ℤ_cancel, +ℤ-neg_ℤ_cancel, neg_ℤ-neg_ℤ, neg_ℤ-+ℤ, *ℤ-negsuc}
use Rattle.std.specs.Int.Signed.{non_neg, le_z, shr_z, ≤ℤ_refl}
use Rattle.operators.specs.Operators.{quotient, remainder}
use Rattle.operators.specs.Rounding.{AtMost, TowardMinusInfinity, DivisorSigned}
use Rattle.operators.proofs.Laws.SignedLaws.{remainder_nat}

-- Order ------------------------------------------------------------------------------

at_most_both : (a b : ℤ) → a ≤ℤ b → b ≤ℤ a → a ≡ b
at_most_both (pos a) (pos b) h k = ap pos (le_antisymm (leb→le a b h.le) (leb→le b a k.le))
at_most_both (pos a) (negsuc b) h k = absurd h.le
at_most_both (negsuc a) (pos b) h k = absurd k.le
at_most_both (negsuc a) (negsuc b) h k = ap negsuc (le_antisymm (leb→le a b k.le) (leb→le b a h.le))

-- negation turns the order round
negated_order : (a b : ℤ) → le_z (neg_ℤ a) (neg_ℤ b) ≡ le_z b a
negated_order (pos zero) (pos zero) = refl
negated_order (pos zero) (pos (suc b)) = sym (leb-suc-zero b)
negated_order (pos zero) (negsuc b) = leb-zero (suc b)
negated_order (pos (suc a)) (pos zero) = sym (leb-zero (suc a))
negated_order (pos (suc a)) (pos (suc b)) = sym (leb-suc-suc b a)
negated_order (pos (suc a)) (negsuc b) = refl
negated_order (negsuc a) (pos zero) = leb-suc-zero a
negated_order (negsuc a) (pos (suc b)) = refl
negated_order (negsuc a) (negsuc b) = leb-suc-suc a b

turned_order : (a b : ℤ) → (a ≤ℤ neg_ℤ b) ↔ (b ≤ℤ neg_ℤ a)
turned_order a b =
    let e : le_z a (neg_ℤ b) ≡ le_z b (neg_ℤ a) = sym (ap (λ z. le_z z (neg_ℤ b)) (neg_ℤ-neg_ℤ a)) ∙ negated_order (neg_ℤ a) b in
    (λ h. record { le = rw (← e) h.le }, λ h. record { le = rw e h.le })

negated_below : (j x : ℕ) → neg_ℤ (pos j) ≤ℤ pos x
negated_below zero x = record { le = rw (leb-zero x) tt }
negated_below (suc j) x = record { le = tt }

negated_under : (j x : ℕ) → (neg_ℤ (pos j) ≤ℤ negsuc x) ↔ (x < j)
negated_under zero x = (λ h. absurd h.le, λ h. absurd (omega arith))
negated_under (suc j) x = (λ h. let k = leb→le x j h.le in omega arith, λ h. record { le = le→leb x j (omega arith) })

-- The quotient -----------------------------------------------------------------------

-- n is at most a / m exactly where it is at most the quotient
by_positive : (n a : ℤ) (m : ℕ) → 0 < m → ((n *ℤ pos m) ≤ℤ a) ↔ (n ≤ℤ shr_z a m)
by_positive (pos k) (pos x) m h =
    let i = le-div_iff_mul-le {k = m} {x = k} {y = x} h in
    (λ l. record { le = le→leb k (x / m) (i.1 (leb→le (k * m) x l.le)) }, λ l. record { le = le→leb (k * m) x (i.0 (leb→le k (x / m) l.le)) })
by_positive (pos k) (negsuc x) m h = (λ l. absurd l.le, λ l. absurd l.le)
by_positive (negsuc k) (pos x) m h = (λ l. record { le = tt }, λ l. negated_below (suc k * m) x)
by_positive (negsuc k) (negsuc x) m h =
    let i = div-lt_iff_lt-mul {k = m} {x = x} {y = suc k} h in
    let j = negated_under (suc k * m) x in (
      λ l. let d = i.1 (j.0 l) in record { le = le→leb (x / m) k (omega arith) },
      λ l. let d = leb→le (x / m) k l.le in j.1 (i.0 (omega arith)),
    )

at_most_quotient : (n a b : ℤ) → (b ≡ pos 0 → ⊥) → AtMost n a b ↔ (n ≤ℤ quotient a b)
unfolding AtMost quotient
at_most_quotient n a (pos zero) h = absurd (h refl)
at_most_quotient n a (pos (suc m)) h = by_positive n a (suc m) (omega arith)
at_most_quotient n a (negsuc m) h =
    let t = turned_order a (n *ℤ pos (suc m)) in
    let p = by_positive n (neg_ℤ a) (suc m) (omega arith) in
    (λ l. p.0 (t.0 (rw (← *ℤ-negsuc n m) l)), λ l. rw (*ℤ-negsuc n m) (t.1 (p.1 l)))

-- / rounds toward minus infinity
pub quotient_downward : (a b : ℤ) → (b ≡ pos 0 → ⊥) → TowardMinusInfinity a b (quotient a b)
quotient_downward a b h = record {
  at_most = (at_most_quotient (quotient a b) a b h).1 (≤ℤ_refl (quotient a b));
  greatest = λ n l. (at_most_quotient n a b h).0 l;
}

-- and no other number does
pub quotient_unique : (a b q : ℤ) → (b ≡ pos 0 → ⊥) → TowardMinusInfinity a b q → q ≡ quotient a b
quotient_unique a b q h t =
    at_most_both q (quotient a b) ((at_most_quotient q a b h).0 t.at_most) (t.greatest (quotient a b) (quotient_downward a b h).at_most)

-- The remainder ----------------------------------------------------------------------

-- a is b times the quotient and the remainder
remainder_completes : (a b : ℤ) → b *ℤ quotient a b +ℤ remainder a b ≡ a
unfolding remainder
remainder_completes a b = +ℤ_comm (b *ℤ quotient a b) (a -ℤ b *ℤ quotient a b) ∙ -ℤ-+ℤ_cancel a (b *ℤ quotient a b)

-- what a divisor n above zero leaves
record Left (r : ℤ) (n : ℕ) : Type 0 where
  amount : ℕ
  is : r ≡ pos amount
  below : amount < n

left_by : (a : ℤ) (n : ℕ) → 0 < n → Left (remainder a (pos n)) n
unfolding remainder quotient
left_by (pos a) n h = record { amount = a % n; is = remainder_nat a n; below = mod-lt a {m = n} h }
left_by (negsuc a) n h =
    let d = div-add-mod a n in
    let l = mod-lt a {m = n} h in
    let e = mul-suc n (a / n) in
    record {
      amount = n - suc (a % n);
      is = rw (neg_ℤ-neg_ℤ (pos (n * suc (a / n))), le-ltb (n * suc (a / n)) (suc a) (omega arith)) (ap pos (omega arith));
      below = omega arith;
    }

-- by a divisor below zero both are negated
product_turned : (m : ℕ) (q : ℤ) → negsuc m *ℤ q ≡ neg_ℤ (pos (suc m) *ℤ q)
product_turned m (pos q) = refl
product_turned m (negsuc q) = sym (neg_ℤ-neg_ℤ (pos (suc m * suc q)))

remainder_turned : (a : ℤ) (m : ℕ) → remainder a (negsuc m) ≡ neg_ℤ (remainder (neg_ℤ a) (pos (suc m)))
unfolding remainder quotient
remainder_turned a m =
    let q = shr_z (neg_ℤ a) (suc m) in
    sym (neg_ℤ-+ℤ (neg_ℤ a) (neg_ℤ (pos (suc m) *ℤ q)) ∙ rw (neg_ℤ-neg_ℤ a, product_turned m q))

negated_sign : (n : ℕ) → (neg_ℤ (pos n) ≡ pos 0) ⊎ (non_neg (neg_ℤ (pos n)) ≡ false)
negated_sign zero = inl refl
negated_sign (suc n) = inr refl

negated_amount : (n : ℕ) → nat_abs (neg_ℤ (pos n)) ≡ n
negated_amount zero = refl
negated_amount (suc n) = refl

-- % takes the divisor's sign
pub remainder_signed : (a b : ℤ) → (b ≡ pos 0 → ⊥) → DivisorSigned a b (quotient a b) (remainder a b)
remainder_signed a (pos zero) h = absurd (h refl)
remainder_signed a (pos (suc n)) h =
    let l = left_by a (suc n) (omega arith) in
    record { whole = remainder_completes a (pos (suc n)); sign = inr (rw l.is); smaller = rw l.is l.below }
remainder_signed a (negsuc n) h =
    let l = left_by (neg_ℤ a) (suc n) (omega arith) in
    let e = remainder_turned a n ∙ ap neg_ℤ l.is in
    record {
      whole = remainder_completes a (negsuc n);
      sign = rw e (negated_sign l.amount);
      smaller = rw (e, negated_amount l.amount) l.below;
    }

-- a product and what is left, divided
negated_sum : (j k : ℕ) → k < j → neg_ℤ (pos j) +ℤ pos k ≡ negsuc (j - suc k)
negated_sum zero k h = absurd (omega arith)
negated_sum (suc j) k h = rw (lt-ltb k (suc j) h)

divided : (n k : ℕ) (q : ℤ) → k < n → shr_z (pos n *ℤ q +ℤ pos k) n ≡ q
divided n k (pos m) h =
    let d = div-eq_of_lt {n = k} {m = n} h in ap pos (mul-add-div {m = n} (omega arith) m k ∙ omega arith)
divided n k (negsuc m) h =
    let e = mul-suc n m in
    let c = mul_comm m n in
    let d = div-eq_of_lt-le {k = m} n {m = n * suc m - suc k} (omega arith) (omega (arith, mul_comm (m + 1) n)) in
    rw (negated_sum (n * suc m) k (omega arith)) (ap negsuc d)

-- a number by its sign and amount
from_zero_on : (r : ℤ) → (r ≡ pos 0) ⊎ (non_neg r ≡ true) → r ≡ pos (nat_abs r)
from_zero_on (pos n) s = refl
from_zero_on (negsuc n) (inl e) = let z : ◌≡◌ {A = ℕ} 0 1 = cc in absurd (omega arith)
from_zero_on (negsuc n) (inr e) = absurd (true≢false (sym e))

to_zero : (r : ℤ) → (r ≡ pos 0) ⊎ (non_neg r ≡ false) → neg_ℤ r ≡ pos (nat_abs r)
to_zero (pos n) (inl e) = ap neg_ℤ e ∙ sym e
to_zero (pos n) (inr e) = absurd (true≢false e)
to_zero (negsuc n) s = refl

signed_quotient : (a b q r : ℤ) → DivisorSigned a b q r → q ≡ quotient a b
unfolding quotient
signed_quotient a (pos n) q r h =
    sym (rw (← h.whole, from_zero_on r h.sign) (divided n (nat_abs r) q h.smaller))
signed_quotient a (negsuc n) q r h =
    let e : neg_ℤ a ≡ pos (suc n) *ℤ q +ℤ pos (nat_abs r) =
    ap neg_ℤ (sym h.whole) ∙ neg_ℤ-+ℤ (negsuc n *ℤ q) r ∙ rw (product_turned n q, neg_ℤ-neg_ℤ (pos (suc n) *ℤ q), to_zero r h.sign) in
    sym (rw e (divided (suc n) (nat_abs r) q h.smaller))

-- and no other quotient leaves one that does
pub remainder_unique : (a b q r : ℤ) → DivisorSigned a b q r → (q ≡ quotient a b) × (r ≡ remainder a b)
unfolding remainder
remainder_unique a b q r h =
    let e = signed_quotient a b q r h in
    (e, sym (rw (← e, ← h.whole, +ℤ_comm (b *ℤ q) r) (+ℤ-neg_ℤ_cancel r (b *ℤ q))))
