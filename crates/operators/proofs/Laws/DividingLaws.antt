-- Division rounded toward minus infinity (02, 'Retarders below zero') by the machine's own, which rounds toward zero, in place of Euclid's:
-- where x is below zero, -1 - x is not, and the quotient is -1 - (-1 - x) / m. All that is computed on the way fits 64 bits.
use Rattle.std.specs.Prelude.{ℕ, zero, suc, ◌/◌, ◌<◌, ◌≤◌, ◌≡◌, refl, true, false, T, ℤ, pos, negsuc, neg_ℤ, ◌-ℤ◌}
use Rattle.std.proofs.Common.{arith, div-le_self, ap, ◌∙◌, true≢false, SFits, of_z, lt-ltb, le-ltb, ltb-true}
use Rattle.std.specs.Int.Signed.{mag, non_neg, lt_z, quot_z, shr_z}
use Rattle.std.specs.Int.{w64}
use Rattle.types.specs.Limits.{int_half}
use Rattle.operators.specs.Operators.{quotient}
use Rattle.operators.proofs.Laws.SignedLaws.{through, back, mag_quotient}

-- By a divisor above zero ------------------------------------------------------------

-- what the code is handed
abbrev pub Handed : ℤ → ℤ → Type 0
Handed x m = (mag x ≤ int_half) × (mag m ≤ int_half) × (0 < mag m) × (T (non_neg m))

less_one : (a : ℕ) → negsuc 0 -ℤ negsuc a ≡ pos a
less_one a = rw (le-ltb (suc a) 1 (omega arith)) (ap pos (omega arith))

one_less : (q : ℕ) → negsuc 0 -ℤ pos q ≡ negsuc q
one_less zero = refl
one_less (suc q) = ap negsuc (omega arith)

-- a dividend below zero: what is asked on the way, and the result
pub record Below (x m : ℤ) : Type 0 where
  pub first : SFits w64 (negsuc 0 -ℤ through x)
  pub divisor : (0 < of_z w64 m) × (SFits w64 (quot_z (through (negsuc 0 -ℤ through x)) (through m)))
  pub last : SFits w64 (negsuc 0 -ℤ through (quot_z (through (negsuc 0 -ℤ through x)) (through m)))
  pub said : through (negsuc 0 -ℤ through (quot_z (through (negsuc 0 -ℤ through x)) (through m))) ≡ shr_z x (mag m)

pub below : (x m : ℤ) → Handed x m → lt_z (through x) (pos 0) ≡ true → Below x m
below (pos a) m (h, k, n, p) t = let q = ltb-true a 0 (rw (back {x = pos a} h) at t) in absurd (omega arith)
below (negsuc a) (negsuc m) (h, k, n, p) t = absurd p
below (negsuc a) (pos m) (h, k, n, p) t =
    let q = div-le_self a m in
    let e = back {x = negsuc a} h in
    let u = back {x = pos a} h in
    let v = back {x = pos m} k in
    let w = back {x = pos (a / m)} (omega arith) in
    let y = back {x = negsuc (a / m)} (omega arith) in
    record {
      first = rw (e, less_one a) (record { sfits = omega arith });
      divisor = (n, rw (e, less_one a, u, v) (record { sfits = omega arith }));
      last = rw (e, less_one a, u, v, w, one_less (a / m)) (record { sfits = omega arith });
      said = rw (e, less_one a, u, v, w, one_less (a / m)) y;
    }

-- another dividend
pub record FromZero (x m : ℤ) : Type 0 where
  pub divisor : (0 < of_z w64 m) × (SFits w64 (quot_z (through x) (through m)))
  pub said : through (quot_z (through x) (through m)) ≡ shr_z x (mag m)

pub from_zero : (x m : ℤ) → Handed x m → lt_z (through x) (pos 0) ≡ false → FromZero x m
from_zero (negsuc a) m (h, k, n, p) t = absurd (true≢false (rw (back {x = negsuc a} h) at t))
from_zero (pos a) (negsuc m) (h, k, n, p) t = absurd p
from_zero (pos a) (pos m) (h, k, n, p) t =
    let q = div-le_self a m in
    let u = back {x = pos a} h in
    let v = back {x = pos m} k in
    let w = back {x = pos (a / m)} (omega arith) in
    record { divisor = (n, rw (u, v) (record { sfits = omega arith })); said = rw (u, v) w }

-- By a divisor of either sign --------------------------------------------------------

none_less : (x : ℤ) → pos 0 -ℤ x ≡ neg_ℤ x
none_less (pos zero) = refl
none_less (pos (suc n)) = rw (lt-ltb 0 (suc n) (omega arith)) (ap negsuc (omega arith))
none_less (negsuc n) = ap pos (omega arith)

mag_minus : (x : ℤ) → mag x < int_half → mag (neg_ℤ x) ≤ int_half
mag_minus (pos zero) h = omega arith
mag_minus (pos (suc n)) h = omega arith
mag_minus (negsuc n) h = omega arith

minus : (x : ℤ) → mag x < int_half → through (pos 0 -ℤ through x) ≡ neg_ℤ x
minus x h = rw (back {x = x} (omega arith), none_less x) (back {x = neg_ℤ x} (mag_minus x h))

-- a divisor below zero: both are negated
pub record Turned (x y : ℤ) : Type 0 where
  pub left : SFits w64 (pos 0 -ℤ through x)
  pub right : SFits w64 (pos 0 -ℤ through y)
  pub handed : Handed (through (pos 0 -ℤ through x)) (through (pos 0 -ℤ through y))
  pub said : shr_z (through (pos 0 -ℤ through x)) (mag (through (pos 0 -ℤ through y))) ≡ quotient x y

turned_by : (x y : ℤ) → mag x < int_half → mag y < int_half → lt_z y (pos 0) ≡ true → Turned x y
unfolding quotient
turned_by x (pos n) h k t = let q = ltb-true n 0 t in absurd (omega arith)
turned_by x (negsuc n) h k t = record {
  left = rw (back {x = x} (omega arith), none_less x) (record { sfits = omega (arith, mag_minus x h) });
  right = rw (back {x = negsuc n} (omega arith), none_less (negsuc n)) (record { sfits = omega arith });
  handed = rw (minus x h, minus (negsuc n) k) (mag_minus x h, omega arith, omega arith, tt);
  said = rw (minus x h, minus (negsuc n) k);
}

pub turned : (x y : ℤ) → mag x < int_half → mag y < int_half → lt_z (through y) (pos 0) ≡ true → Turned x y
turned x y h k t = turned_by x y h k (rw (back {x = y} (omega arith)) at t)

-- another divisor: as they stand
pub record Straight (x y : ℤ) : Type 0 where
  pub handed : Handed (through x) (through y)
  pub said : shr_z (through x) (mag (through y)) ≡ quotient x y

straight_by : (x y : ℤ) → mag x < int_half → mag y < int_half → (y ≡ pos 0 → ⊥) → lt_z y (pos 0) ≡ false → Straight x y
unfolding quotient
straight_by x (negsuc n) h k z t = absurd (true≢false t)
straight_by x (pos zero) h k z t = absurd (z refl)
straight_by x (pos (suc n)) h k z t =
    let e = back {x = x} (omega arith) in
    let d = back {x = pos (suc n)} (omega arith) in
    record { handed = rw (e, d) (omega arith, omega arith, omega arith, tt); said = rw (e, d) }

pub straight : (x y : ℤ) → mag x < int_half → mag y < int_half → (y ≡ pos 0 → ⊥) → lt_z (through y) (pos 0) ≡ false → Straight x y
straight x y h k z t = straight_by x y h k z (rw (back {x = y} (omega arith)) at t)

-- A quotient comes back from its 64 bits.
pub quotient_back : (x y : ℤ) {r : ℤ} → mag x < int_half → r ≡ quotient x y → through r ≡ quotient x y
quotient_back x y h e = ap through e ∙ back {x = quotient x y} (omega (arith, mag_quotient x y))

-- the operands as they are handed on
pub handed_on : (x y : ℤ) → mag x < int_half → mag y < int_half → (y ≡ pos 0 → ⊥)
    → (mag (through x) < int_half) × (mag (through y) < int_half) × (through y ≡ pos 0 → ⊥)
handed_on x y h k z = rw (back {x = x} (omega arith), back {x = y} (omega arith)) (h, k, z)
