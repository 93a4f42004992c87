-- Division rounded toward minus infinity (02, 'Retarders below zero') as the machine computes it with Euclid's, which rounds so by a divisor
-- above zero: by one below, both numbers are negated. All that is computed on the way fits 64 bits.
use Rattle.std.specs.Prelude.{ℕ, zero, suc, ◌+◌, ◌*◌, ◌<◌, ◌≤◌, ◌≡◌, refl, true, false, ℤ, pos, negsuc, neg_ℤ, ◌-ℤ◌, ◌*ℤ◌}
use Rattle.std.proofs.Common.{arith, mul-le-mul, ap, ◌∙◌, true≢false, SFits, lt-ltb, ltb-true}
use Rattle.std.specs.Int.Signed.{mag, lt_z, shr_z}
use Rattle.std.specs.Int.{w64, int_div_euclid}
use Rattle.std.proofs.lemmas.Int.{to_z-of_z}
use Rattle.types.specs.Limits.{int_half}
use Rattle.operators.specs.Operators.{quotient, remainder}
use Rattle.operators.proofs.Laws.SignedLaws.{through, back, mag_quotient, mag_mul, mag_add, mag_negated}

-- The quotient -----------------------------------------------------------------------

euclid_down : (x : ℤ) (n : ℕ) → int_div_euclid x (pos n) ≡ shr_z x n
euclid_down (pos a) n = refl
euclid_down (negsuc a) n = refl

none_less : (x : ℤ) → pos 0 -ℤ x ≡ neg_ℤ x
none_less (pos zero) = refl
none_less (pos (suc n)) = rw (lt-ltb 0 (suc n) (omega arith)) (ap negsuc (omega arith))
none_less (negsuc n) = ap pos (omega arith)

mag_minus : (x : ℤ) → mag x < int_half → mag (neg_ℤ x) ≤ int_half
mag_minus (pos zero) h = omega arith
mag_minus (pos (suc n)) h = omega arith
mag_minus (negsuc n) h = omega arith

minus : (x : ℤ) → mag x < int_half → through (pos 0 -ℤ through x) ≡ neg_ℤ x
minus x h = rw (back {x = x} (omega arith), none_less x) (back {x = neg_ℤ x} (mag_minus x h))

-- A quotient comes back from its 64 bits.
quotient_back : (x y : ℤ) {r : ℤ} → mag x < int_half → r ≡ quotient x y → through r ≡ quotient x y
quotient_back x y h e = ap through e ∙ back {x = quotient x y} (omega (arith, mag_quotient x y))

-- By a divisor below zero.
turned_by : (x y : ℤ) → mag x < int_half → mag y < int_half → lt_z y (pos 0) ≡ true
    → int_div_euclid (through (pos 0 -ℤ through x)) (through (pos 0 -ℤ through y)) ≡ quotient x y
unfolding quotient
turned_by x (pos n) h k t = let p = ltb-true n 0 t in absurd (omega arith)
turned_by x (negsuc n) h k t = rw (minus x h, minus (negsuc n) k) (euclid_down (neg_ℤ x) (suc n))

pub turned : (x y : ℤ) {q : ℤ} → mag x < int_half → mag y < int_half → lt_z (through y) (pos 0) ≡ true
    → q ≡ int_div_euclid (through (pos 0 -ℤ through x)) (through (pos 0 -ℤ through y)) → through q ≡ quotient x y
turned x y h k t e = quotient_back x y h (e ∙ turned_by x y h k (rw (back {x = y} (omega arith)) at t))

-- By another.
straight_by : (x y : ℤ) → mag x < int_half → mag y < int_half → lt_z y (pos 0) ≡ false
    → int_div_euclid (through x) (through y) ≡ quotient x y
unfolding quotient
straight_by x (negsuc n) h k t = absurd (true≢false t)
straight_by x (pos n) h k t = rw (back {x = x} (omega arith), back {x = pos n} (omega arith)) (euclid_down x n)

pub straight : (x y : ℤ) {q : ℤ} → mag x < int_half → mag y < int_half → lt_z (through y) (pos 0) ≡ false
    → q ≡ int_div_euclid (through x) (through y) → through q ≡ quotient x y
straight x y h k t e = quotient_back x y h (e ∙ straight_by x y h k (rw (back {x = y} (omega arith)) at t))

-- What it leaves ---------------------------------------------------------------------

pub record Leaves (x y q : ℤ) : Type 0 where
  pub product : SFits w64 (through y *ℤ through q)
  pub fits : SFits w64 (through x -ℤ through (through y *ℤ through q))
  pub said : through (through x -ℤ through (through y *ℤ through q)) ≡ remainder x y

pub leaves : (x y q : ℤ) → mag x < int_half → mag y < int_half → q ≡ quotient (through x) (through y) → Leaves x y q
unfolding remainder
leaves x y q h k d =
    let u = back {x = x} (omega arith) in
    let v = back {x = y} (omega arith) in
    let w = quotient_back x y h (rw (u, v) at d) in
    let p = y *ℤ quotient x y in
    let b : suc (mag (quotient x y)) ≤ int_half + 1 = omega (arith, mag_quotient x y) in
    let m : suc (mag y) * suc (mag (quotient x y)) ≤ int_half * (int_half + 1) = mul-le-mul k b in
    let f : SFits w64 p = record { sfits = omega (arith, mag_mul y (quotient x y)) } in
    let g : SFits w64 (x -ℤ p) = record { sfits = omega (arith, mag_add x (neg_ℤ p), mag_negated p, mag_mul y (quotient x y)) } in
    let z = to_z-of_z w64 p f in
    record { product = rw (v, w) f; fits = rw (u, v, w, z) g; said = rw (u, v, w, z) (to_z-of_z w64 (x -ℤ p) g) }
