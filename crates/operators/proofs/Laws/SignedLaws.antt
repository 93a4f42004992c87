-- Whole numbers by sign and magnitude: 64 bits hold what the operators of Int compute on the way (01, 'Table and turns').
use Prim.Native.Nat.{ℕ, zero, suc, ◌+◌, ◌-◌, ◌*◌, ◌/◌, ◌%◌, ◌<◌, ◌≤◌}
use Rattle.std.proofs.Common.{arith, sym, ap, ◌∙◌, SFits, to_z, of_z, le-ltb, eqb-true}
use Rattle.std.proofs.Math.Nat.{mul-le-mul, div-add-mod}
use Rattle.std.specs.Prelude.{◌≡◌, refl, Bool, true, false, cond, ltb, eqb, ℤ, pos, negsuc, neg_ℤ, ◌+ℤ◌, ◌-ℤ◌, ◌*ℤ◌}
use Rattle.std.proofs.Math.IntN.{sub_ℕ}
use Rattle.std.specs.Int.Signed.{mag, mag_shr}
use Rattle.std.specs.Int.{w64}
use Rattle.std.proofs.lemmas.Int.{to_z-of_z}
use Rattle.std.proofs.lemmas.Bool.{eqb-false}
use Rattle.types.specs.Limits.{int_half}
use Rattle.operators.specs.Operators.{quotient, remainder}
use Rattle.operators.specs.Apply.{same_int}
use Rattle.operators.proofs.Laws.TestLaws.{same_int_exact, fails}

mag_neg : (n : ℕ) → mag (neg_ℤ (pos n)) ≤ n
mag_neg zero = omega arith
mag_neg (suc n) = omega arith

pub mag_negated : (z : ℤ) → mag (neg_ℤ z) ≤ suc (mag z)
mag_negated (pos zero) = omega arith
mag_negated (pos (suc n)) = omega arith
mag_negated (negsuc n) = omega arith

mag_sub : (a b : ℕ) → mag (sub_ℕ a b) ≤ a + b
mag_sub a b = go (ltb a b)
  where
    go : (t : Bool) → mag (cond t (negsuc (b - suc a)) (pos (a - b))) ≤ a + b
    go true = omega arith
    go false = omega arith

pub mag_add : (x y : ℤ) → mag (x +ℤ y) ≤ suc (mag x + mag y)
mag_add (pos a) (pos b) = omega arith
mag_add (pos a) (negsuc b) = omega (arith, mag_sub a (suc b))
mag_add (negsuc a) (pos b) = omega (arith, mag_sub b (suc a))
mag_add (negsuc a) (negsuc b) = omega arith

pub mag_mul : (x y : ℤ) → mag (x *ℤ y) ≤ suc (mag x) * suc (mag y)
mag_mul (pos a) (pos b) = mul-le-mul (omega arith) (omega arith)
mag_mul (pos a) (negsuc b) =
    let h : a * suc b ≤ suc a * suc b = mul-le-mul (omega arith) (omega arith) in omega (arith, mag_neg (a * suc b))
mag_mul (negsuc a) (pos b) =
    let h : suc a * b ≤ suc a * suc b = mul-le-mul (omega arith) (omega arith) in omega (arith, mag_neg (suc a * b))
mag_mul (negsuc a) (negsuc b) = omega arith

pub mag_quotient : (x y : ℤ) → mag (quotient x y) ≤ suc (mag x)
unfolding quotient
mag_quotient x (pos n) = omega (arith, mag_shr x n)
mag_quotient x (negsuc n) = omega (arith, mag_shr (neg_ℤ x) (suc n), mag_negated x)

-- a number as it comes back from its 64 bits
abbrev pub through : ℤ → ℤ
through z = to_z w64 (of_z w64 z)

-- A number of Int, or one beside its ends, comes back from its 64 bits.
pub back : {x : ℤ} → mag x ≤ int_half → through x ≡ x
back {x} h = to_z-of_z w64 x (record { sfits = omega arith })

-- the remainder ---------------------------------------------------------------------

up : (m d : ℕ) → pos m -ℤ pos (d * (m / d)) ≡ pos (m % d)
up m d = go (d * (m / d)) (div-add-mod m d)
  where
    go : (n : ℕ) → n + m % d ≡ m → pos m -ℤ pos n ≡ pos (m % d)
    go zero e = ap pos (omega arith)
    go (suc n) e = rw (le-ltb m (suc n) (omega arith)) (ap pos (omega arith))

-- The remainder of two numbers from zero on is theirs.
pub remainder_nat : (a b : ℕ) → remainder (pos a) (pos b) ≡ pos (a % b)
unfolding remainder quotient
remainder_nat a b = up a b

-- an operation of the machine on two numbers of Int --------------------------------------

-- its result fits, and is that of the numbers themselves
pub record Carries (f : ℤ → ℤ → ℤ) (x y : ℤ) : Type 0 where
  pub fits : SFits w64 (f (through x) (through y))
  pub gives : through (f (through x) (through y)) ≡ f x y

carries : (f : ℤ → ℤ → ℤ) {x y : ℤ} → SFits w64 x → SFits w64 y → SFits w64 (f x y) → Carries f x y
carries f {x} {y} a b c =
    let e = to_z-of_z w64 x a in
    let d = to_z-of_z w64 y b in
    record { fits = rw (e, d) c; gives = rw (e, d) (to_z-of_z w64 (f x y) c) }

-- Bits that are zero are zero's.
pub zero_bits : {y : ℤ} → SFits w64 y → of_z w64 y ≡ 0 → y ≡ pos 0
zero_bits {y} g e = sym (to_z-of_z w64 y g) ∙ ap (to_z w64) e

module _ {x y : ℤ} (f : SFits w64 x) (g : SFits w64 y) where
  -- Equal bits are equal numbers.
  pub bits_same : eqb (of_z w64 x) (of_z w64 y) ≡ same_int x y
  bits_same = go (eqb (of_z w64 x) (of_z w64 y)) refl
    where
      go : (t : Bool) → eqb (of_z w64 x) (of_z w64 y) ≡ t → t ≡ same_int x y
      go true e =
          sym
          ((same_int_exact x y).1 (sym (to_z-of_z w64 x f) ∙ ap (to_z w64) (eqb-true (of_z w64 x) (of_z w64 y) e) ∙ to_z-of_z w64 y g))
      go false e =
          sym ((fails (same_int x y) (same_int_exact x y)).1 λ q. eqb-false (of_z w64 x) (of_z w64 y) e (ap (of_z w64) q))

  -- Sum, difference and product of two numbers of Int fit 64 bits.
  module _ (p : (mag x < int_half) × (mag y < int_half)) where
    pub sum_carries : Carries ◌+ℤ◌ x y
    sum_carries = carries ◌+ℤ◌ f g (record { sfits = omega (arith, mag_add x y) })

    pub difference_carries : Carries ◌-ℤ◌ x y
    difference_carries = carries ◌-ℤ◌ f g (record { sfits = omega (arith, mag_add x (neg_ℤ y), mag_negated y) })

    pub product_carries : Carries ◌*ℤ◌ x y
    product_carries =
        let h : suc (mag x) * suc (mag y) ≤ int_half * int_half = mul-le-mul p.0 p.1 in
        carries ◌*ℤ◌ f g (record { sfits = omega (arith, mag_mul x y) })

  -- The operands of a division, as they come back.
  pub operands : (mag x < int_half) × (mag y < int_half) → (of_z w64 y ≡ 0 → ⊥)
      → (mag (through x) < int_half) × (mag (through y) < int_half) × (through y ≡ pos 0 → ⊥)
  operands (h, i) k = rw (to_z-of_z w64 x f, to_z-of_z w64 y g) (h, i, λ e. k (ap (of_z w64) e))

  -- So do quotient and remainder.
  pub quotient_carries : mag x < int_half → Carries quotient x y
  quotient_carries h = carries quotient f g (record { sfits = omega (arith, mag_quotient x y) })

  pub remainder_carries : (mag x < int_half) × (mag y < int_half) → Carries remainder x y
  unfolding remainder
  remainder_carries (h, k) =
      let q : suc (mag (quotient x y)) ≤ int_half + 1 = omega (arith, mag_quotient x y) in
      let m : suc (mag y) * suc (mag (quotient x y)) ≤ int_half * (int_half + 1) = mul-le-mul k q in
      carries remainder f g
      (record { sfits = omega (arith, mag_add x (neg_ℤ (y *ℤ quotient x y)), mag_negated (y *ℤ quotient x y), mag_mul y (quotient x y)) })
