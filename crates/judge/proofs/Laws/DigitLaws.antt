-- Digits to the base 256: what a mark changes, and that eight of them fit 64 bits (for the locals of 01, number 7).
use Rattle.std.specs.Prelude.{ℕ, zero, suc, ◌+◌, ◌*◌, ◌-◌, ◌/◌, ◌%◌, ◌^◌, ◌<◌, Bool, true, false, ◌≡◌, refl, eqb, ltb}
use Rattle.std.proofs.Common.{arith, zero-add, mul-one, pow-suc, mod-eq_of_lt, div-lt_iff_lt-mul, suc-add, ◌∙◌, sym, eq-eqb, ne_eqb, eqb-true, ltb-true, ltb-false}
use Rattle.std.proofs.Math.Nat.{pow-zero, one-le-pow, mul_assoc, zero-div, add-mod, div-eq_of_lt, div-add-mod', add-mul-div_right, mul-add-div_right, add-mul-mod_self_right, div-div-eq-div-mul}
use Rattle.std.proofs.Math.Path.{ap, subst}
use Rattle.std.proofs.lemmas.Bool.{eqb-false}
use Rattle.judge.specs.Facts.{digit, mark}

pos : (x : ℕ) → 0 < 256 ^ x
pos x = one-le-pow x 256 (omega arith)

-- a power behind a lower one
split : (x d : ℕ) → 256 ^ (x + suc d) ≡ 256 ^ d * 256 * 256 ^ x
split zero d = rw (zero-add, pow-suc, pow-zero, mul-one)
split (suc x) d = rw (suc-add, pow-suc 256 (x + suc d), pow-suc 256 x, split x d, mul_assoc (256 ^ d * 256) (256 ^ x) 256)

-- and what is left behind it
behind : (n x d : ℕ) → n / 256 ^ (x + suc d) ≡ n / 256 ^ x / 256 / 256 ^ d
behind n x d =
    let c : 256 ^ d * 256 * 256 ^ x ≡ 256 ^ x * 256 * 256 ^ d = omega arith in
    ap (λ m. n / m) (split x d ∙ c)
    ∙ sym (div-div-eq-div-mul n (256 ^ x * 256) (256 ^ d))
    ∙ ap (λ m. m / 256 ^ d) (sym (div-div-eq-div-mul n (256 ^ x) 256))

-- a quotient whose last digit is 0 takes a digit in
last : (q v : ℕ) → q % 256 ≡ 0 → v < 256 → (q + v) % 256 ≡ v
last q v e h = add-mod q v 256 ∙ rw (e, mod-eq_of_lt h, zero-add) (mod-eq_of_lt h)

kept : (q v : ℕ) → q % 256 ≡ 0 → v < 256 → (q + v) / 256 ≡ q / 256
kept q v e h =
    let s : q + v ≡ q / 256 * 256 + v = omega (arith, div-add-mod' q 256) in
    ap (λ n. n / 256) s ∙ mul-add-div_right {m = 256} (omega arith) (q / 256) v ∙ rw (div-eq_of_lt h) (omega arith)

module _ (w x v : ℕ) where
  -- where digit x is 0, a mark adds it
  pub mark_fresh : digit w x ≡ 0 → mark w x v ≡ w + v * 256 ^ x
  unfolding mark
  mark_fresh e = rw (eq-eqb (digit w x) 0 e, mark)

  -- and elsewhere changes nothing
  pub mark_kept : (digit w x ≡ 0 → ⊥) → mark w x v ≡ w
  unfolding mark
  mark_kept n = rw (ne_eqb (digit w x) 0 n, mark)

  -- digit x is then v
  pub digit_same : digit w x ≡ 0 → v < 256 → digit (mark w x v) x ≡ v
  unfolding digit
  digit_same e h = rw (mark_fresh e, add-mul-div_right w v (pos x)) (last (w / 256 ^ x) v e h)

  lower : (y d : ℕ) → x ≡ y + suc d → digit (w + v * 256 ^ x) y ≡ digit w y
  unfolding digit
  lower y d e =
      rw (e, split y d, ← mul_assoc v (256 ^ d * 256) (256 ^ y), add-mul-div_right w (v * (256 ^ d * 256)) (pos y), ← mul_assoc v (256 ^ d) 256)
      (add-mul-mod_self_right (w / 256 ^ y) (v * 256 ^ d) 256)

  higher : (y d : ℕ) → y ≡ x + suc d → digit w x ≡ 0 → v < 256 → digit (w + v * 256 ^ x) y ≡ digit w y
  unfolding digit
  higher y d e z h =
      rw (e, behind (w + v * 256 ^ x) x d, behind w x d, add-mul-div_right w v (pos x), kept (w / 256 ^ x) v z h)

  apart : (y : ℕ) → (y ≡ x → ⊥) → digit w x ≡ 0 → v < 256 → digit (mark w x v) y ≡ digit w y
  apart y n e h = ap (λ u. digit u y) (mark_fresh e) ∙ go (ltb x y) refl
    where
      go : (t : Bool) → ltb x y ≡ t → digit (w + v * 256 ^ x) y ≡ digit w y
      go true l = higher y (y - suc x) (omega (arith, ltb-true x y l)) e h
      go false l = lower y (x - suc y) (omega (arith, ltb-false x y l))

  -- a digit that is not 0 as it was, and every other
  pub digit_held : (y : ℕ) → (digit w y ≡ 0 → ⊥) → v < 256 → digit (mark w x v) y ≡ digit w y
  digit_held y n h = go (eqb y x) refl (eqb (digit w x) 0) refl
    where
      go : (s : Bool) → eqb y x ≡ s → (t : Bool) → eqb (digit w x) 0 ≡ t → digit (mark w x v) y ≡ digit w y
      go s p false q = ap (λ u. digit u y) (mark_kept (eqb-false (digit w x) 0 q))
      go true p true q = absurd (n (ap (digit w) (eqb-true y x p) ∙ eqb-true (digit w x) 0 q))
      go false p true q = apart y (eqb-false y x p) (eqb-true (digit w x) 0 q) h

  pub digit_other : (y : ℕ) → (y ≡ x → ⊥) → v < 256 → digit (mark w x v) y ≡ digit w y
  digit_other y n h = go (eqb (digit w x) 0) refl
    where
      go : (t : Bool) → eqb (digit w x) 0 ≡ t → digit (mark w x v) y ≡ digit w y
      go true q = apart y n (eqb-true (digit w x) 0 q) h
      go false q = ap (λ u. digit u y) (mark_kept (eqb-false (digit w x) 0 q))

  -- a number of eight digits stays one, d being the digits above x
  bounded : (d : ℕ) → x + suc d ≡ 8 → w < 256 ^ 8 → v < 256 → digit w x ≡ 0 → w + v * 256 ^ x < 256 ^ 8
  unfolding digit
  bounded d l b h e =
      let parts : 256 ^ 8 ≡ 256 ^ d * 256 * 256 ^ x = ap (λ n. 256 ^ n) (sym l) ∙ split x d in
      let q : w / 256 ^ x < 256 ^ d * 256 = (div-lt_iff_lt-mul (pos x)).1 (subst (λ n. w < n) parts b) in
      let r : w / 256 ^ x + v < 256 ^ d * 256 = omega (arith, div-add-mod' (w / 256 ^ x) 256) in
      subst (λ n. w + v * 256 ^ x < n) (sym parts) ((div-lt_iff_lt-mul (pos x)).0 (rw (add-mul-div_right w v (pos x)) r))

  pub mark_bound : w < 256 ^ 8 → x < 8 → v < 256 → mark w x v < 256 ^ 8
  mark_bound b l h = go (eqb (digit w x) 0) refl
    where
      go : (t : Bool) → eqb (digit w x) 0 ≡ t → mark w x v < 256 ^ 8
      go true t =
          let e = eqb-true (digit w x) 0 t in
          rw (mark_fresh e) (bounded (7 - x) (omega arith) b h e)
      go false t = rw (mark_kept (eqb-false (digit w x) 0 t)) b

-- a digit of 0
pub digit_zero : (x : ℕ) → digit 0 x ≡ 0
unfolding digit
digit_zero x = rw (zero-div)
