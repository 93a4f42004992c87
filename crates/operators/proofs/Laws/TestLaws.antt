-- The tests of equality and of range pass exactly where they should.
use Rattle.std.specs.Prelude.{ℕ, ◌<◌, ◌≡◌, refl, ◌↔◌, Bool, true, false, ltb, ℤ, pos, negsuc}
use Rattle.std.proofs.Common.{sym, ap, true≢false, ltb-true, lt-ltb, eqb-true, eq-eqb}
use Rattle.std.proofs.lemmas.Bool.{false≢true}
use Rattle.types.specs.Limits.{nat_end, int_half}
use Rattle.types.specs.Values.{Val, Val.int_val, Val.nat_val, Val.bool_val, Val.label, IntRange, in_int}
use Rattle.operators.specs.Apply.{same_int, same_bool, same_val}

same_int_true : (x y : ℤ) → same_int x y ≡ true → x ≡ y
unfolding same_int
same_int_true (pos m) (pos n) e = ap pos (eqb-true m n e)
same_int_true (pos m) (negsuc n) e = cc
same_int_true (negsuc m) (pos n) e = cc
same_int_true (negsuc m) (negsuc n) e = ap negsuc (eqb-true m n e)

same_int_refl : (x : ℤ) → same_int x x ≡ true
unfolding same_int
same_int_refl (pos m) = eq-eqb m m refl
same_int_refl (negsuc m) = eq-eqb m m refl

-- The test of two whole numbers passes exactly where they are one.
pub same_int_exact : (x y : ℤ) → (same_int x y ≡ true) ↔ (x ≡ y)
same_int_exact x y = (same_int_true x y, λ e. rw (← e) (same_int_refl x))

same_bool_true : (s t : Bool) → same_bool s t ≡ true → s ≡ t
unfolding same_bool
same_bool_true true t e = sym e
same_bool_true false true e = cc
same_bool_true false false e = refl

same_val_true : (x y : Val) → same_val x y ≡ true → x ≡ y
unfolding same_val
same_val_true (int_val x) (int_val y) e = ap int_val (same_int_true x y e)
same_val_true (int_val x) (nat_val n) e = cc
same_val_true (int_val x) (bool_val t) e = cc
same_val_true (int_val x) (label l) e = cc
same_val_true (nat_val m) (int_val y) e = cc
same_val_true (nat_val m) (nat_val n) e = ap nat_val (eqb-true m n e)
same_val_true (nat_val m) (bool_val t) e = cc
same_val_true (nat_val m) (label l) e = cc
same_val_true (bool_val s) (int_val y) e = cc
same_val_true (bool_val s) (nat_val n) e = cc
same_val_true (bool_val s) (bool_val t) e = ap bool_val (same_bool_true s t e)
same_val_true (bool_val s) (label l) e = cc
same_val_true (label l) (int_val y) e = cc
same_val_true (label l) (nat_val n) e = cc
same_val_true (label l) (bool_val t) e = cc
same_val_true (label l) (label m) e = ap label (eqb-true l m e)

same_val_refl : (x : Val) → same_val x x ≡ true
unfolding same_val same_bool
same_val_refl (int_val x) = same_int_refl x
same_val_refl (nat_val n) = eq-eqb n n refl
same_val_refl (bool_val true) = refl
same_val_refl (bool_val false) = refl
same_val_refl (label l) = eq-eqb l l refl

-- The test of two values passes exactly where they are one.
pub same_val_exact : (x y : Val) → (same_val x y ≡ true) ↔ (x ≡ y)
same_val_exact x y = (same_val_true x y, λ e. rw (← e) (same_val_refl x))

-- A test that passes exactly where A holds fails exactly where A does not.
pub fails : {A : Type 0} (t : Bool) → (t ≡ true) ↔ A → (t ≡ false) ↔ (A → ⊥)
fails true h = (λ e. absurd (true≢false e), λ f. absurd (f (h.0 refl)))
fails false h = (λ e a. false≢true (h.1 a), λ f. refl)

-- The test of two values fails exactly where they are two.
pub same_val_false : (x y : Val) → (same_val x y ≡ false) ↔ (x ≡ y → ⊥)
same_val_false x y = fails (same_val x y) (same_val_exact x y)

-- The test of Int's range passes exactly there.
pub in_int_exact : (z : ℤ) → (in_int z ≡ true) ↔ (IntRange z)
unfolding in_int
in_int_exact (pos n) = (ltb-true n int_half, lt-ltb n int_half)
in_int_exact (negsuc n) = (ltb-true n int_half, lt-ltb n int_half)

-- The test of Nat's range passes exactly there.
pub in_nat_exact : (n : ℕ) → (ltb n nat_end ≡ true) ↔ (n < nat_end)
in_nat_exact n = (ltb-true n nat_end, lt-ltb n nat_end)
