-- Gaps in a row are one gap; what goes on from place to place of a gap goes on from one end of it to the other, either way (02 §1). Where nothing was written
-- yet there is a gap.
use Rattle.std.specs.Prelude.{ℕ, zero, suc, ◌+◌, ◌-◌, ◌≤◌, ◌<◌, ◌≡◌, refl, Bool, true, false, List, length, get_or, take, replicate, leb}
use Rattle.std.proofs.Common.{arith, leb-true, leb-false}
use Rattle.std.specs.Int.Bits.{bit_and, bit_or, or_add_and}
use Rattle.std.proofs.lemmas.Nat.{and_le_l, and_le_r}
use Rattle.lexer.specs.Gaps.{Gap}

-- what is 0 together is 0
pub or_none : (a b : ℕ) → bit_or a b ≡ 0 → (a ≡ 0) × (b ≡ 0)
or_none a b e = go (bit_or a b) (bit_and a b) (or_add_and a b) (and_le_l a b) (and_le_r a b) e
  where
    go : (o n : ℕ) → o + n ≡ a + b → n ≤ a → n ≤ b → o ≡ 0 → (a ≡ 0) × (b ≡ 0)
    go o n s l m e = (omega arith, omega arith)

zero_fresh : (n m p : ℕ) → get_or {A = ℕ} (take n (replicate m 0)) p 0 ≡ 0
zero_fresh zero m p = refl
zero_fresh (suc n) zero p = refl
zero_fresh (suc n) (suc m) zero = refl
zero_fresh (suc n) (suc m) (suc p) = zero_fresh n m p

-- the front of an array of zeros
pub gap_fresh : (n m : ℕ) → Gap (take n (replicate m 0)) 0 (length {A = ℕ} (take n (replicate m 0)))
gap_fresh n m = record { behind = omega arith; inner = omega arith; zeros = λ p a b. zero_fresh n m p }

module _ {kinds : List ℕ} where
  pub gap_none : {i : ℕ} → i ≤ length kinds → Gap kinds i i
  gap_none h = record { behind = omega arith; inner = h; zeros = λ p a b. absurd (omega (arith, a, b)) }

  -- the same two places, as other sums
  pub gap_as : {i j k l : ℕ} → Gap kinds i j → i ≡ k → j ≡ l → Gap kinds k l
  gap_as g e f = record { behind = omega (arith, g.behind, e, f); inner = omega (arith, g.inner, f); zeros = λ p a b. g.zeros p (omega (arith, a, e)) (omega (arith, b, f)) }

  pub gap_one : {i : ℕ} → i < length kinds → get_or kinds i 0 ≡ 0 → Gap kinds i (i + 1)
  gap_one {i} h e =
      record {
        behind = omega arith;
        inner = omega (arith, h);
        zeros = λ p a b. (let w : p ≡ i = omega (arith, a, b) in rw w e);
      }

  module _ {i j k : ℕ} (g : Gap kinds i j) (h : Gap kinds j k) where
    zero_at : (p : ℕ) → i ≤ p → p < k → get_or kinds p 0 ≡ 0
    zero_at p a b = go (leb j p) refl
      where
        go : (q : Bool) → leb j p ≡ q → get_or kinds p 0 ≡ 0
        go true f = h.zeros p (leb-true j p f) b
        go false f = g.zeros p a (leb-false j p f)

    pub gap_join : Gap kinds i k
    gap_join = record { behind = omega (arith, g.behind, h.behind); inner = h.inner; zeros = zero_at }

  -- one place more; four places by the kinds of all, and eight
  gap_on : {i j k : ℕ} → Gap kinds i j → j < length kinds → get_or kinds j 0 ≡ 0 → j + 1 ≡ k → Gap kinds i k
  gap_on g h z e = rw e at (gap_join g (gap_one h z))

  pub gap_four : {i : ℕ} → i + 4 ≤ length kinds
      → bit_or (bit_or (bit_or (get_or kinds i 0) (get_or kinds (i + 1) 0)) (get_or kinds (i + 2) 0)) (get_or kinds (i + 3) 0) ≡ 0 → Gap kinds i (i + 4)
  gap_four {i} h e =
      let (x, d) = or_none _ (get_or kinds (i + 3) 0) e in let (y, c) = or_none _ (get_or kinds (i + 2) 0) x in
      let (a, b) = or_none (get_or kinds i 0) (get_or kinds (i + 1) 0) y in
      let two : Gap kinds i (i + 2) = gap_on (gap_one (omega arith) a) (omega arith) b (omega arith) in
      gap_on {j = i + 3} (gap_on two (omega arith) c (omega arith)) (omega arith) d (omega arith)

  pub gap_eight : {i : ℕ} → Gap kinds i (i + 4) → Gap kinds (i + 4) (i + 4 + 4) → Gap kinds i (i + 8)
  gap_eight {i} g h = let w : i + 4 + 4 ≡ i + 8 = omega arith in rw w at (gap_join g h)

  -- one place more in front
  pub gap_front : {i j : ℕ} → 0 < i → get_or kinds (i - 1) 0 ≡ 0 → Gap kinds i j → Gap kinds (i - 1) j
  gap_front {i} {j} h e g =
      let w : i - 1 + 1 ≡ i = omega (arith, h) in
      gap_join (rw w at (gap_one {i = i - 1} (omega (arith, h, g.behind, g.inner)) e)) g

  module _ (P : ℕ → Type 0) where
    module _ (on : (p : ℕ) → p < length kinds → get_or kinds p 0 ≡ 0 → P p → P (p + 1)) where
      forward : (d : ℕ) {i j : ℕ} → Gap kinds i j → i + d ≡ j → P i → P j
      forward zero {i} {j} g e x = let f : i ≡ j = omega (arith, e) in rw f at x
      forward (suc d) {i} {j} g e x =
          forward d (record { behind = omega (arith, e); inner = g.inner; zeros = λ p a b. g.zeros p (omega (arith, a)) b }) (omega (arith, e))
          (on i (omega (arith, e, g.inner)) (g.zeros i (omega arith) (omega (arith, e))) x)

      -- on over a gap
      pub gap_over : {i j : ℕ} → Gap kinds i j → P i → P j
      gap_over {i} {j} g x = forward (j - i) g (omega (arith, g.behind)) x

    module _ (back : (p : ℕ) → p < length kinds → get_or kinds p 0 ≡ 0 → P (p + 1) → P p) where
      backward : (d : ℕ) {i j : ℕ} → Gap kinds i j → i + d ≡ j → P j → P i
      backward zero {i} {j} g e x = let f : j ≡ i = omega (arith, e) in rw f at x
      backward (suc d) {i} {j} g e x =
          back i (omega (arith, e, g.inner)) (g.zeros i (omega arith) (omega (arith, e)))
          (backward d (record { behind = omega (arith, e); inner = g.inner; zeros = λ p a b. g.zeros p (omega (arith, a)) b }) (omega (arith, e)) x)

      -- back over a gap
      pub gap_back : {i j : ℕ} → Gap kinds i j → P j → P i
      gap_back {i} {j} g x = backward (j - i) g (omega (arith, g.behind)) x
