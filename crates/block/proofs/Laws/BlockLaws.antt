-- Laws of one block (01, 'Blocks'): the tests of its sums and of its layout are exact.
use Rattle.std.specs.Prelude.{◌≡◌, ℕ, zero, suc, ◌+◌, ◌-◌, ◌<◌, ◌≤◌, Bool, true, false, List, [], ◌∷◌, length, take, ◌≢◌, refl, IsTrue, ◌↔◌, EachIndex}
use Rattle.std.proofs.Common.{arith, add-one, ap, sym, ◌∙◌, length-take, drop_of_length-le, get_or-take, get_or-drop, ne_eqb, true≢false}
use Rattle.std.proofs.Math.ListN.{get_or-eq_default}
use Rattle.std.proofs.Math.Seq.{slice, slice-cons}
use Rattle.block.specs.Sums.{byte, sum_a, sum_b}
use Rattle.little_endian.specs.Numbers.{pair_at}
use Rattle.block.specs.Block.{index, used, unused_part, SumsRight, UsedRight, LaidOut, sums_right, used_right, zeros, laid_out, payload_size}
use Rattle.types.specs.Reflects.{Reflects, Reflects.holds, Reflects.fails, reflects_map, reflects_both, le_reflects, eq_reflects}

-- The tests are exact ---------------------------------------------------------

pub sums_exact : (b : List ℕ) → Reflects (SumsRight b) (sums_right b)
unfolding sums_right
sums_exact b =
    reflects_map (λ p. record { a_right = p.0; b_right = p.1 }) (λ r. (r.a_right, r.b_right))
    (reflects_both (eq_reflects (pair_at b 508) (sum_a b)) (eq_reflects (pair_at b 510) (sum_b b)))

pub used_exact : (last : Bool) (u : ℕ) → Reflects (UsedRight last u) (used_right last u)
unfolding used_right
used_exact true u = reflects_both (le_reflects 1 u) (le_reflects u payload_size)
used_exact false u = eq_reflects u payload_size

zeros_exact : (xs : List ℕ) → Reflects ((i : ℕ) → byte xs i ≡ 0) (zeros xs)
unfolding zeros
zeros_exact [] = holds (λ i. refl)
zeros_exact (x ∷ xs) = reflects_map every (λ p. (p zero, λ i. p (suc i))) (reflects_both (eq_reflects x 0) (zeros_exact xs))
  where
    every : (x ≡ 0) × ((i : ℕ) → byte xs i ≡ 0) → (i : ℕ) → byte (x ∷ xs) i ≡ 0
    every p zero = p.0
    every p (suc i) = p.1 i

-- a test that holds where each byte is zero is that test
pub zeros_told : (xs : List ℕ) (t : Bool) → (IsTrue t ↔ EachIndex xs (λ i. byte xs i ≡ 0)) → t ≡ zeros xs
zeros_told xs t told = go t told (zeros_exact xs)
  where
    whole : EachIndex xs (λ i. byte xs i ≡ 0) → (i : ℕ) → byte xs i ≡ 0
    whole p i = below (le_reflects (length xs) i)
      where
        below : {u : Bool} → Reflects (length xs ≤ i) u → byte xs i ≡ 0
        below (holds h) = get_or-eq_default xs 0 h
        below (fails n) = p i (omega arith)

    go : (t : Bool) → (IsTrue t ↔ EachIndex xs (λ i. byte xs i ≡ 0)) → {u : Bool} → Reflects ((i : ℕ) → byte xs i ≡ 0) u → t ≡ u
    go true told (holds h) = refl
    go true told (fails n) = absurd (n (whole (told.0 refl)))
    go false told (holds h) = told.1 (λ i k. h i)
    go false told (fails n) = refl

-- the bytes of a part are those of the list from there on
slice_byte : (f t : ℕ) (b : List ℕ) (i : ℕ) → f + i < t → byte (slice f t b) i ≡ byte b (f + i)
slice_byte f t b i h = get_or-drop f (take t b) i 0 ∙ get_or-take t b (f + i) 0 h

slice_past : (f t : ℕ) (b : List ℕ) (i : ℕ) → t ≤ f + i → byte (slice f t b) i ≡ 0
slice_past f t b i h = get_or-drop f (take t b) i 0 ∙ get_or-eq_default (take t b) 0 (omega (arith, length-take t b))

unused_exact : (b : List ℕ) → Reflects ((i : ℕ) → 4 + used b ≤ i → i < 508 → byte b i ≡ 0) (zeros (unused_part b))
unfolding unused_part
unused_exact b = reflects_map to from (zeros_exact (slice f 508 b))
  where
    f : ℕ
    f = 4 + used b

    to : ((i : ℕ) → byte (slice f 508 b) i ≡ 0) → (i : ℕ) → f ≤ i → i < 508 → byte b i ≡ 0
    to p i h k =
        let e : f + (i - f) ≡ i = omega arith in
        let q : f + (i - f) < 508 = omega arith in
        ap (λ (n : ℕ). byte b n) (sym e) ∙ sym (slice_byte f 508 b (i - f) q) ∙ p (i - f)

    from : ((i : ℕ) → f ≤ i → i < 508 → byte b i ≡ 0) → (i : ℕ) → byte (slice f 508 b) i ≡ 0
    from p i = go (le_reflects 508 (f + i))
      where
        go : {t : Bool} → Reflects (508 ≤ f + i) t → byte (slice f 508 b) i ≡ 0
        go (holds h) = slice_past f 508 b i h
        go (fails n) =
            let h : f + i < 508 = omega arith in
            slice_byte f 508 b i h ∙ p (f + i) (omega arith) h

pub layout_exact : (k : ℕ) (last : Bool) (b : List ℕ) → Reflects (LaidOut k last b) (laid_out k last b)
unfolding laid_out
layout_exact k last b =
    reflects_map (λ p. record { index_right = p.0; used_right = p.1.0; unused_zero = p.1.1 })
    (λ r. (r.index_right, (r.used_right, r.unused_zero)))
    (reflects_both (eq_reflects (index b) k) (reflects_both (used_exact last (used b)) (unused_exact b)))

-- a used part that is right ends before the sums
pub used_small : (last : Bool) (u : ℕ) → used_right last u ≡ true → u ≤ payload_size
used_small last u e = go last (used_exact last u) e
  where
    go : (last : Bool) {t : Bool} → Reflects (UsedRight last u) t → t ≡ true → u ≤ payload_size
    go true (holds h) e = h.1
    go false (holds h) e = omega arith
    go last (fails n) e = absurd (true≢false (sym e))

-- A walk over the bytes up to 507 -------------------------------------------------

pub zeros_more : (b : List ℕ) (i : ℕ) → 508 ≤ length b → i < 508 → byte b i ≡ 0 → zeros (slice i 508 b) ≡ zeros (slice (i + 1) 508 b)
unfolding zeros
zeros_more b i full h e = rw (add-one, slice-cons i 508 b 0 h full, e)

pub zeros_stop : (b : List ℕ) (i : ℕ) → 508 ≤ length b → i < 508 → (byte b i ≢ 0) → zeros (slice i 508 b) ≡ false
unfolding zeros
zeros_stop b i full h n = rw (slice-cons i 508 b 0 h full, ne_eqb (byte b i) 0 n)

pub zeros_end : (b : List ℕ) (i : ℕ) → 508 ≤ i → zeros (slice i 508 b) ≡ true
unfolding zeros
zeros_end b i h = rw (drop_of_length-le (take 508 b) {i = i} (omega (arith, length-take 508 b)))
