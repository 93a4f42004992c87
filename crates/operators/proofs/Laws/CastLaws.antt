-- A word to the Int that it is in two's complement, and a whole number back to a word, or to number 35, by tests of the number and sums that are cast
-- (01, 'Program stream').
use Rattle.std.specs.Prelude.{ℕ, suc, ◌<◌, ◌≤◌, ◌≡◌, refl, true, false, T, nat_abs, ℤ, pos, negsuc, ◌+ℤ◌, ◌-ℤ◌, Ok, Err}
use Rattle.std.proofs.Common.{arith, le_of_lt, sym, true≢false, Fits, SFits, to_z, ltb-true, ltb-false, lt-ltb, le-ltb}
use Rattle.std.proofs.lemmas.Bool.{false≢true}
use Rattle.std.proofs.Math.Option.{some}
use Rattle.std.specs.Int.Signed.{mag, lt_z, non_neg}
use Rattle.std.specs.Int.{w32, w64}
use Rattle.std.proofs.lemmas.Int.{to_z-of_z, to_z_pos}
use Rattle.types.specs.Limits.{int_half, nat_end}
use Rattle.types.specs.Values.{in_int, int_word, word_int}
use Rattle.operators.specs.Apply.{int_answer}
use Rattle.operators.proofs.Laws.SignedLaws.{through, back}
use Rattle.operators.proofs.Laws.IntLaws.{word_low, word_high, in_said, out_said}
use Rattle.operators.specs.Words.{answered, IntOf}
use Rattle.operators.specs.declared.OperatorError.TheVariants.{Outside}

-- a word to an Int --------------------------------------------------------------

-- A word below 2147483648 is read as it stands.
pub int_of_low : (a : ℕ) → a < int_half → IntOf a (to_z w64 a)
int_of_low a h = rw (to_z_pos w64 a (omega arith)) (record { is = sym (word_low a h); small = h })

high_sub : (a : ℕ) → int_half ≤ a → a < nat_end → to_z w64 a -ℤ pos nat_end ≡ word_int a
high_sub a h k = rw (to_z_pos w64 a (omega arith), word_high a h, lt-ltb a nat_end k)

high_small : (a : ℕ) → int_half ≤ a → a < nat_end → mag (word_int a) < int_half
high_small a h k = rw (word_high a h) (omega arith)

pub int_of_fits : (a : ℕ) → int_half ≤ a → a < nat_end → SFits w64 (to_z w64 a -ℤ pos nat_end)
int_of_fits a h k = rw (high_sub a h k) (record { sfits = omega (arith, high_small a h k) })

-- From there on it is read as 4294967296 less.
pub int_of_high : (a : ℕ) → int_half ≤ a → a < nat_end → IntOf a (through (to_z w64 a -ℤ pos nat_end))
int_of_high a h k =
    rw (high_sub a h k, back (le_of_lt (high_small a h k))) (record { is = refl; small = high_small a h k })

-- a whole number to a word ----------------------------------------------------------

-- the word of an Int z is the number w
record Is (z w : ℤ) : Type 0 where
  inside : in_int z ≡ true
  same : w ≡ pos (int_word z)
  below : int_word z < nat_end

too_low : (z : ℤ) → lt_z z (negsuc 2147483647) ≡ true → in_int z ≡ false
unfolding in_int
too_low (pos n) e = absurd (false≢true e)
too_low (negsuc n) e = le-ltb n int_half (ltb-true 2147483647 n e)

low : (z : ℤ) → lt_z z (pos 0) ≡ true → lt_z z (negsuc 2147483647) ≡ false → Is z (z +ℤ pos nat_end)
unfolding in_int int_word
low (pos n) e h = absurd (omega (arith, ltb-true n 0 e))
low (negsuc n) e h =
    let k : n < int_half = omega (arith, ltb-false 2147483647 n h) in
    record { inside = lt-ltb n int_half k; same = rw (le-ltb nat_end (suc n) (omega arith)); below = omega arith }

high : (z : ℤ) → lt_z z (pos 0) ≡ false → lt_z z (pos int_half) ≡ true → Is z z
unfolding in_int int_word
high (pos n) e h = let k = ltb-true n int_half h in record { inside = h; same = refl; below = omega arith }
high (negsuc n) e h = absurd (true≢false e)

too_high : (z : ℤ) → lt_z z (pos 0) ≡ false → lt_z z (pos int_half) ≡ false → in_int z ≡ false
unfolding in_int
too_high (pos n) e h = h
too_high (negsuc n) e h = absurd (true≢false e)

-- a number that is taken for a word: its bits, the cast of them, and the answer
pub record Taken (z w : ℤ) : Type 0 where
  pub fits : SFits w64 w
  pub casts : (T (non_neg (through w))) × (Fits w32 (nat_abs (through w)))
  pub said : Ok (nat_abs (through w)) ≡ answered (int_answer (some z))

taken : {z w : ℤ} → Is z w → Taken z w
taken {z} {w} i =
    let b = i.below in
    let f : SFits w64 (pos (int_word z)) = record { sfits = omega arith } in
    rw i.same
    (record {
      fits = f;
      casts = rw (to_z-of_z w64 (pos (int_word z)) f) (tt, record { fits = b });
      said = rw (to_z-of_z w64 (pos (int_word z)) f) (in_said z i.inside);
    })

-- What the code's tests tell of a number as it comes back from its 64 bits.
module _ {z : ℤ} (f : SFits w64 z) where
  -- Below -2147483648 the answer is 35.
  pub int_too_low : lt_z (through z) (negsuc 2147483647) ≡ true → Err Outside ≡ answered (int_answer (some z))
  int_too_low h = out_said z (too_low z (rw (to_z-of_z w64 z f) at h))

  -- A negative Int's word is 4294967296 more.
  pub int_low : lt_z (through z) (pos 0) ≡ true → lt_z (through z) (negsuc 2147483647) ≡ false
      → Taken z (through z +ℤ pos nat_end)
  int_low e h = rw (to_z-of_z w64 z f) (taken (low z (rw (to_z-of_z w64 z f) at e) (rw (to_z-of_z w64 z f) at h)))

  -- An Int from zero on is its word.
  pub int_high : lt_z (through z) (pos 0) ≡ false → lt_z (through z) (pos int_half) ≡ true → Taken z z
  int_high e h = taken (high z (rw (to_z-of_z w64 z f) at e) (rw (to_z-of_z w64 z f) at h))

  -- From 2147483648 on the answer is 35.
  pub int_too_high : lt_z (through z) (pos 0) ≡ false → lt_z (through z) (pos int_half) ≡ false
      → Err Outside ≡ answered (int_answer (some z))
  int_too_high e h = out_said z (too_high z (rw (to_z-of_z w64 z f) at e) (rw (to_z-of_z w64 z f) at h))
