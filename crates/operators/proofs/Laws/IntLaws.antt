-- A word to the Int that it is in two's complement, and a whole number back to a word, or to number 35, as the code's tests tell (01, 'Program stream').
use Rattle.std.specs.Prelude.{ℕ, suc, ◌-◌, ◌<◌, ◌≤◌, ◌≡◌, refl, Bool, true, false, ltb, ℤ, pos, negsuc, ◌+ℤ◌, ◌-ℤ◌, ◌*ℤ◌, Ok, Err}
use Rattle.std.proofs.Common.{arith, le_of_lt, ap, ◌∙◌, SFits, to_z, of_z, ltb-true, lt-ltb, le-ltb}
use Rattle.std.proofs.lemmas.Bool.{false_from_ne_true}
use Rattle.std.proofs.Math.Option.{some}
use Rattle.std.specs.Int.Signed.{mag}
use Rattle.std.specs.Int.{w32, w64}
use Rattle.std.proofs.lemmas.Int.{to_z-of_z}
use Rattle.types.specs.Limits.{int_half, nat_end}
use Rattle.types.specs.Values.{in_int, int_word, word_int, word}
use Rattle.operators.specs.Apply.{int_answer}
use Rattle.operators.proofs.Laws.SignedLaws.{through, back, sum_carries, difference_carries, product_carries}
use Rattle.operators.specs.Words.{answered, IntOf}
use Rattle.operators.specs.declared.OperatorError.TheVariants.{Outside}

-- a word to an Int --------------------------------------------------------------

-- The Int of a word below 2147483648, and from there on.
pub word_low : (a : ℕ) → a < int_half → word_int a ≡ pos a
unfolding word_int
word_low a h = rw (lt-ltb a int_half h, word_int)

pub word_high : (a : ℕ) → int_half ≤ a → word_int a ≡ negsuc (nat_end - suc a)
unfolding word_int
word_high a h = rw (le-ltb a int_half h, word_int)

-- Its bits are read so.
pub word_signed : (a : ℕ) → to_z w32 a ≡ word_int a
unfolding word_int
word_signed a = go (ltb a int_half) refl
  where
    go : (t : Bool) → ltb a int_half ≡ t → to_z w32 a ≡ word_int a
    go true e = rw (e, word_int)
    go false e = rw (e, word_int)

-- A word's 32 bits, read with a sign and taken for 64.
pub int_of_word : {a : ℕ} {s r : ℤ} → mag s < int_half → s ≡ to_z w32 a → r ≡ to_z w32 (of_z w32 s) → IntOf a (through r)
int_of_word {a} {s} {r} h e d =
    let same : r ≡ s = d ∙ to_z-of_z w32 s (record { sfits = h }) in
    rw (same, back {x = s} (omega arith)) (record { is = e ∙ word_signed a; small = h })

-- A word's Int comes back from its 64 bits.
pub int_of_back : {a : ℕ} {x : ℤ} → IntOf a x → through x ≡ word_int a
int_of_back i = back (le_of_lt i.small) ∙ i.is

-- a whole number to a word ----------------------------------------------------------

pub out_said : (z : ℤ) → in_int z ≡ false → Err Outside ≡ answered (int_answer (some z))
unfolding answered int_answer
out_said z e = rw (e, int_answer)

pub in_said : (z : ℤ) → in_int z ≡ true → Ok (int_word z) ≡ answered (int_answer (some z))
unfolding answered int_answer word
in_said z e = rw (e, int_answer)

in_range : (z : ℤ) → SFits w32 z → in_int z ≡ true
unfolding in_int
in_range (pos n) f = lt-ltb n int_half f.sfits
in_range (negsuc n) f = lt-ltb n int_half f.sfits

out_of_range : (z : ℤ) → (SFits w32 z → ⊥) → in_int z ≡ false
unfolding in_int
out_of_range (pos n) h = false_from_ne_true (ltb n int_half) λ e. h (record { sfits = ltb-true n int_half e })
out_of_range (negsuc n) h = false_from_ne_true (ltb n int_half) λ e. h (record { sfits = ltb-true n int_half e })

bits_word : (z : ℤ) → of_z w32 z ≡ int_word z
unfolding int_word
bits_word (pos n) = refl
bits_word (negsuc n) = refl

-- What the code's tests tell of a number as it comes back from its 64 bits.
module _ {z : ℤ} (f : SFits w64 z) where
  -- Outside of 32 bits with a sign the answer is 35.
  pub int_outside : (SFits w32 (through z) → ⊥) → Err Outside ≡ answered (int_answer (some z))
  int_outside h = out_said z (out_of_range z (rw (to_z-of_z w64 z f) at h))

  -- Within them it is those bits.
  pub int_inside : {n : ℤ} {w : ℕ} → (SFits w32 (through z)) × (n ≡ through z) → w ≡ of_z w32 (to_z w32 (of_z w32 n))
      → Ok w ≡ answered (int_answer (some z))
  int_inside {n} {w} (g, e) d =
      let g' : SFits w32 z = rw (to_z-of_z w64 z f) at g in
      let e' : n ≡ z = e ∙ to_z-of_z w64 z f in
      let d' : w ≡ int_word z = d ∙ rw (e', to_z-of_z w32 z g') (bits_word z) in
      ap Ok d' ∙ in_said z (in_range z g')

-- what is computed of two words ------------------------------------------------------

module _ {a b : ℕ} {x y : ℤ} (h : IntOf a x) (k : IntOf b y) where
  left : SFits w64 x
  left = let l = h.small in record { sfits = omega arith }

  right : SFits w64 y
  right = let l = k.small in record { sfits = omega arith }

  pub product_words : through (through x *ℤ through y) ≡ word_int a *ℤ word_int b
  product_words = (product_carries left right (h.small, k.small)).gives ∙ rw (h.is, k.is)

  pub sum_words : through (through x +ℤ through y) ≡ word_int a +ℤ word_int b
  sum_words = (sum_carries left right (h.small, k.small)).gives ∙ rw (h.is, k.is)

  pub difference_words : through (through x -ℤ through y) ≡ word_int a -ℤ word_int b
  difference_words = (difference_carries left right (h.small, k.small)).gives ∙ rw (h.is, k.is)
