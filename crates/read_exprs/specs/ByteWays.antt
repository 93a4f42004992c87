-- Each way through the readers of one byte and of the literals (01, 'Program stream').
use Prim.Native.Nat.{ℕ, zero, suc, ◌+◌, ◌-◌, ◌*◌, ◌<◌, ◌≤◌}
use native.Mathlib.Omega.{arith}
use Rattle.std.proofs.Math.Decide.{dec_lt}
use Rattle.std.proofs.Math.Nat.{add-zero}
use Rattle.std.proofs.Math.Path.{◌≡◌, refl, ap}
use Rattle.std.proofs.Common.{◌∙◌}
use Rattle.std.specs.Prelude.{Bool, List, Ok, Err}
use mathlib.Core.Logic.{◌⊎◌, inl, inr}
use Rattle.answers.specs.AnswerLaws.{ok_parts}
use Rattle.std.proofs.Math.Bool.{true, false}
use Rattle.std.proofs.Math.ListN.{length, get_or}
use Rattle.std.proofs.Math.Dec.{T}
use borrow.Author.Tests.{lt-ltb, le-ltb, le-leb, lt-leb}
use Rattle.types.specs.Types.{Ty, code, type_of}
use Rattle.types.specs.TypeBytes.{is_type}
use Rattle.program.proofs.Laws.CodeLaws.{code_type}
use Rattle.program.specs.Reader.{Result, Result.ok, Result.bad, then, made, many, guard, between, byte_end, byte, tested, ranged, read_word, read_type}
use Rattle.judge.specs.declared.Facts.{Facts}
use Rattle.judge.specs.Facts.{pushed}
use Rattle.read_exprs.specs.Told.{told, byte_told}

-- what was read, from what was answered
pub byte_is : (q : Result ℕ) (b m : ℕ) → byte_told q ≡ Ok (b, m) → q ≡ ok b m
byte_is (ok a n) b m e = let h = ok_parts a b n m e in rw h.0 (rw h.1 refl)
byte_is (bad p n) b m e = cc

pub byte_stops : (q : Result ℕ) (n : ℕ) → byte_told q ≡ Err n → (p : ℕ) × (q ≡ bad p n)
byte_stops (ok a m) n e = cc
byte_stops (bad p k) n e = (p, cc)

-- One byte --------------------------------------------------------------------------

module _ (s : List ℕ) (at : ℕ) where
  pub byte_out : length s ≤ at → byte s at ≡ bad at 4
  unfolding byte
  byte_out h = simp (byte, le-ltb at (length s) h)

  pub byte_in : at < length s → byte s at ≡ ok (get_or s at 0) (at + 1)
  unfolding byte
  byte_in h = simp (byte, lt-ltb at (length s) h)

  -- a byte with a test: it is not read, passes, or does not
  module _ (t : ℕ → Bool) where
    pub tested_stop : (n : ℕ) → byte_told (byte s at) ≡ Err n → byte_told (tested s t at) ≡ Err n
    unfolding tested then
    tested_stop n e = rw (byte_stops (byte s at) n e).1

    pub tested_pass : (b m : ℕ) → byte_told (byte s at) ≡ Ok (b, m) → t b ≡ true → byte_told (tested s t at) ≡ Ok (b, m)
    unfolding tested then guard
    tested_pass b m e h = rw (byte_is (byte s at) b m e, h)

    pub tested_fail : (b m : ℕ) → byte_told (byte s at) ≡ Ok (b, m) → t b ≡ false → byte_told (tested s t at) ≡ Err 5
    unfolding tested then guard
    tested_fail b m e h = rw (byte_is (byte s at) b m e, h)

  -- a byte that is not there, one that passes the test, one that does not
  pub tested_out : (t : ℕ → Bool) → length s ≤ at → byte_told (tested s t at) ≡ Err 4
  unfolding tested then
  tested_out t h = simp (tested, byte_out h)

  pub tested_in : (t : ℕ → Bool) → at < length s → t (get_or s at 0) ≡ true → byte_told (tested s t at) ≡ Ok ((get_or s at 0), (at + 1))
  unfolding tested then guard
  tested_in t h e = simp (tested, byte_in h, e)

  pub tested_wrong : (t : ℕ → Bool) → at < length s → t (get_or s at 0) ≡ false → byte_told (tested s t at) ≡ Err 5
  unfolding tested then guard
  tested_wrong t h e = simp (tested, byte_in h, e)

module _ (s : List ℕ) (lo hi at : ℕ) where
  -- by how the byte is read
  pub ranged_stop : (n : ℕ) → byte_told (byte s at) ≡ Err n → byte_told (ranged s lo hi at) ≡ Err n
  unfolding ranged
  ranged_stop n e = tested_stop s at (between lo hi) n e

  pub ranged_pass : (b m : ℕ) → byte_told (byte s at) ≡ Ok (b, m) → lo ≤ b → b < hi → byte_told (ranged s lo hi at) ≡ Ok (b, m)
  unfolding ranged between
  ranged_pass b m e p q = tested_pass s at (between lo hi) b m e (simp (between, le-leb lo b p, lt-ltb b hi q))

  pub ranged_fail : (b m : ℕ) → byte_told (byte s at) ≡ Ok (b, m) → (b < lo) ⊎ ((lo ≤ b) × (hi ≤ b)) → byte_told (ranged s lo hi at) ≡ Err 5
  unfolding ranged between
  ranged_fail b m e (inl p) = tested_fail s at (between lo hi) b m e (simp (between, lt-leb lo b p))
  ranged_fail b m e (inr (p, q)) = tested_fail s at (between lo hi) b m e (simp (between, le-leb lo b p, le-ltb b hi q))

  pub ranged_out : length s ≤ at → byte_told (ranged s lo hi at) ≡ Err 4
  unfolding ranged
  ranged_out h = tested_out s at (between lo hi) h

  pub ranged_in : at < length s → lo ≤ get_or s at 0 → get_or s at 0 < hi → byte_told (ranged s lo hi at) ≡ Ok ((get_or s at 0), (at + 1))
  unfolding ranged between
  ranged_in h p q = tested_in s at (between lo hi) h (simp (between, le-leb lo _ p, lt-ltb _ hi q))

  pub ranged_below : at < length s → get_or s at 0 < lo → byte_told (ranged s lo hi at) ≡ Err 5
  unfolding ranged between
  ranged_below h p = tested_wrong s at (between lo hi) h (simp (between, lt-leb lo _ p))

  pub ranged_above : at < length s → lo ≤ get_or s at 0 → hi ≤ get_or s at 0 → byte_told (ranged s lo hi at) ≡ Err 5
  unfolding ranged between
  ranged_above h p q = tested_wrong s at (between lo hi) h (simp (between, le-leb lo _ p, le-ltb _ hi q))

-- no type lies past the last struct
pub type_below : (S b : ℕ) → is_type S b ≡ true → b < 16 + S
unfolding is_type
type_below S b e = go (dec_lt b (16 + S))
  where
    go : Dec (b < 16 + S) → b < 16 + S
    go (yes h) = h
    go (no h) =
        let f : is_type S b ≡ false = simp (is_type, lt-leb b 2 (omega arith), le-leb 16 b (omega arith), le-ltb (b - 16) S (omega arith)) in
        cc

-- where a byte lies past no struct of either number, it makes no difference which of the two there are
pub type_many : (S T b : ℕ) → b < 16 + S → b < 16 + T → is_type S b ≡ is_type T b
unfolding is_type
type_many S T b h k = go (dec_lt b 16)
  where
    go : Dec (b < 16) → is_type S b ≡ is_type T b
    go (yes j) = simp (is_type, lt-leb 16 b j)
    go (no j) = simp (is_type, le-leb 16 b (omega arith), lt-ltb (b - 16) S (omega arith), lt-ltb (b - 16) T (omega arith))

-- Literals --------------------------------------------------------------------------

-- bytes in a row: all of them, or the stream ends among them
module _ (s : List ℕ) (bytes : (i : ℕ) → get_or s i 0 < 256) (F : Facts) where
  one : (at : ℕ) → at < length s → ranged s 0 256 at ≡ ok (get_or s at 0) (at + 1)
  one at h = byte_is _ _ _ (ranged_in s 0 256 at h (omega arith) (bytes at))

  -- what is pushed is the same whatever number was read
  same : (r : Result ℕ) (g : ℕ → ℕ) → told (λ n. F) (then r λ b m. ok (g b) m) ≡ told (λ n. F) r
  unfolding then
  same (ok b m) g = refl
  same (bad p n) g = refl

  pub word_in : (i at : ℕ) → at + i ≤ length s → told (λ n. F) (read_word s i at) ≡ Ok ((at + i), F)
  unfolding read_word many then
  word_in zero at h = rw add-zero
  word_in (suc i) at h =
      let e : at + 1 + i ≡ at + suc i = omega arith in
      rw (one at (omega arith)) (same (read_word s i (at + 1)) (λ v. get_or s at 0 + byte_end * v) ∙ word_in i (at + 1) (omega arith) ∙ rw e)

  pub word_out : (i at : ℕ) → at ≤ length s → length s < at + i → told (λ n. F) (read_word s i at) ≡ Err 4
  unfolding read_word many then
  word_out zero at h k = absurd (omega arith)
  word_out (suc i) at h k = go (dec_lt at (length s)) (λ l. word_out i (at + 1) (omega arith) (omega arith))
    where
      go : Dec (at < length s) → (at < length s → told (λ n. F) (read_word s i (at + 1)) ≡ Err 4) → told (λ n. F) (read_word s (suc i) at) ≡ Err 4
      go (yes l) f = rw (one at l) (same (read_word s i (at + 1)) (λ v. get_or s at 0 + byte_end * v) ∙ f l)
      go (no l) f = rw (byte_stops (ranged s 0 256 at) 4 (ranged_out s 0 256 at (omega arith))).1

-- a byte whose value is not asked for
pub byte_for : (F : Facts) (q : Result ℕ) (b m : ℕ) → byte_told q ≡ Ok (b, m) → told (λ n. F) q ≡ Ok (m, F)
byte_for F q b m e = rw (byte_is q b m e)

pub byte_not : (F : Facts) (q : Result ℕ) (n : ℕ) → byte_told q ≡ Err n → told (λ n. F) q ≡ Err n
byte_not F q n e = rw (byte_stops q n e).1

-- a type whose byte was read, or was not
module _ (s : List ℕ) (S at : ℕ) where
  passes : (t : ℕ → Bool) (q : Result ℕ) (b m : ℕ) → then q (λ b k. guard (t b) at b k) ≡ ok b m → t b ≡ true
  unfolding then guard
  passes t (ok a k) b m e = go (t a) refl e
    where
      go : (p : Bool) → t a ≡ p → guard p at a k ≡ ok b m → t b ≡ true
      go true h e = let i : b ≡ a = cc in rw i h
      go false h e = cc
  passes t (bad p n) b m e = cc

  pub type_read : (b m : ℕ) → byte_told (tested s (is_type S) at) ≡ Ok (b, m) → (t : Ty) × (read_type s S at ≡ ok t m) × (code t ≡ b)
  unfolding read_type made then tested
  type_read b m e =
      let q = byte_is (tested s (is_type S) at) b m e in
      let h : T (is_type S b) = rw (passes (is_type S) (byte s at) b m q) tt in
      (type_of b, rw (read_type, q), (code_type S b h).1)

  pub type_stops : (n : ℕ) → byte_told (tested s (is_type S) at) ≡ Err n → (p : ℕ) × (read_type s S at ≡ bad p n)
  unfolding read_type made then
  type_stops n e = let q = byte_stops (tested s (is_type S) at) n e in (q.0, ap (made type_of) q.1)

  pub type_is : (b m : ℕ) → byte_told (tested s (is_type S) at) ≡ Ok (b, m) → told (λ t. pushed (code t)) (read_type s S at) ≡ Ok (m, (pushed b))
  type_is b m e = let q = type_read b m e in rw (q.1, q.2)

  pub type_not : (n : ℕ) → byte_told (tested s (is_type S) at) ≡ Err n → told (λ t. pushed (code t)) (read_type s S at) ≡ Err n
  type_not n e = rw (type_stops n e).1
