-- Each way through the readers of a number and of a value (01, 'Table and turns').
use Prim.Native.Nat.{ℕ, zero, suc, ◌+◌, ◌-◌, ◌*◌, ◌<◌, ◌≤◌}
use Rattle.std.specs.Prelude.{Ok, Err, ◌≡◌, refl, true, false, List, length, get_or}
use native.Mathlib.Omega.{arith}
use Rattle.std.proofs.Math.Decide.{dec_lt}
use Rattle.std.proofs.Math.Nat.{add-zero}
use Rattle.std.proofs.Common.{ltb-true, lt-ltb}
use Rattle.types.specs.Limits.{nat_end}
use Rattle.types.specs.Numbers.{table_end, table_value}
use Rattle.types.specs.Types.{Ty, type_of}
use Rattle.types.proofs.Laws.TypeLaws.{type_of_struct}
use Rattle.types.specs.TypeBytes.{word_end}
use Rattle.types.specs.Values.{Val, word, value_of}
use Rattle.types.proofs.Laws.ValueLaws.{word_of_value}
use Rattle.program.specs.Reader.{Result, Result.ok, Result.bad, byte_end, then, made, many, guard, ranged, read_word}
use Rattle.read_exprs.specs.ByteWays.{byte_is, byte_stops, ranged_in, ranged_out}
use Rattle.table.specs.TableReader.{allowed, read_value, table_number}
use Rattle.little_endian.specs.Numbers.{number_at}
use Rattle.table_read.specs.Told.{Laid}

-- bytes in a row: all of them, or the stream ends among them
module _ (s : List ℕ) (bytes : (i : ℕ) → get_or s i 0 < 256) where
  one : (at : ℕ) → at < length s → ranged s 0 256 at ≡ ok (get_or s at 0) (at + 1)
  one at h = byte_is _ _ _ (ranged_in s 0 256 at h (omega arith) (bytes at))

  pub word_in : (i at : ℕ) → at + i ≤ length s → read_word s i at ≡ ok (number_at i s at) (at + i)
  unfolding read_word many then number_at
  word_in zero at h = rw add-zero
  word_in (suc i) at h =
      let e : at + 1 + i ≡ at + suc i = omega arith in
      let w : read_word s i (at + 1) ≡ ok (number_at i s (at + 1)) (at + 1 + i) = word_in i (at + 1) (omega arith) in
      rw (one at (omega arith), w, e)

  pub word_out : (i at : ℕ) → at ≤ length s → length s < at + i → (p : ℕ) × (read_word s i at ≡ bad p 4)
  unfolding read_word many then
  word_out zero at h k = absurd (omega arith)
  word_out (suc i) at h k = go (dec_lt at (length s)) (λ l. word_out i (at + 1) (omega arith) (omega arith))
    where
      stopped : (q : Result ℕ) → (p : ℕ) × (q ≡ bad p 4) → (p : ℕ) × (then q (λ b k. then (read_word s i k) λ v m. ok (b + byte_end * v) m) ≡ bad p 4)
      stopped q e = (e.0, rw e.1)

      go : Dec (at < length s) → (at < length s → (p : ℕ) × (read_word s i (at + 1) ≡ bad p 4)) → (p : ℕ) × (read_word s (suc i) at ≡ bad p 4)
      go (yes l) f = ((f l).0, rw (one at l, (f l).1))
      go (no l) f = stopped (ranged s 0 256 at) (byte_stops (ranged s 0 256 at) 4 (ranged_out s 0 256 at (omega arith)))

  -- a value that the end of the stream cuts short, one that is not allowed, one that is
  module _ {M : Type 0} (f : Val → M) (x : M) (t : Ty) (at : ℕ) where
    pub value_cut : at ≤ length s → length s - at < 4 → Laid f (read_value s t at) (Err table_end) x
    unfolding read_value made then table_number
    value_cut h k = let (p, e) = word_out 4 at h (omega arith) in rw e

    pub value_wrong : at + 4 ≤ length s → (w : ℕ) → w ≡ number_at 4 s at → allowed t w ≡ false → Laid f (read_value s t at) (Err table_value) x
    unfolding read_value made then guard table_number
    value_wrong h w e a = rw (word_in 4 at h, ← e, a)

    pub value_right : at + 4 ≤ length s → (w : ℕ) → w ≡ number_at 4 s at → allowed t w ≡ true → x ≡ f (value_of t w)
        → Laid f (read_value s t at) (Ok (at + 4)) x
    unfolding read_value made then guard
    value_right h w e a q = rw (word_in 4 at h, ← e, a) (refl, q)

-- the cell of a value that was read
pub value_cell : (t : Ty) (w : ℕ) → allowed t w ≡ true → word (value_of t w) ≡ w
value_cell t w a = word_of_value t w (ltb-true w (word_end t) a)

-- which numbers a type's byte allows: of a Bool 0 and 1, of any other type all of four bytes
pub allowed_bool : (b w : ℕ) → b ≡ 2 → word_end (type_of b) ≡ 2
unfolding type_of word_end
allowed_bool b w e = rw e

pub allowed_any : (b w : ℕ) → (b ≡ 2 → ⊥) → w < nat_end → allowed (type_of b) w ≡ true
unfolding type_of word_end
allowed_any zero w n h = lt-ltb w nat_end h
allowed_any (suc zero) w n h = lt-ltb w nat_end h
allowed_any (suc (suc zero)) w n h = absurd (n refl)
allowed_any (suc (suc (suc b))) w n h = rw (type_of_struct (suc (suc (suc b))) (omega arith)) (lt-ltb w nat_end h)
