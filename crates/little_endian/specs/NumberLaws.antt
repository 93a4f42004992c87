-- A number of two bytes and one of four are those of their width, and stores one after the other are their bytes.
use Rattle.std.specs.Prelude.{ℕ, ◌+◌, ◌-◌, ◌/◌, ◌%◌, ◌≤◌, ◌≡◌, List, get_or, set, length}
use Rattle.std.specs.Int.{w16, w32, to_le_bytes}
use Rattle.std.proofs.Common.{add-one, arith, ap, refl, sym, ◌∙◌, drop-drop, append_assoc, take}
use borrow.Rule.Slice.PartMut.{put_mid}
use Rattle.types.specs.Limits.{nat_end}
use Rattle.std.proofs.Math.Numerals.{add-two, add-three}
use Rattle.std.proofs.lemmas.List.Edits.{sets, sets-eq}
use Rattle.little_endian.specs.Numbers.{number_at, pair_at, word_at, bytes_of}

pub pair_is : (s : List ℕ) (at : ℕ) → number_at 2 s at ≡ pair_at s at
unfolding number_at pair_at
pair_is s at = omega arith

pub word_is : (s : List ℕ) (at : ℕ) → number_at 4 s at ≡ word_at s at
unfolding number_at word_at
word_is s at =
    let two : at + 1 + 1 ≡ at + 2 = omega arith in
    let three : at + 1 + 1 + 1 ≡ at + 3 = omega arith in
    omega (arith, ap (λ (k : ℕ). get_or s k 0) two, ap (λ (k : ℕ). get_or s k 0) three)

-- the lowest bytes of a number, as the library gives them
pub pair_low : (n : ℕ) → to_le_bytes w16 (n % 65536) ≡ bytes_of 2 n
unfolding bytes_of
pair_low n =
    let a : n % 65536 % 256 ≡ n % 256 = omega arith in
    let b : n % 65536 / 256 % 256 ≡ n / 256 % 256 = omega arith in
    rw (a, b) refl

pub word_low : (w : ℕ) → to_le_bytes w32 (w % nat_end) ≡ bytes_of 4 w
unfolding bytes_of
word_low w =
    let a : w % 4294967296 % 256 ≡ w % 256 = omega arith in
    let b : w % 4294967296 / 256 % 256 ≡ w / 256 % 256 = omega arith in
    let c : w % 4294967296 / 65536 % 256 ≡ w / 256 / 256 % 256 = omega arith in
    let d : w % 4294967296 / 16777216 % 256 ≡ w / 256 / 256 / 256 % 256 = omega arith in
    rw (a, b, c, d) refl

-- bytes copied over a part are stored one after the other
pub part_stored : (o bs : List ℕ) (at n : ℕ) → at + n ≤ length o → length bs ≡ n → put_mid at (at + n - at) o bs ≡ sets o at bs
part_stored o bs at n h e =
    let k : at + n - at ≡ length bs = omega arith in
    sym (sets-eq bs o at (omega arith) ∙ rw (k, drop-drop) (append_assoc (take at o) bs _))

-- two bytes, and four, one after the other
pub pair_stored : (o : List ℕ) (at n : ℕ) → set (set o at (n % 256)) (at + 1) (n / 256 % 256) ≡ sets o at (bytes_of 2 n)
unfolding bytes_of
pair_stored o at n = simp (add-one)

pub word_stored : (o : List ℕ) (at w : ℕ)
    → set (set (set (set o at (w % 256)) (at + 1) (w / 256 % 256)) (at + 2) (w / 256 / 256 % 256)) (at + 3) (w / 256 / 256 / 256 % 256)
    ≡ sets o at (bytes_of 4 w)
unfolding bytes_of
word_stored o at w = simp (add-one, add-two, add-three)
