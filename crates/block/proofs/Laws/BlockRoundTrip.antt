-- One block there and back (01, 'Blocks'): the block that holds given bytes is right and gives them back, and a right block is the block that
-- holds its used part.
use Rattle.std.specs.Prelude.{◌≡◌, ℕ, zero, suc, ◌+◌, ◌-◌, ◌*◌, ◌/◌, ◌%◌, ◌<◌, ◌≤◌, Bool, true, false, List, ◌∷◌, ◌++◌, length, take, drop, replicate}
use native.Mathlib.Omega.{arith}
use Rattle.std.proofs.Math.Path.{ap, sym}
use Rattle.std.proofs.Common.{◌∙◌, take-append-drop, drop_of_length-le, get_or-append-add, drop-cons, drop-drop}
use mathlib.Core.List.{append_assoc, append-nil}
use Rattle.std.proofs.Math.ListN.{length-append, length-drop, get_or-replicate, get_or-append}
use Rattle.std.proofs.lemmas.List.{length-replicate}
use Rattle.std.proofs.Math.Seq.{take-append_seam, length-take-le}
use Rattle.block.specs.Sums.{byte, Bytes, sum_a, sum_b}
use Rattle.block.proofs.Laws.SumLaws.{sums_front}
use Rattle.little_endian.specs.Numbers.{pair_at}
use Rattle.block.specs.Block.{pair, index, used, used_part, SumsRight, UsedRight, LaidOut, front, block_of, block_size}
use Rattle.block.specs.Block.{payload_size}

-- a byte behind a list of known length
behind : (x y : List ℕ) (m n : ℕ) → length x ≡ m → byte (x ++ y) (m + n) ≡ byte y n
behind x y m n e = ap (λ (j : ℕ). byte (x ++ y) (j + n)) (sym e) ∙ get_or-append-add x y n 0

-- The block that holds the bytes p --------------------------------------------

module _ (k : ℕ) (p : List ℕ) (fits : length p ≤ payload_size) where
  pub front_length : length (front k p) ≡ 508
  unfolding front pair
  front_length = simp (length-append, length-replicate) (omega arith)

  pub block_length : length (block_of k p) ≡ block_size
  unfolding block_of pair
  block_length = simp (length-append, front_length) (omega arith)

  block_used : used (block_of k p) ≡ length p
  unfolding used pair_at block_of front pair
  block_used = omega arith

  pub block_part : used_part (block_of k p) ≡ p
  unfolding used_part block_of front pair
  block_part = rw (block_used, append_assoc) (take-append_seam p _)

  pub block_sums : SumsRight (block_of k p)
  unfolding block_of pair_at pair
  block_sums =
      let f = front k p in
      let t = pair (sum_a f) ++ pair (sum_b f) in
      let same = sums_front f t (omega (arith, front_length)) in
      let at : (n : ℕ) → byte (f ++ t) (508 + n) ≡ byte t n = λ n. behind f t 508 n front_length in
      record {
        a_right = omega (arith, same.0, at 0, at 1);
        b_right = omega (arith, same.1, at 2, at 3);
      }

  block_zero : (i : ℕ) → 4 + length p ≤ i → i < 508 → byte (block_of k p) i ≡ 0
  unfolding block_of front
  block_zero i h l =
      let four = pair k ++ pair (length p) in
      let z : List ℕ = replicate (payload_size - length p) 0 in
      let t = pair (sum_a (front k p)) ++ pair (sum_b (front k p)) in
      let whole : front k p ≡ (four ++ p) ++ z = simp append_assoc in
      let e : length (four ++ p) ≡ 4 + length p = four_length in
      let n = i - (4 + length p) in
      let place : 4 + length p + n ≡ i = omega arith in
      get_or-append (front k p) t 0 i (omega (arith, front_length))
      ∙ ap (λ (x : List ℕ). byte x i) whole
      ∙ ap (λ (j : ℕ). byte ((four ++ p) ++ z) j) (sym place)
      ∙ behind (four ++ p) z (4 + length p) n e
      ∙ get_or-replicate (payload_size - length p) n 0 0 (omega arith)
    where
      four_length : length ((pair k ++ pair (length p)) ++ p) ≡ 4 + length p
      four_length = unfold pair in simp length-append (omega arith)

  pub block_layout : (last : Bool) → UsedRight last (length p) → LaidOut k last (block_of k p)
  block_layout last right = record {
    index_right = unfold index pair_at block_of front pair in omega arith;
    used_right = rw block_used right;
    unused_zero = rw block_used block_zero;
  }

-- A right block ---------------------------------------------------------------

-- two bytes of a list are those of the number that stands there
pair_split : (b : List ℕ) (i : ℕ) → Bytes b → i + 2 ≤ length b → drop i b ≡ pair (pair_at b i) ++ drop (i + 2) b
unfolding pair pair_at
pair_split b i small h =
    let x = byte b i in
    let y = byte b (i + 1) in
    let lo : (x + 256 * y) % 256 ≡ x = omega (arith, small i) in
    let hi : (x + 256 * y) / 256 ≡ y = omega (arith, small i) in
    let one : suc i ≡ i + 1 = omega arith in
    let two : suc (i + 1) ≡ i + 2 = omega arith in
    drop-cons b i 0 (omega arith)
    ∙ rw (one, lo, hi) (ap (λ (t : List ℕ). x ∷ t) (drop-cons b (i + 1) 0 (omega arith) ∙ ap (λ (n : ℕ). y ∷ drop n b) two))

-- a run of zero bytes
zero_split : (n : ℕ) (b : List ℕ) (i : ℕ) → i + n ≤ length b → ((j : ℕ) → i ≤ j → j < i + n → byte b j ≡ 0)
    → drop i b ≡ replicate n 0 ++ drop (i + n) b
zero_split zero b i h z = let e : i + 0 ≡ i = omega arith in rw e
zero_split (suc n) b i h z =
    let e : suc i + n ≡ i + suc n = omega arith in
    drop-cons b i 0 (omega arith)
    ∙ ap (λ (x : ℕ). x ∷ drop (suc i) b) (z i (omega arith) (omega arith))
    ∙ ap (λ (t : List ℕ). 0 ∷ t)
    (zero_split n b (suc i) (omega arith) (λ j l m. z j (omega arith) (omega arith)) ∙ ap (λ (m : ℕ). replicate n 0 ++ drop m b) e)

pub used_most : (last : Bool) (u : ℕ) → UsedRight last u → u ≤ payload_size
used_most true u r = r.1
used_most false u r = omega arith

module _ (k : ℕ) (last : Bool) (b : List ℕ) (full : length b ≡ block_size) (laid : LaidOut k last b) where
  pub part_length : length (used_part b) ≡ used b
  unfolding used_part
  part_length =
      let m = used_most last (used b) laid.used_right in
      length-take-le (used b) (drop 4 b) (omega (arith, length-drop 4 b))

  -- the payload is the used part and the zeros behind it
  payload_split : drop 4 b ≡ used_part b ++ (replicate (payload_size - used b) 0 ++ drop 508 b)
  unfolding used_part
  payload_split =
      let u = used b in
      let m = used_most last u laid.used_right in
      let z = payload_size - u in
      let end : 4 + u + z ≡ 508 = omega arith in
      let run = zero_split z b (4 + u) (omega arith) (λ j l n. laid.unused_zero j l (omega arith)) in
      sym (take-append-drop u (drop 4 b)) ∙ ap (λ (t : List ℕ). take u (drop 4 b) ++ t) (drop-drop u 4 b ∙ rw end at run)

  head_split : Bytes b → b ≡ front k (used_part b) ++ drop 508 b
  unfolding front index used
  head_split small =
      pair_split b 0 small (omega arith)
      ∙ ap (λ (t : List ℕ). pair (pair_at b 0) ++ t) (pair_split b 2 small (omega arith))
      ∙ simp (payload_split, laid.index_right, part_length, append_assoc)

  tail_split : Bytes b → SumsRight b → drop 508 b ≡ pair (sum_a b) ++ pair (sum_b b)
  tail_split small sums =
      pair_split b 508 small (omega arith)
      ∙ ap (λ (t : List ℕ). pair (pair_at b 508) ++ t) (pair_split b 510 small (omega arith))
      ∙ simp (sums.a_right, sums.b_right, drop_of_length-le b {i = 512} (omega arith), append-nil)

  pub right_block : Bytes b → SumsRight b → b ≡ block_of k (used_part b)
  unfolding block_of
  right_block small sums =
      let f = front k (used_part b) in
      let whole = head_split small in
      let m = used_most last (used b) laid.used_right in
      let same = sums_front f (drop 508 b) (omega (arith, front_length k (used_part b) (omega (arith, part_length)))) in
      let a : sum_a b ≡ sum_a f = ap sum_a whole ∙ same.0 in
      let c : sum_b b ≡ sum_b f = ap sum_b whole ∙ same.1 in
      whole ∙ ap (λ (t : List ℕ). f ++ t) (tail_split small sums ∙ simp (a, c))
