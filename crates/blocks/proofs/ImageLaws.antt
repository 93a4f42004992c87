-- Laws of images and streams (01, 'Blocks'): how long blocks, pieces, streams and images are, and where they stand.
use Prim.Native.Nat.{ℕ, zero, suc, ◌+◌, ◌*◌, ◌-◌, ◌/◌, ◌<◌, ◌≤◌, min}
use Rattle.std.proofs.Common.{arith, sym, ◌∙◌, length-take, length-drop, take_at, drop_at, take_all, length-take-le}
use Rattle.std.specs.Prelude.{◌≡◌, Bool, take, drop}
use Rattle.std.proofs.Math.Path.{refl, ap, subst}
use Rattle.std.proofs.Math.Bool.{true, false}
use mathlib.Core.List.{List, [], ◌++◌, append_assoc, append-nil}
use Rattle.std.proofs.Math.ListN.{length, length-append}
use Rattle.std.proofs.lemmas.List.{take-append-le, drop-append-le}
use Rattle.std.proofs.Math.Dec.{eqb}
use borrow.Author.Tests.{eqb-true, eqb-false, eq-eqb, ne_eqb}
use Rattle.block.specs.Block.{block_size, payload_size, UsedRight, used, used_part, block_of}
use Rattle.block.proofs.Laws.BlockRoundTrip.{block_length, part_length}
use Rattle.blocks.specs.Images.{LengthRight, block, count, is_last, joined, piece, pieces, image_of}
use Rattle.blocks.specs.Faults.{AllRight}

-- The image of a stream ---------------------------------------------------------

pub piece_length : (s : List ℕ) (k : ℕ) → length (piece s k) ≡ min payload_size (length s - payload_size * k)
unfolding piece
piece_length s k = simp (length-take, length-drop)

pub piece_fits : (s : List ℕ) (k : ℕ) → length (piece s k) ≤ payload_size
piece_fits s k = omega (arith, piece_length s k)

-- the last piece has 1 to 504 bytes, and the others 504
pub piece_used : (s : List ℕ) (k : ℕ) → k < pieces (length s) → UsedRight (is_last (pieces (length s)) k) (length (piece s k))
unfolding is_last
piece_used s k h = go (eqb (k + 1) n) refl
  where
    n : ℕ
    n = (length s + 503) / 504

    go : (t : Bool) → eqb (k + 1) n ≡ t → UsedRight t (length (piece s k))
    go true e = omega (arith, piece_length s k, eqb-true (k + 1) n e)
    go false e = omega (arith, piece_length s k, eqb-false (k + 1) n e)

pub image_length : (s : List ℕ) (k : ℕ) → length (image_of s k) ≡ block_size * k
unfolding image_of
image_length s zero = refl
image_length s (suc k) =
    length-append (image_of s k) (block_of k (piece s k))
    ∙ omega (arith, image_length s k, block_length k (piece s k) (piece_fits s k))

-- the block behind a list of whole blocks, and one inside it
block_behind : (x b : List ℕ) (k : ℕ) → length x ≡ block_size * k → length b ≡ block_size → block (x ++ b) k ≡ b
unfolding block
block_behind x b k e f = ap (λ (t : List ℕ). take block_size t) (drop_at x b (block_size * k) e) ∙ take_all block_size b (omega arith)

block_inside : (x b : List ℕ) (k : ℕ) → block_size * k + block_size ≤ length x → block (x ++ b) k ≡ block x k
unfolding block
block_inside x b k h =
    let i = block_size * k in
    ap (λ (t : List ℕ). take block_size t) (drop-append-le i x b (omega arith))
    ∙ take-append-le block_size (drop i x) b (omega (arith, length-drop i x))

pub image_block : (s : List ℕ) (m k : ℕ) → k < m → block (image_of s m) k ≡ block_of k (piece s k)
unfolding image_of
image_block s zero k h = absurd (omega arith)
image_block s (suc m) k h = go (eqb k m) refl (image_block s m k)
  where
    x : List ℕ
    x = image_of s m

    b : ℕ → List ℕ
    b j = block_of j (piece s j)

    go : (t : Bool) → eqb k m ≡ t → (k < m → block x k ≡ b k) → block (x ++ b m) k ≡ b k
    go true e ih =
        let same : m ≡ k = sym (eqb-true k m e) in
        subst (λ (j : ℕ). block (x ++ b m) j ≡ b j) same
        (block_behind x (b m) m (image_length s m) (block_length m (piece s m) (piece_fits s m)))
    go false e ih =
        let l : k < m = omega (arith, eqb-false k m e) in
        block_inside x (b m) k (omega (arith, image_length s m)) ∙ ih l

-- The stream of an image --------------------------------------------------------

-- the first k payloads begin the joined payloads
pub joined_starts : (x : List ℕ) (k m : ℕ) → k ≤ m → (r : List ℕ) × (joined x m ≡ joined x k ++ r)
unfolding joined
joined_starts x k zero h = ([], rw (let e : k ≡ 0 = omega arith in e))
joined_starts x k (suc m) h = go (eqb k (suc m)) refl (joined_starts x k m)
  where
    go : (t : Bool) → eqb k (suc m) ≡ t → (k ≤ m → (r : List ℕ) × (joined x m ≡ joined x k ++ r))
        → (r : List ℕ) × (joined x m ++ used_part (block x m) ≡ joined x k ++ r)
    go true e ih = ([], ap (joined x) (sym (eqb-true k (suc m) e)) ∙ sym (append-nil (joined x k)))
    go false e ih =
        let t = ih (omega (arith, eqb-false k (suc m) e)) in
        let p = used_part (block x m) in
        (t.0 ++ p, ap (λ (l : List ℕ). l ++ p) t.1 ∙ append_assoc (joined x k) t.0 p)

pub count_length : (max : ℕ) (x : List ℕ) → LengthRight max (length x) → length x ≡ block_size * count x
count_length max x long = omega (arith, long.whole)

-- an image of n blocks has whole blocks
pub block_whole : (n : ℕ) (x : List ℕ) → length x ≡ block_size * n → (k : ℕ) → k < n → length (block x k) ≡ block_size
unfolding block
block_whole n x whole k h = length-take-le block_size (drop (block_size * k) x) (omega (arith, length-drop (block_size * k) x))

-- an image of n right blocks
module _ (n : ℕ) (x : List ℕ) (whole : length x ≡ block_size * n) (right : AllRight n x n) where
  pub used_length : (k : ℕ) → k < n → length (used_part (block x k)) ≡ used (block x k)
  used_length k h = part_length k (is_last n k) (block x k) (block_whole n x whole k h) (right k h).layout

  used_inner : (k : ℕ) → suc k < n → used (block x k) ≡ payload_size
  unfolding is_last
  used_inner k h =
      let other : eqb (k + 1) n ≡ false = ne_eqb (k + 1) n (omega arith) in
      subst (λ (t : Bool). UsedRight t (used (block x k))) other (right k (omega arith)).layout.used_right

  pub used_last : (k : ℕ) → suc k ≡ n → (1 ≤ used (block x k)) × (used (block x k) ≤ payload_size)
  unfolding is_last
  used_last k e =
      let same : eqb (k + 1) n ≡ true = eq-eqb (k + 1) n (omega arith) in
      subst (λ (t : Bool). UsedRight t (used (block x k))) same (right k (omega arith)).layout.used_right

  pub joined_length : (k : ℕ) → k < n → length (joined x k) ≡ payload_size * k
  unfolding joined
  joined_length zero h = refl
  joined_length (suc k) h =
      length-append (joined x k) (used_part (block x k))
      ∙ omega (arith, joined_length k (omega arith), used_length k (omega arith), used_inner k h)

  pub stream_length : (k : ℕ) → suc k ≡ n → length (joined x n) ≡ payload_size * k + used (block x k)
  unfolding joined
  stream_length k e =
      ap (λ (m : ℕ). length (joined x m)) (sym e)
      ∙ length-append (joined x k) (used_part (block x k))
      ∙ omega (arith, joined_length k (omega arith), used_length k (omega arith))

  -- piece k of the stream is what block k uses
  pub stream_piece : (k : ℕ) → k < n → piece (joined x n) k ≡ used_part (block x k)
  unfolding piece joined
  stream_piece k h = go (eqb (suc k) n) refl
    where
      j : List ℕ
      j = joined x k

      p : List ℕ
      p = used_part (block x k)

      at : (r : List ℕ) → joined x n ≡ (j ++ p) ++ r → take payload_size (drop (payload_size * k) (joined x n)) ≡ take payload_size (p ++ r)
      at r e =
          ap (λ (t : List ℕ). take payload_size (drop (payload_size * k) t)) (e ∙ append_assoc j p r)
          ∙ ap (λ (t : List ℕ). take payload_size t) (drop_at j (p ++ r) (payload_size * k) (joined_length k h))

      go : (t : Bool) → eqb (suc k) n ≡ t → take payload_size (drop (payload_size * k) (joined x n)) ≡ p
      go true e =
          let same = eqb-true (suc k) n e in
          let u = used_last k same in
          at [] (ap (joined x) (sym same) ∙ sym (append-nil (j ++ p)))
          ∙ ap (λ (t : List ℕ). take payload_size t) (append-nil p)
          ∙ take_all payload_size p (omega (arith, used_length k h))
      go false e =
          let l : suc k < n = omega (arith, eqb-false (suc k) n e) in
          let s = joined_starts x (suc k) n h in
          at s.0 s.1 ∙ take_at p s.0 payload_size (used_length k h ∙ used_inner k l)

  -- and there are as many pieces as blocks
  pub stream_pieces : 1 ≤ n → pieces (length (joined x n)) ≡ n
  stream_pieces some =
      let k = n - 1 in
      let e : suc k ≡ n = omega arith in
      let u = used_last k e in
      omega (arith, stream_length k e)
