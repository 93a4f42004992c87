-- An image there and back (01, 'Blocks'): reading what was written gives the stream back, and an accepted image is the written image of its stream, so
-- that one image belongs to a stream.
use Prim.Native.Nat.{ℕ, zero, suc, ◌+◌, ◌*◌, ◌≤◌}
use native.Mathlib.Omega.{arith}
use Rattle.std.specs.Prelude.{◌≡◌, drop, None}
use Rattle.std.proofs.Math.Path.{refl, ap, ap₂, sym}
use Rattle.std.proofs.Common.{◌∙◌, subst, take-add}
use mathlib.Core.List.{List, ◌++◌}
use Rattle.std.proofs.Math.ListN.{length, take}
use Rattle.std.proofs.Math.Seq.{take_all}
use Rattle.block.specs.Sums.{Bytes}
use Rattle.block.specs.Block.{block_size, payload_size, used_part, block_of}
use Rattle.block.proofs.Laws.BlockRoundTrip.{block_part, block_sums, block_layout, right_block}
use Rattle.block.specs.BlockBytes.{bytes_take, bytes_drop}
use Rattle.blocks.specs.Images.{most, block, count, is_last, fault, joined, stream, piece, pieces, image_of, image}
use Rattle.blocks.proofs.ImageLaws.{piece_length, piece_used, image_length, image_block, count_length, block_whole, stream_piece}
use Rattle.blocks.proofs.ImageLaws.{stream_pieces}
use Rattle.blocks.specs.Faults.{AllRight, Says}
use Rattle.blocks.proofs.FaultLaws.{fault_says, fault_exact}

module _ (s : List ℕ) (some : 1 ≤ length s) where
  image_size : length (image s) ≡ block_size * pieces (length s)
  unfolding image
  image_size = image_length s (pieces (length s))

  pub pieces_most : (n : ℕ) → length s ≤ payload_size * n → (1 ≤ pieces (length s)) × (pieces (length s) ≤ n)
  pieces_most n h = omega arith

  image_count : count (image s) ≡ pieces (length s)
  image_count = omega (arith, image_size)

  image_right : AllRight (pieces (length s)) (image s) (pieces (length s))
  unfolding image
  image_right k h =
      let n = pieces (length s) in
      let p = piece s k in
      let fits : length p ≤ payload_size = omega (arith, piece_length s k) in
      rw (image_block s n k h) (record { sums = block_sums k p fits; layout = block_layout k p fits (is_last n k) (piece_used s k h) })

  image_joined : (k : ℕ) → k ≤ pieces (length s) → joined (image s) k ≡ take (payload_size * k) s
  unfolding joined image piece
  image_joined zero h = refl
  image_joined (suc k) h =
      let fits : length (piece s k) ≤ payload_size = omega (arith, piece_length s k) in
      let e : payload_size * suc k ≡ payload_size * k + payload_size = omega arith in
      ap₂ ◌++◌ (image_joined k (omega arith)) (ap used_part (image_block s _ k h) ∙ block_part k (piece s k) fits)
      ∙ sym (take-add (payload_size * k) payload_size s)
      ∙ ap (λ (n : ℕ). take n s) (sym e)

  -- what was written is accepted wherever its blocks are allowed
  pub image_accepted : (max : ℕ) → length s ≤ payload_size * most max → fault max (image s) ≡ None
  image_accepted max h =
      let e = image_size in
      let blocks = pieces_most (most max) h in
      fault_exact max (image s) None (
        record { whole = omega arith; from_one = omega arith; to_most = omega arith },
        subst (λ (c : ℕ). AllRight c (image s) c) (sym image_count) image_right,
      )

  -- and its stream is the stream
  pub image_stream : stream (image s) ≡ s
  unfolding stream
  image_stream =
      let n = pieces (length s) in
      let enough : length s ≤ payload_size * n = omega arith in
      ap (joined (image s)) image_count ∙ image_joined n (omega arith) ∙ take_all (payload_size * n) s enough

-- an accepted image is the image of its stream
module _ (max : ℕ) (x : List ℕ) (small : Bytes x) (accepted : fault max x ≡ None) where
  says : Says max x None
  says = subst (Says max x) accepted (fault_says max x)

  block_small : (k : ℕ) → Bytes (block x k)
  unfolding block
  block_small k = bytes_take block_size (drop (block_size * k) x) (bytes_drop (block_size * k) x small)

  image_grows : (k : ℕ) → k ≤ count x → image_of (stream x) k ≡ take (block_size * k) x
  unfolding image_of block stream
  image_grows zero h = refl
  image_grows (suc k) h =
      let n = count x in
      let whole = count_length max x says.0 in
      let r = says.1 in
      let b = block x k in
      let e : block_size * suc k ≡ block_size * k + block_size = omega arith in
      let same : block_of k (piece (stream x) k) ≡ b =
      ap (block_of k) (stream_piece n x whole r k h)
      ∙ sym (right_block k (is_last n k) b (block_whole n x whole k h) (r k h).layout (block_small k) (r k h).sums) in
      ap₂ ◌++◌ (image_grows k (omega arith)) same
      ∙ sym (take-add (block_size * k) block_size x)
      ∙ ap (λ (m : ℕ). take m x) (sym e)

  pub stream_image : image (stream x) ≡ x
  unfolding image stream
  stream_image =
      let n = count x in
      let whole = count_length max x says.0 in
      ap (image_of (stream x)) (stream_pieces n x whole says.1 (omega (arith, says.0.from_one)))
      ∙ image_grows n (omega arith)
      ∙ take_all (block_size * n) x (omega arith)

-- so one accepted image belongs to a stream
pub one_image : (max : ℕ) (x y : List ℕ) → Bytes x → Bytes y → fault max x ≡ None → fault max y ≡ None → stream x ≡ stream y → x ≡ y
one_image max x y bx by ax ay e = sym (stream_image max x bx ax) ∙ ap image e ∙ stream_image max y by ay
