-- One law for each way through the functions that write an image (01, 'Blocks').
use Rattle.std.specs.Prelude.{ℕ, ◌+◌, ◌*◌, ◌-◌, ◌<◌, ◌≤◌, ◌≡◌, Bool, true, false, List, length, take, drop, leb, Ok, Err}
use Rattle.std.proofs.Common.{arith, add-one, sym, ◌∙◌, length-drop, take_all}
use Rattle.std.proofs.Math.Nat.{add-sub_cancel_left}
use borrow.Author.Tests.{le-leb, lt-leb, lt-ltb, le-ltb}
use Rattle.types.specs.Reflects.{Reflects, reflects_iff, reflects_both, le_reflects}
use Rattle.block.specs.Put.{put}
use Rattle.block.proofs.Laws.PutLaws.{put_next, put_front}
use Rattle.block.specs.Block.{payload_size, block_of}
use Rattle.block.proofs.Laws.BlockRoundTrip.{block_length}
use Rattle.blocks.specs.Images.{most, piece, pieces, image_of, image, stream_right, write, written_into}
use Rattle.blocks.proofs.ImageLaws.{image_length, piece_fits}
use Rattle.blocks.specs.Answers.{StreamRight}
use Rattle.blocks.specs.declared.WriteError.TheVariants.{Length as WrongLength, Short as ShortOutput}

-- Pieces --------------------------------------------------------------------------

-- piece k as the part of the stream that it is
pub piece_last : (s : List ℕ) (k : ℕ) → length s - 504 * k < 504 → take (length s - 504 * k) (drop (504 * k) s) ≡ piece s k
unfolding piece
piece_last s k h =
    let l = length-drop (504 * k) s in
    take_all (length s - 504 * k) (drop (504 * k) s) (omega arith) ∙ sym (take_all payload_size (drop (504 * k) s) (omega arith))

pub piece_full : (s : List ℕ) (k : ℕ) → take (504 * k + 504 - 504 * k) (drop (504 * k) s) ≡ piece s k
unfolding piece
piece_full s k = rw add-sub_cancel_left

pub blocks_turn : (s d d₁ d₂ : List ℕ) (n k : ℕ) (p : List ℕ) → 512 * n ≤ length d → k < n → d₁ ≡ put d 0 (image_of s k) → p ≡ piece s k
    → d₂ ≡ put d₁ (512 * k) (block_of k p) → d₂ ≡ put d 0 (image_of s (k + 1))
unfolding image_of
blocks_turn s d d₁ d₂ n k p fits h e₁ ep e₂ =
    rw add-one
    (put_next d 0 (image_of s k) (block_of k (piece s k)) (512 * k) d₁ d₂
    (omega (arith, image_length s k)) (omega (arith, block_length k (piece s k) (piece_fits s k))) e₁ (rw (← ep) e₂))

-- What writing answers -------------------------------------------------------------

pub stream_exact : (max n : ℕ) → Reflects (StreamRight max n) (stream_right max n)
unfolding stream_right
stream_exact max n = reflects_both (le_reflects 1 n) (le_reflects n (payload_size * most max))

module _ (max n : ℕ) where
  pub no_byte : n < 1 → false ≡ stream_right max n
  unfolding stream_right
  no_byte h = rw (lt-leb 1 n h)

  pub some_byte : (m : ℕ) → m ≡ most max → 1 ≤ n → leb n (504 * m) ≡ stream_right max n
  unfolding stream_right
  some_byte m e h = rw (le-leb 1 n h, e)

  pub right_stream : (t : Bool) → t ≡ stream_right max n → t ≡ true → (1 ≤ n) × (n ≤ 504 * most max)
  right_stream t e f = (reflects_iff (stream_exact max n)).0 (sym e ∙ f)

  module _ (room : ℕ) (t : Bool) (e : t ≡ stream_right max n) where
    pub write_refused : t ≡ false → Err WrongLength ≡ write max n room
    unfolding write
    write_refused f = rw (sym e ∙ f, write)

    pub write_short : t ≡ true → room < 512 * pieces n → Err ShortOutput ≡ write max n room
    unfolding write
    write_short f h = rw (sym e ∙ f, write, lt-ltb room (512 * pieces n) h)

    pub write_done : t ≡ true → 512 * pieces n ≤ room → Ok (pieces n) ≡ write max n room
    unfolding write
    write_done f h = rw (sym e ∙ f, write, le-ltb room (512 * pieces n) h)

pub write_after : (s d : List ℕ) → put d 0 (image s) ≡ written_into (Ok (pieces (length s))) s d
unfolding written_into image
write_after s d = put_front d (image_of s (pieces (length s))) ∙ rw (image_length s (pieces (length s)))
