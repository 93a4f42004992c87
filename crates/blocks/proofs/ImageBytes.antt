-- The written image of a stream of bytes is a list of bytes (01, 'Blocks').
use Rattle.std.specs.Prelude.{ℕ, zero, suc, ◌*◌, ◌≤◌, List, length, drop}
use Rattle.std.proofs.Common.{arith}
use Rattle.block.specs.Sums.{Bytes, wrap}
use Rattle.block.specs.Block.{payload_size}
use Rattle.block.specs.BlockBytes.{bytes_take, bytes_drop, bytes_append, bytes_block}
use Rattle.blocks.specs.Images.{piece, pieces, image_of, image}
use Rattle.blocks.proofs.ImageLaws.{piece_fits}

bytes_blocks : (s : List ℕ) → Bytes s → (k : ℕ) → k ≤ wrap → Bytes (image_of s k)
unfolding image_of piece
bytes_blocks s small zero h = λ i. omega arith
bytes_blocks s small (suc k) h =
    bytes_append (image_of s k) _ (bytes_blocks s small k (omega arith))
    (bytes_block k (piece s k) (omega arith) (piece_fits s k) (bytes_take payload_size (drop (payload_size * k) s) (bytes_drop (payload_size * k) s small)))

pub image_bytes : (s : List ℕ) → Bytes s → length s ≤ payload_size * wrap → Bytes (image s)
unfolding image
image_bytes s small h = bytes_blocks s small (pieces (length s)) (omega arith)
