use Rattle.std.proofs.Common.{◌≡◌, length}
use Rattle.block.specs.Put.{put}
use Rattle.blocks.specs.Images.{image_of}
use Rattle.blocks.proofs.writing.put_blocks.Given as goal

abbrev pub invariant-loop-k : goal.invariant-loop-k
invariant-loop-k l =
    (length l.out ≡ length l.initial.out) × (l.out ≡ put l.initial.out 0 (image_of l.stream l.k))
