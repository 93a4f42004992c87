use Rattle.std.proofs.Common.{◌≡◌, length}
use Rattle.block.specs.Put.{put}
use Rattle.blocks.specs.Images.{joined}
use Rattle.blocks.proofs.reading.join.Given as goal

abbrev pub invariant-loop-k : goal.invariant-loop-k
invariant-loop-k l =
    (length l.buffer ≡ length l.initial.buffer) × (l.buffer ≡ put l.initial.buffer 0 (joined l.image l.k))
