-- `reported` meets its contract: the blocks that are written are few, and the answer has their count.
use Rattle.std.proofs.Common.{arith}
use Rattle.table_write.specs.WrittenWays.{stream_fits}
use Rattle.run_images.proofs.reported.Goals as goal

pub overflow_cast-result-2 : goal.overflow_cast-result-2
overflow_cast-result-2 c = omega (arith, (stream_fits _ _ _ _ c.requires.filled).1, c.write-blocks.ensures.value)

pub returns : goal.returns
returns c =
    record { value = rw c.write-blocks.ensures.value; output_after = c.write-blocks.ensures.out_after }
