-- `reading::length_right` meets its contract: the tests are those of the definition.
use Rattle.std.proofs.Common.{arith}
use Rattle.std.proofs.lemmas.Grind.{common_steps}
use Rattle.blocks.specs.Images.{length_right}
use Rattle.blocks.proofs.reading.length_right.Goals as goal

pub returns-then-n-ge-BLOCK_SIZE : goal.returns-then-n-ge-BLOCK_SIZE
unfolding length_right
returns-then-n-ge-BLOCK_SIZE c = grind (arith, common_steps)

pub returns-else-n-ge-BLOCK_SIZE : goal.returns-else-n-ge-BLOCK_SIZE
unfolding length_right
returns-else-n-ge-BLOCK_SIZE c = grind (arith, common_steps)
