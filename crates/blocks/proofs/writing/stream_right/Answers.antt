-- `writing::stream_right` meets its contract, by a law for each way through it.
use Rattle.std.proofs.Common.{◌∙◌}
use Rattle.std.proofs.lemmas.Bool.{lt-leb}
use Rattle.blocks.proofs.WriteWays.{no_byte, some_byte}
use Rattle.blocks.proofs.writing.stream_right.Goals as goal

pub returns-then-n-ge1 : goal.returns-then-n-ge1
returns-then-n-ge1 c = some_byte _ _ _ c.most.ensures.0 c.if-n-ge1.true

pub returns-else-n-ge1 : goal.returns-else-n-ge1
returns-else-n-ge1 c = lt-leb 1 c.args.n c.if-n-ge1.false ∙ no_byte _ _ c.if-n-ge1.false
