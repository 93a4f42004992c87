-- `writing::stream` meets its contract: N, and the instances behind it.
use Rattle.std.proofs.Common.{◌∙◌, arith}
use Rattle.table_write.specs.WrittenWays.{stream_written, stream_length}
use Rattle.table_write.proofs.writing.stream.Goals as goal

pub instances-requires : goal.instances-requires
instances-requires c = record { filled = c.requires.filled; first_le_n = omega (arith, c.put_pair.auto.out) }

pub shape_of-out : goal.shape_of-out
shape_of-out c = c.instances.auto.out ∙ c.put_pair.auto.out

pub returns : goal.returns
returns c =
    let args = c.args in record { value = stream_length args.counts.now args.heads.now args.cells.now args.n c.instances.result c.instances.ensures.value; out_after = stream_written args.counts.now args.heads.now args.cells.now args.n args.out.now c.put_pair.new.out c.instances.new.out c.put_pair.ensures c.instances.ensures.out_after }
