-- `accepted` is safe: memory as long as seating asks for is lent.
use Rattle.std.proofs.Common.{arith}
use Rattle.std.proofs.lemmas.List.{length-replicate}
use Rattle.audala_table.proofs.accepted.Goals as goal

pub seat_table-requires : goal.seat_table-requires
seat_table-requires c =
    record { heads_len = (simp length-replicate (omega arith), simp length-replicate (omega arith)); table_blocks_in_bounds = simp length-replicate (omega arith) }
