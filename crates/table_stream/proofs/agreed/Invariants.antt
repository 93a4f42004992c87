use Rattle.std.proofs.Common.{◌-◌, length}
use Rattle.table_stream.specs.TableStreamLaws.{Agree}
use Rattle.table_stream.proofs.agreed.Given as goal

abbrev pub invariant-loop-i : goal.invariant-loop-i
invariant-loop-i l = Agree l.a l.b l.i
