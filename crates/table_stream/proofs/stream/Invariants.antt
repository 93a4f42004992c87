use Rattle.std.proofs.Common.{◌-◌, ◌≡◌, length}
use Rattle.table_stream.specs.TableStreamLaws.{Taken}
use Rattle.table_stream.proofs.stream.Given as goal

abbrev pub invariant-loop-w : goal.invariant-loop-w
invariant-loop-w l =
    (Taken l.words l.initial.out l.out l.at l.structure l.lines l.w-index) × (length l.out ≡ length l.initial.out)
