-- The words left lead to the answer and the bytes of the whole; no more bytes are written than there is room for.
use Rattle.std.proofs.Common.{◌≤◌, length}
use Rattle.numbers.specs.ByteLaws.{Passed}
use Rattle.numbers.proofs.as_bytes.Given as goal

abbrev pub invariant-loop-i : goal.invariant-loop-i
invariant-loop-i l = Passed l.words l.initial.out l.out l.i × (l.i ≤ length l.initial.out)
