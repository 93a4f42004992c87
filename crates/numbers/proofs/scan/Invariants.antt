-- The bytes left lead to the answer and the words of the whole; no more words are written than there is room for.
use Rattle.std.proofs.Common.{◌≤◌, length}
use Rattle.numbers.specs.ScanLaws.{Reached}
use Rattle.numbers.proofs.scan.Given as goal

abbrev pub invariant-loop-i : goal.invariant-loop-i
invariant-loop-i l = Reached l.text l.initial.out l.out l.state l.n l.i × (l.n ≤ length l.initial.out)
