-- The numbers left lead to the row.
use Rattle.text.specs.ListingLaws.{RowLeft}
use Rattle.text.proofs.lines.row.Given as goal

abbrev pub invariant-loop-n : goal.invariant-loop-n
invariant-loop-n l = RowLeft l.word l.ns l.fn.out l.fn.k l.n-index l.end l.out
