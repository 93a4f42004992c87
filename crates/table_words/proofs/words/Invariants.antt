use Rattle.std.proofs.Common.{◌-◌, ◌≡◌, length}
use Rattle.table_words.specs.TableWordsLaws.{RowsPassed}
use Rattle.table_words.proofs.words.Given as goal

abbrev pub invariant-loop-i : goal.invariant-loop-i
invariant-loop-i l =
    (RowsPassed l.counts l.types l.s l.nulls l.m l.initial.out l.out l.at l.n l.i) × (length l.out ≡ length l.initial.out)
