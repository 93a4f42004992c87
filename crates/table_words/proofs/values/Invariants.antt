use Rattle.std.proofs.Common.{◌-◌, ◌≡◌, length}
use Rattle.table_words.specs.TableWordsLaws.{ValuesPassed}
use Rattle.table_words.proofs.values.Given as goal

abbrev pub invariant-loop-x : goal.invariant-loop-x
invariant-loop-x l =
    (ValuesPassed l.types l.s l.i l.m l.at l.initial.out l.n l.out l.x) × (length l.out ≡ length l.initial.out)
