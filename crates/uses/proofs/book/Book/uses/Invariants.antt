use Rattle.std.proofs.Common.{◌-◌, length}
use Rattle.lexer.specs.Gaps.{Token}
use Rattle.uses.specs.Laws.LoopLaws.{Reached}
use Rattle.uses.proofs.book.Book.uses.Given as goal

abbrev pub invariant-loop-i : goal.invariant-loop-i
invariant-loop-i l =
    Reached l.self.text.now l.roles l.self.tables.now l.initial.locals l.initial.stack l.initial.numbers l.locals l.stack l.numbers l.c l.n l.i × Token l.roles l.i

abbrev pub decreases-loop-i : goal.decreases-loop-i
decreases-loop-i l = length l.roles - l.i
