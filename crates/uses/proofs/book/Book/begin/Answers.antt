-- `Book::begin` meets its contract.
use Rattle.uses.specs.Laws.StackLaws.{next_stop}
use Rattle.uses.specs.Laws.NameLaws.{begin_none, begin_one, next_begun}
use Rattle.uses.proofs.book.Book.begin.Goals as goal

pub returns-then-c-self : goal.returns-then-c-self
returns-then-c-self c =
    record {
      o_value = begin_none c.args.self.tables.now c.args.self.booked c.args.c c.if-c-self.true;
      by_index = λ l r. next_stop c.args.self.tables.now l c.args.c r;
    }

pub returns : goal.returns
returns c =
    record {
      o_value = begin_one c.args.self.tables.now c.args.self.booked c.args.c c.if-c-self.false;
      by_index = next_begun c.args.self.tables.now c.args.self.booked c.args.c c.if-c-self.false;
    }
