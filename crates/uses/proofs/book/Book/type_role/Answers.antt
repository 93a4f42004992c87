-- `Book::type_role` meets its contract: one law for each way.
use Rattle.std.proofs.Common.{drop, arith}
use Rattle.resolve.specs.Checks.{type_here}
use Rattle.resolve.specs.UsingAt.{number_at}
use Rattle.uses.specs.Lent.{book_in, use_in, passed_in}
use Rattle.uses.specs.Laws.StackLaws.{next_stop, next_same}
use Rattle.uses.specs.Laws.ChangeLaws.{next_seen}
use Rattle.uses.specs.Laws.TypeLaws.{type_par, type_none, type_one}
use Rattle.uses.proofs.book.Book.type_role.Goals as goal
use Rattle.std.specs.Prelude.{Some}

pub returns-then-role-lt-LOCAL_INT : goal.returns-then-role-lt-LOCAL_INT
unfolding passed_in
returns-then-role-lt-LOCAL_INT c =
    let a = c.args in
    record {
      by_index = λ l k o. type_par (book_in a.self.text.now a.self.tables.now) (type_here (number_at a.role) (drop a.at a.self.text.now))
          (use_in a.self.text.now l k a.c o) a.role c.if-role-lt-LOCAL_INT.true;
      by_index_2 = λ l r. next_same a.self.tables.now l a.c r;
    }

pub returns-then-b-from : goal.returns-then-b-from
returns-then-b-from c =
    let a = c.args in
    record {
      by_index = λ l k o. type_none a.self.text.now a.self.tables.now c.args.self.booked a.c a.role c.if-role-lt-LOCAL_INT.false c.requires.1 (drop a.at a.self.text.now)
          c.type_byte-b.ensures c.type_number.ensures l k o (omega (arith, c.if-b-from.true, c.from.ensures));
      by_index_2 = λ l r. next_stop a.self.tables.now l a.c r;
    }

pub returns : goal.returns
returns c =
    let a = c.args in
    record {
      by_index = λ l k o. type_one a.self.text.now a.self.tables.now c.args.self.booked a.c a.role c.if-role-lt-LOCAL_INT.false c.requires.1 (drop a.at a.self.text.now)
          c.type_byte-b.ensures c.type_number.ensures l k o (omega (arith, c.if-b-from.false, c.from.ensures)) c.left.ensures;
      by_index_2 = λ l r. rw c.left.ensures (next_seen a.self.tables.now l a.c r (Some (c.type_byte-b.result, c.type_byte-b.result)));
    }
