-- `Book::used_name` meets its contract: one law for each group of roles.
use Rattle.std.proofs.Common.{refl, ◌∙◌}
use Rattle.resolve.specs.Named.{name_at}
use Rattle.uses.specs.Laws.ChangeLaws.{next_seen, name_first, name_later, name_made, name_called}
use Rattle.uses.proofs.book.Book.used_name.Goals as goal

pub returns-then-role-lt-LATER_VARIABLE : goal.returns-then-role-lt-LATER_VARIABLE
returns-then-role-lt-LATER_VARIABLE c =
    let a = c.args in
    record {
      by_index = λ o. name_first a.self.text.now a.self.tables.now a.locals.now a.stack.now o a.c (name_at a.self.text.now a.at) a.role c.requires.2
          c.if-role-lt-LATER_VARIABLE.true c.first.ensures c.left.ensures;
      next = rw c.left.ensures (next_seen a.self.tables.now a.locals.now a.c c.requires.0 c.first.result);
      stack_len_unchanged = refl;
    }

pub returns-then-role-lt-MADE : goal.returns-then-role-lt-MADE
returns-then-role-lt-MADE c =
    let a = c.args in
    record {
      by_index = λ o. name_later a.self.text.now a.self.tables.now a.locals.now a.stack.now o a.c (name_at a.self.text.now a.at) a.role
          c.if-role-lt-LATER_VARIABLE.false c.if-role-lt-MADE.true c.later.ensures c.left-then-role-lt-MADE.ensures;
      next = rw c.left-then-role-lt-MADE.ensures (next_seen a.self.tables.now a.locals.now a.c c.requires.0 c.later.result);
      stack_len_unchanged = refl;
    }

pub returns-then-role-lt-CALLED : goal.returns-then-role-lt-CALLED
returns-then-role-lt-CALLED c =
    let a = c.args in
    record {
      by_index = λ o. c.made.ensures.by_index a.locals.now o ∙ name_made a.self.text.now a.self.tables.now a.locals.now a.stack.now o a.c
          (name_at a.self.text.now a.at) a.role c.if-role-lt-MADE.false c.if-role-lt-CALLED.true;
      next = c.made.ensures.by_index_2 a.locals.now c.requires.0;
      stack_len_unchanged = c.made.ensures.stack_len_unchanged;
    }

pub returns : goal.returns
returns c =
    let a = c.args in
    record {
      by_index = λ o. name_called a.self.text.now a.self.tables.now a.locals.now a.stack.now o a.c (name_at a.self.text.now a.at) a.role c.if-role-lt-CALLED.false
          c.requires.3 c.called.ensures c.left-2.ensures;
      next = rw c.left-2.ensures (next_seen a.self.tables.now a.locals.now a.c c.requires.0 c.called.result);
      stack_len_unchanged = refl;
    }
