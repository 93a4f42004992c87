-- `Book::declared_name` meets its contract: one law for each role.
use Rattle.std.proofs.Common.{refl, ◌≡◌, ◌∙◌, arith}
use Rattle.resolve.specs.Named.{name_at}
use Rattle.uses.specs.Laws.StackLaws.{next_same}
use Rattle.uses.specs.Laws.ChangeLaws.{next_seen, name_struct, name_par, name_step, name_local}
use Rattle.text_shape.specs.RoleNames.{new_local_role}
use Rattle.uses.proofs.book.Book.declared_name.Goals as goal

pub returns-in-39 : goal.returns-in-39
returns-in-39 c =
    let a = c.args in
    let y = name_at a.self.text.now a.at in
    record {
      by_index = λ k o. c.begin.ensures.o_value a.self.text.now y a.locals.now k o ∙ name_struct a.self.text.now a.self.tables.now a.locals.now k o a.c y a.role
          c.in-39.is;
      next = c.begin.ensures.by_index a.locals.now c.requires.0;
      locals_len_unchanged = refl;
    }

pub returns-in-40 : goal.returns-in-40
returns-in-40 c =
    let a = c.args in
    record {
      by_index = λ k o. name_par a.self.text.now a.self.tables.now a.locals.now k o a.c (name_at a.self.text.now a.at) a.role c.in-40.is;
      next = next_same a.self.tables.now a.locals.now a.c c.requires.0;
      locals_len_unchanged = refl;
    }

pub returns-in-41 : goal.returns-in-41
returns-in-41 c =
    let a = c.args in
    record {
      by_index = λ k o. name_step a.self.text.now a.self.tables.now a.locals.now k o a.c (name_at a.self.text.now a.at) a.role c.in-41.is c.called.ensures
          c.left.ensures;
      next = rw c.left.ensures (next_seen a.self.tables.now a.locals.now a.c c.requires.0 c.called.result);
      locals_len_unchanged = refl;
    }

pub returns-in_default : goal.returns-in_default
returns-in_default c =
    let a = c.args in
    let e : a.role ≡ new_local_role = omega arith in
    record {
      by_index = λ k o. c.declare.ensures.by_index k o ∙ name_local a.self.text.now a.self.tables.now a.locals.now k o a.c (name_at a.self.text.now a.at) a.role e;
      next = c.declare.ensures.next;
      locals_len_unchanged = c.declare.ensures.locals_len_unchanged;
    }
