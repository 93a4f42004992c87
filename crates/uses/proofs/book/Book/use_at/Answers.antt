-- `Book::use_at` meets its contract: one law for each group of bytes.
use Rattle.std.proofs.Common.{refl, ◌∙◌, arith, drop}
use Rattle.uses.specs.Lent.{book_in, use_in, passed_in}
use Rattle.uses.specs.Laws.StackLaws.{next_same}
use Rattle.uses.specs.Laws.LoopLaws.{place_kind, place_name, place_type, place_part}
use Rattle.uses.proofs.book.Book.use_at.Goals as goal

pub returns-then-quiet : goal.returns-then-quiet
unfolding passed_in
returns-then-quiet c =
    let a = c.args in
    record {
      by_index = λ o. c.quiet.ensures c.if-quiet.true (book_in a.self.text.now a.self.tables.now) (drop a.at a.self.text.now)
          (use_in a.self.text.now a.locals.now a.stack.now a.c o);
      next = next_same a.self.tables.now a.locals.now a.c c.requires.0;
      stack_len_unchanged = (refl, refl);
    }

pub returns-then-role-lt-FIRST_NAME : goal.returns-then-role-lt-FIRST_NAME
returns-then-role-lt-FIRST_NAME c =
    let a = c.args in
    let l = a.locals.now in
    let k = a.stack.now in
    record {
      by_index = λ o. c.kind_role.ensures.by_index l k o ∙ place_kind (book_in a.self.text.now a.self.tables.now) a.role (drop a.at a.self.text.now)
          (use_in a.self.text.now l k a.c o) c.if-role-lt-FIRST_NAME.true;
      next = c.kind_role.ensures.by_index_2 a.self.tables.now l c.requires.0;
      stack_len_unchanged = (refl, refl);
    }

pub returns-then-role-lt-FIRST_USE : goal.returns-then-role-lt-FIRST_USE
returns-then-role-lt-FIRST_USE c =
    let a = c.args in
    record {
      by_index = λ o. c.declared_name.ensures.by_index a.stack.now o ∙ place_name (book_in a.self.text.now a.self.tables.now) a.role (drop a.at a.self.text.now)
          (use_in a.self.text.now a.locals.now a.stack.now a.c o) c.if-role-lt-FIRST_NAME.false (omega (arith, c.if-role-lt-FIRST_USE.true));
      next = c.declared_name.ensures.next;
      stack_len_unchanged = (refl, c.declared_name.ensures.locals_len_unchanged);
    }

pub returns-then-role-lt-FIRST_TYPE : goal.returns-then-role-lt-FIRST_TYPE
returns-then-role-lt-FIRST_TYPE c =
    let a = c.args in
    record {
      by_index = λ o. c.used_name.ensures.by_index o ∙ place_name (book_in a.self.text.now a.self.tables.now) a.role (drop a.at a.self.text.now)
          (use_in a.self.text.now a.locals.now a.stack.now a.c o) c.if-role-lt-FIRST_NAME.false c.if-role-lt-FIRST_TYPE.true;
      next = c.used_name.ensures.next;
      stack_len_unchanged = (c.used_name.ensures.stack_len_unchanged, refl);
    }

pub returns-then-role-lt-FIRST_PART : goal.returns-then-role-lt-FIRST_PART
returns-then-role-lt-FIRST_PART c =
    let a = c.args in
    let l = a.locals.now in
    let k = a.stack.now in
    record {
      by_index = λ o. c.type_role.ensures.by_index l k o ∙ place_type (book_in a.self.text.now a.self.tables.now) a.role (drop a.at a.self.text.now)
          (use_in a.self.text.now l k a.c o) c.if-role-lt-FIRST_NAME.false c.if-role-lt-FIRST_TYPE.false c.if-role-lt-FIRST_PART.true;
      next = c.type_role.ensures.by_index_2 l c.requires.0;
      stack_len_unchanged = (refl, refl);
    }

pub returns : goal.returns
returns c =
    let a = c.args in
    let r = c.requires.0 in
    let l = a.locals.now in
    record {
      by_index = λ o. c.part_role.ensures.o_after a.self.text.now a.self.tables.now l o r ∙ place_part (book_in a.self.text.now a.self.tables.now) a.role
          (drop a.at a.self.text.now) (use_in a.self.text.now l a.stack.now a.c o) c.if-role-lt-FIRST_NAME.false c.if-role-lt-FIRST_TYPE.false
          c.if-role-lt-FIRST_PART.false;
      next = c.part_role.ensures.by_index a.self.tables.now l r;
      stack_len_unchanged = (c.part_role.ensures.stack_len_unchanged, refl);
    }
