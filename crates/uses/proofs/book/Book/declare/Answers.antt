-- `Book::declare` meets its contract.
use Rattle.std.proofs.Common.{refl, sym, ap, ◌∙◌, ◌+◌, ◌-◌, length, arith}
use Rattle.uses.specs.Lent.{passed_in}
use Rattle.uses.specs.Laws.StackLaws.{next_stop}
use Rattle.uses.specs.Laws.NameLaws.{declaring, declare_not, declare_full, declare_one, next_declared, long_stored}
use Rattle.uses.proofs.book.Book.declare.Goals as goal
use Rattle.uses.specs.Passed.{leaves}

pub returns-then-not-unused : goal.returns-then-not-unused
returns-then-not-unused c =
    let x = c.args.self.text.now in
    let t = c.args.self.tables.now in
    let l = c.args.locals.now in
    let s = c.args.c in
    record {
      by_index = λ k o. declare_not x t l s c.requires c.args.at c.unused.result c.unused.ensures k o c.if-not-unused.true;
      next = next_stop t l s c.requires;
      locals_len_unchanged = refl;
    }

pub returns-then-met : goal.returns-then-met
returns-then-met c =
    let x = c.args.self.text.now in
    let t = c.args.self.tables.now in
    let l = c.args.locals.now in
    let s = c.args.c in
    record {
      by_index = λ k o. declare_full x t l s c.requires c.args.at c.unused.result c.unused.ensures k o c.if-not-unused.false c.if-met.true;
      next = next_stop t l s c.requires;
      locals_len_unchanged = refl;
    }

pub returns : goal.returns
returns c =
    let x = c.args.self.text.now in
    let t = c.args.self.tables.now in
    let l = c.args.locals.now in
    let s = c.args.c in
    let r = c.requires in
    record {
      by_index = λ k o. ap (λ z. passed_in x z k (leaves (declaring s) (8 + s.met)) o) c.store.ensures ∙ declare_one x t l s r c.args.at c.unused.result
          c.unused.ensures k o c.if-not-unused.false c.if-met.false;
      next = rw c.store.ensures (next_declared x t l s r c.args.at c.unused.result c.unused.ensures c.if-met.false (8 + s.met));
      locals_len_unchanged = ap length c.store.ensures ∙ long_stored l r.long c.args.at s.met (s.living - s.fresh) s.typ c.if-met.false
          (omega (arith, r.living, c.if-met.false)) ∙ sym r.long;
    }
