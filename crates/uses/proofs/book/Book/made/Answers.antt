-- `Book::made` meets its contract.
use Rattle.std.proofs.Common.{◌-◌, ◌<◌, refl, arith, length-set, ap, ◌∙◌}
use Rattle.resolve.specs.Named.{name_at}
use Rattle.resolve.specs.Laws.NamedLaws.{found_none, found_some}
use Rattle.uses.specs.Lent.{row_start, row_end, structs_of_table, passed_in}
use Rattle.uses.specs.Laws.SeeingLaws.{struct_names}
use Rattle.uses.specs.Laws.StackLaws.{next_stop}
use Rattle.uses.specs.Laws.NameLaws.{made_none, made_one, next_made}
use Rattle.uses.specs.Seeing.{dued}
use Rattle.uses.proofs.book.Book.made.Goals as goal

pub returns-in_err-n : goal.returns-in_err-n
returns-in_err-n c =
    let x = c.args.self.text.now in
    let t = c.args.self.tables.now in
    let b = c.args.self.booked in
    let s = c.args.c in
    record {
      by_index = λ l o. ap (λ z. passed_in x l c.args.stack.now z o) c.from_residual.ensures
          ∙ made_none x t b c.args.stack.now s (name_at x c.args.at) refl (omega (arith, found_none _ _ _ c.in_err-n.ensures, struct_names x t b)) l o;
      by_index_2 = λ l r. rw c.from_residual.ensures (next_stop t l s r);
      stack_len_unchanged = refl;
    }

pub overflow_sub-stack : goal.overflow_sub-stack
overflow_sub-stack c =
    let f = found_some _ _ _ c.in_ok-n.ensures in
    let b = c.args.self.booked in
    omega (arith, (b.rows c.in_ok-n.n (omega (arith, f.1, struct_names c.args.self.text.now c.args.self.tables.now b))).up)

pub overflow_cast-stack : goal.overflow_cast-stack
overflow_cast-stack c =
    let f = found_some _ _ _ c.in_ok-n.ensures in
    let b = c.args.self.booked in
    omega (arith, (b.rows c.in_ok-n.n (omega (arith, f.1, struct_names c.args.self.text.now c.args.self.tables.now b))).few)

pub returns : goal.returns
unfolding dued
returns c =
    let x = c.args.self.text.now in
    let t = c.args.self.tables.now in
    let b = c.args.self.booked in
    let s = c.args.c in
    let k = c.args.stack.now in
    let n = c.in_ok-n.n in
    let f = found_some _ _ _ c.in_ok-n.ensures in
    let h : n < structs_of_table t = omega (arith, f.1, struct_names x t b) in
    record {
      by_index = made_one x t b k s (name_at x c.args.at) f.0 h c.requires;
      by_index_2 = λ l r. next_made t l s n r;
      stack_len_unchanged = length-set k s.dues (row_end t n - row_start t n);
    }
