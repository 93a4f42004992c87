-- `Book::uses` meets its contract. The loop's invariant: what is left of the places leads to what the whole leads to, and a token begins at the next one.
-- The measure is what is left of the roles.
use Rattle.std.proofs.Common.{ap, ◌∙◌, arith}
use Rattle.std.specs.Prelude.{Some}
use Rattle.uses.specs.Lent.{Counted}
use Rattle.uses.specs.Stopping.{stop_in}
use Rattle.uses.specs.Laws.LoopLaws.{reached_start, reached_end, stopped_end}
use Rattle.uses.specs.Laws.GapLaws.{reached_gap, token_here, token_stop, token_on, token_left}
use Rattle.uses.proofs.book.Book.uses.Goals as goal

pub loop-i-init : goal.loop-i-init
loop-i-init c =
    let a = c.args in
    let first = reached_start a.self.text.now a.roles.now a.self.tables.now a.locals.now a.stack.now a.numbers.now c.requires.locals_len in
    (reached_gap c.requires.roles_len.0 c.first-i.ensures.0 first, c.first-i.ensures.1)

pub overflow_add-at : goal.overflow_add-at
overflow_add-at c = omega (arith, c.loop-i-test.true)

pub next-i-requires : goal.next-i-requires
next-i-requires c = omega (arith, c.loop-i-test.true)

pub bounds-roles-at : goal.bounds-roles-at
bounds-roles-at c = omega (arith, c.loop-i-test.true)

pub use_at-requires : goal.use_at-requires
use_at-requires c =
    let pre = c.requires in
    let inv = c.loop-i.invariant.0 in (
      inv.room,
      omega (arith, inv.low, inv.stack, c.loop-i-test.true, pre.roles_len.1),
      omega (arith, c.loop-i-test.true, pre.roles_len.0),
    )

pub shape_of-locals-in-None : goal.shape_of-locals-in-None
shape_of-locals-in-None c =
    c.use_at.ensures.stack_len_unchanged.1 ∙ c.loop-i.invariant.0.locals

pub shape_of-stack-in-None : goal.shape_of-stack-in-None
shape_of-stack-in-None c =
    c.use_at.ensures.stack_len_unchanged.0 ∙ c.loop-i.invariant.0.stack

pub shape_of-numbers-in-None : goal.shape_of-numbers-in-None
shape_of-numbers-in-None c =
    c.loop-i.invariant.0.numbers

pub returns-in-None : goal.returns-in-None
unfolding Counted stop_in
returns-in-None c =
    let inv = c.loop-i.invariant in
    let same = c.requires.roles_len.0 in
    let stop = c.in-None.is in
    record {
      result_after = token_stop same inv.0 inv.1 c.loop-i-test.true _ _ _ c.use_at.ensures.by_index c.use_at.ensures.next
          c.use_at.ensures.stack_len_unchanged _ _ stop;
      counted = tt;
      roles_value = (
        token_here same inv.0 inv.1 c.loop-i-test.true _ _ _ c.use_at.ensures.by_index c.use_at.ensures.next
            c.use_at.ensures.stack_len_unchanged stop,
        omega (arith, c.loop-i-test.true),
      );
      stack_len_unchanged = (
        c.use_at.ensures.stack_len_unchanged.0 ∙ inv.0.stack,
        c.use_at.ensures.stack_len_unchanged.1 ∙ inv.0.locals,
        inv.0.numbers,
      );
    }

pub loop-i-smaller-in-Some-default-None : goal.loop-i-smaller-in-Some-default-None
loop-i-smaller-in-Some-default-None c =
    omega (arith, c.loop-i-test.true, c.next-i.ensures.0.behind)

pub loop-i-preserved-in-Some-default-None : goal.loop-i-preserved-in-Some-default-None
loop-i-preserved-in-Some-default-None c =
    let inv = c.loop-i.invariant in
    let next = c.next-i.ensures in (
      token_on c.requires.roles_len.0 inv.0 inv.1 c.loop-i-test.true _ _ _ c.use_at.ensures.by_index c.use_at.ensures.next
          c.use_at.ensures.stack_len_unchanged
          (c.in-Some-default-None.is ∙ ap (λ z. Some (c.in-Some-default-None.d, z)) c.in-Some-default-None.field-0-1-is) next.0,
      next.1,
    )

pub bounds-numbers-n : goal.bounds-numbers-n
bounds-numbers-n c =
    let inv = c.loop-i.invariant.0 in
    omega (arith, inv.few, inv.numbers, c.loop-i-test.true, c.requires.roles_len.2)

pub overflow_add-n : goal.overflow_add-n
overflow_add-n c =
    omega (arith, c.loop-i.invariant.0.few, c.loop-i-test.true)

pub loop-i-smaller : goal.loop-i-smaller
loop-i-smaller c =
    omega (arith, c.loop-i-test.true, c.next-i.ensures.0.behind)

pub loop-i-preserved : goal.loop-i-preserved
loop-i-preserved c =
    let pre = c.requires.roles_len in
    let inv = c.loop-i.invariant in
    let next = c.next-i.ensures in (
      token_left pre.0 inv.0 inv.1 c.loop-i-test.true _ _ _ c.use_at.ensures.by_index c.use_at.ensures.next c.use_at.ensures.stack_len_unchanged
          (c.in-Some-default-Some.is ∙ ap (λ z. Some (c.in-Some-default-Some.d, z)) c.in-Some-default-Some.field-0-1-is) next.0 pre.2,
      next.1,
    )

pub shape_of-locals : goal.shape_of-locals
shape_of-locals c = c.loop-i.invariant.0.locals

pub shape_of-stack : goal.shape_of-stack
shape_of-stack c = c.loop-i.invariant.0.stack

pub shape_of-numbers : goal.shape_of-numbers
shape_of-numbers c = c.loop-i.invariant.0.numbers

pub returns : goal.returns
unfolding Counted stop_in
returns c =
    let a = c.args in
    let inv = c.loop-i.invariant.0 in
    let pre = c.requires.roles_len in
    record {
      result_after = reached_end a.self.text.now a.roles.now a.self.tables.now a.locals.now a.stack.now a.numbers.now pre.0 inv c.loop-i-test.false;
      counted = (omega (arith, inv.few, inv.inner, inv.numbers, pre.2), tt);
      roles_value = (stopped_end a.self.text.now a.roles.now a.self.tables.now a.locals.now a.stack.now a.numbers.now pre.0 inv c.loop-i-test.false, omega arith);
      stack_len_unchanged = (inv.stack, inv.locals, inv.numbers);
    }
