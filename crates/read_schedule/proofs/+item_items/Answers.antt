-- `item` and `items` meet their contracts: the unread bytes fall. The loop's invariant: what is left, read behind what was planned so far,
-- comes to what the whole does.
use Rattle.std.proofs.Common.{ℕ, List, ◌+◌, ◌-◌, arith, ◌≡◌, refl, ap, sym, ◌∙◌}
use Rattle.std.proofs.lemmas.Result.{err_from_is_err_and}
use Rattle.program.specs.Reader.{Result.bad, read_item, read_items}
use Rattle.directory.specs.Rows.{rows_from}
use Rattle.judge.specs.ProgramFacts.{item_plan, items_plan}
use Rattle.read_schedule.specs.PlanTold.{plan_of, plan_read, fixed, after, told}
use Rattle.read_schedule.specs.PlanWays.{fix_around, row_ends, row_refused, row_goes, items_stop, items_row, item_out, item_call, item_call_in}
use Rattle.read_schedule.specs.PlanWays.{item_none, item_deep, item_fix, fix_value, span_less, span_joined}
use Rattle.read_schedule.proofs.+item_items.Goals as goal
use Rattle.read_schedule.proofs.+item_items.Goals.{item-then-b-ne-FIX-via-then-b-ne-FIX, item-then-b-ne-FIX-via-else-b-ne-FIX+then-depth-eq0}

pub item-returns-then-s-at : goal.item-returns-then-s-at
item-returns-then-s-at t c =
    let a = c.args in
    record { by_index = λ ar l. ap (told (item_plan (rows_from a.t.now.rows.now 0 a.t.now.steps) a.t.now.structs)) (sym (item_out ar a.s.now a.depth a.at c.if-s-at.true)); ahead = tt }

pub item-returns-then-b-eq-CALL : goal.item-returns-then-b-eq-CALL
item-returns-then-b-eq-CALL t c =
    let a = c.args in record { by_index = λ ar l. rw (item_call ar a.s.now a.depth a.at c.if-s-at.false c.if-b-eq-CALL.true) c.call.ensures.value; ahead = span_less a.s.now _ _ _ _ c.call.result (omega arith) (omega arith) c.call.ensures.ahead }

pub item-returns-then-b-eq-CALL_IN : goal.item-returns-then-b-eq-CALL_IN
item-returns-then-b-eq-CALL_IN t c =
    let a = c.args in record { by_index = λ ar l. rw (item_call_in ar a.s.now a.depth a.at c.if-s-at.false c.if-b-eq-CALL_IN.true a.t.now.structs l) c.call_in.ensures.value; ahead = span_less a.s.now _ _ _ _ c.call_in.result (omega arith) (omega arith) c.call_in.ensures.ahead }

pub item-returns-then-b-ne-FIX : goal.item-returns-then-b-ne-FIX
item-returns-then-b-ne-FIX t c =
    let a = c.args in
    let none : (ar : List ℕ) → read_item ar a.s.now a.depth a.at ≡ bad a.at 5 = elim c.then-b-ne-FIX.branch [
      | item-then-b-ne-FIX-via-then-b-ne-FIX w ↦ λ ar. item_none ar a.s.now a.depth a.at c.if-s-at.false c.if-b-eq-CALL.false c.if-b-eq-CALL_IN.false w.if-b-ne-FIX.true
      | item-then-b-ne-FIX-via-else-b-ne-FIX+then-depth-eq0 w ↦ λ ar. item_deep ar a.s.now a.depth a.at c.if-s-at.false w.if-b-ne-FIX.false w.if-depth-eq0.true
    ] in
    record { by_index = λ ar l. ap (told (item_plan (rows_from a.t.now.rows.now 0 a.t.now.steps) a.t.now.structs)) (sym (none ar)); ahead = tt }

pub item-items-requires : goal.item-items-requires
item-items-requires t c = (omega (arith, c.requires), tt)

pub item-returns-in_err-next : goal.item-returns-in_err-next
item-returns-in_err-next t c =
    let a = c.args in
    let rs = rows_from a.t.now.rows.now 0 a.t.now.steps in
    let p = err_from_is_err_and c.from_residual.result c.from_residual.ensures.1 in
    rw (p.1, p.2) (record {
      by_index = λ ar l. ap (after fixed) (c.in_err-next.ensures.by_index ar l)
          ∙ rw (item_fix ar a.s.now a.depth a.at c.if-s-at.false c.if-b-ne-FIX.false c.if-depth-eq0.false)
          (sym (fix_around rs a.t.now.structs (read_items ar a.s.now (read_item ar a.s.now (a.depth - 1)) (a.at + 1))));
      ahead = tt;
    })

pub item-overflow_add-result : goal.item-overflow_add-result
item-overflow_add-result t c = omega (arith, c.in_ok-next.ensures.ahead, c.well_formed.0)

pub item-returns : goal.item-returns
item-returns t c =
    let a = c.args in
    let rs = rows_from a.t.now.rows.now 0 a.t.now.steps in
    record {
      by_index = λ ar l. fix_value c.in_ok-next.next c.in_ok-next.p ∙ ap (after fixed) (c.in_ok-next.ensures.by_index ar l)
          ∙ rw (item_fix ar a.s.now a.depth a.at c.if-s-at.false c.if-b-ne-FIX.false c.if-depth-eq0.false)
          (sym (fix_around rs a.t.now.structs (read_items ar a.s.now (read_item ar a.s.now (a.depth - 1)) (a.at + 1))));
      ahead = omega (arith, c.in_ok-next.ensures.ahead);
    }

pub items-returns-in_err-n : goal.items-returns-in_err-n
items-returns-in_err-n t c =
    let a = c.args in
    let p = err_from_is_err_and c.from_residual.result c.from_residual.ensures.1 in
    rw (p.1, p.2) (record { by_index = λ ar l. sym (items_stop ar a.s.now (read_item ar a.s.now a.depth) a.at (items_plan (rows_from a.t.now.rows.now 0 a.t.now.steps) a.t.now.structs) _ (sym c.in_err-n.ensures.value)); ahead = tt })

pub items-loop-i-init : goal.items-loop-i-init
items-loop-i-init t c =
    let span = c.in_ok-n.ensures.byte_span in
    let whole : c.in_ok-n.n - 0 ≡ c.in_ok-n.n = omega arith in
    (omega arith, λ ar l. rw whole refl)

pub items-item-requires : goal.items-item-requires
items-item-requires t c = (omega (arith, c.requires, c.loop-i.invariant.0), tt)

pub items-returns-in_err-behind : goal.items-returns-in_err-behind
items-returns-in_err-behind t c =
    let loop = c.loop-i in
    let a = c.args in
    let rs = rows_from a.t.now.rows.now 0 a.t.now.steps in
    let n = c.in_ok-n.n in
    let more : n - loop.i ≡ 0 → ⊥ = λ z. omega arith in
    let counted = sym c.in_ok-n.ensures.value in
    let p = err_from_is_err_and c.from_residual-in_err-behind.result c.from_residual-in_err-behind.ensures.1 in
    rw (p.1, p.2) (record {
      by_index = λ ar l. ap plan_read (sym (loop.invariant.1 ar l ∙ row_refused rs a.t.now.structs (read_item ar a.s.now a.depth) (plan_of loop.all) (n - loop.i) loop.next more _ (sym (c.in_err-behind.ensures.by_index ar l))))
          ∙ items_row ar a.s.now (read_item ar a.s.now a.depth) a.at rs a.t.now.structs _ _ counted;
      ahead = tt;
    })

pub items-joined-all-requires : goal.items-joined-all-requires
items-joined-all-requires t c = omega (arith, c.in_ok-behind.ensures.ahead, c.loop-i.invariant.0, c.well_formed.0)

pub items-loop-i-preserved : goal.items-loop-i-preserved
items-loop-i-preserved t c =
    let loop = c.loop-i in
    let a = c.args in
    let n = c.in_ok-n.n in
    let more : n - loop.i ≡ 0 → ⊥ = λ z. omega arith in
    let one : n - (loop.i + 1) ≡ n - loop.i - 1 = omega arith in
    let span = c.in_ok-behind.ensures.ahead in
    rw (c.joined-all.ensures, one) (
      (
        omega (arith, loop.invariant.0),
        span.1,
        span_joined a.s.now a.at loop.next _ loop.all _ loop.invariant.0.2 span,
      ),
      λ ar l. loop.invariant.1 ar l
          ∙ row_goes (rows_from a.t.now.rows.now 0 a.t.now.steps) a.t.now.structs (read_item ar a.s.now a.depth) (plan_of loop.all) (n - loop.i) loop.next more _ _
          (sym (c.in_ok-behind.ensures.by_index ar l)),
    )

pub items-returns : goal.items-returns
items-returns t c =
    let a = c.args in let loop = c.loop-i in
    let rs = rows_from a.t.now.rows.now 0 a.t.now.steps in
    let n = c.in_ok-n.n in
    let counted = sym c.in_ok-n.ensures.value in
    let none : n - loop.i ≡ 0 = omega arith in
    record {
      by_index = λ ar l. ap plan_read (sym (loop.invariant.1 ar l ∙ row_ends rs a.t.now.structs (read_item ar a.s.now a.depth) (plan_of loop.all) (n - loop.i) loop.next none))
          ∙ items_row ar a.s.now (read_item ar a.s.now a.depth) a.at rs a.t.now.structs _ _ counted;
      ahead = loop.invariant.0;
    }
