-- `writes::target` meets its contract: what is written, by the tests that lead to it.
use Rattle.std.proofs.Common.{arith, ◌≡◌, ◌∙◌}
use Rattle.layout.specs.Layout.{head, height_of, next_of}
use Rattle.trace_lines.specs.Parts.{target}
use Rattle.trace_lines.specs.PartsLaws.{target_other, target_local, target_null, target_found, same_target, fit_rows, fit_write}
use Rattle.trace_lines.proofs.writes.target.Goals as goal

pub overflow_mul-at : goal.overflow_mul-at
overflow_mul-at c = omega (arith, fit_rows c.requires)

pub overflow_add-next : goal.overflow_add-next
overflow_add-next c = omega (arith, fit_rows c.requires)

pub offset_bounds-heads-at : goal.offset_bounds-heads-at
offset_bounds-heads-at c = omega (arith, fit_rows c.requires)

pub bounds-heads-at : goal.bounds-heads-at
bounds-heads-at c = omega (arith, fit_rows c.requires)

pub overflow_cast-next : goal.overflow_cast-next
overflow_cast-next c = omega (arith, c.type_inv.heads (head c.args.l next_of))

pub offset_bounds-list-next : goal.offset_bounds-list-next
offset_bounds-list-next c = omega (arith, fit_rows c.requires)

pub bounds-list-next : goal.bounds-list-next
bounds-list-next c = omega (arith, fit_rows c.requires)

pub returns-then-w-ne-WR : goal.returns-then-w-ne-WR
unfolding target
returns-then-w-ne-WR c = target_other _ _ _ _ c.if-w-ne-WR.true

pub returns-then-x-ge-FIRST_LOCAL : goal.returns-then-x-ge-FIRST_LOCAL
unfolding target
returns-then-x-ge-FIRST_LOCAL c =
    target_local _ _ _ _ c.if-w-ne-WR.false (rw c.operand-x.ensures.0 at c.if-x-ge-FIRST_LOCAL.true)

pub overflow_add-under : goal.overflow_add-under
overflow_add-under c = omega (arith, fit_write c.requires c.if-w-ne-WR.false, fit_rows c.requires)

pub offset_bounds-heads-at-2 : goal.offset_bounds-heads-at-2
offset_bounds-heads-at-2 c = omega (arith, fit_write c.requires c.if-w-ne-WR.false, fit_rows c.requires)

pub bounds-heads-at-2 : goal.bounds-heads-at-2
bounds-heads-at-2 c = omega (arith, fit_write c.requires c.if-w-ne-WR.false, fit_rows c.requires)

pub overflow_cast-under : goal.overflow_cast-under
overflow_cast-under c = omega (arith, c.type_inv.heads (head c.args.l height_of))

pub overflow_sub-under : goal.overflow_sub-under
overflow_sub-under c = omega (arith, fit_write c.requires c.if-w-ne-WR.false, fit_rows c.requires)

pub overflow_mul-top : goal.overflow_mul-top
overflow_mul-top c = omega (arith, fit_write c.requires c.if-w-ne-WR.false, fit_rows c.requires)

pub overflow_add-top : goal.overflow_add-top
overflow_add-top c = omega (arith, fit_write c.requires c.if-w-ne-WR.false, fit_rows c.requires)

pub overflow_add-top-2 : goal.overflow_add-top-2
overflow_add-top-2 c = omega (arith, fit_write c.requires c.if-w-ne-WR.false, fit_rows c.requires)

pub offset_bounds-cells-l : goal.offset_bounds-cells-l
offset_bounds-cells-l c = omega (arith, fit_write c.requires c.if-w-ne-WR.false, fit_rows c.requires)

pub bounds-cells-l : goal.bounds-cells-l
bounds-cells-l c = omega (arith, fit_write c.requires c.if-w-ne-WR.false, fit_rows c.requires)

pub returns-then-q-counts : goal.returns-then-q-counts
unfolding target
returns-then-q-counts c =
    target_null _ _ _ _ c.if-w-ne-WR.false (rw c.operand-x.ensures.0 at c.if-x-ge-FIRST_LOCAL.false)
    (rw c.operand-q.ensures.0 at c.if-q-counts.true)

pub bounds-cells-q : goal.bounds-cells-q
bounds-cells-q c =
    omega (
      arith,
      fit_write c.requires c.if-w-ne-WR.false,
      fit_rows c.requires,
      c.operand-x.ensures.0,
      c.operand-q.ensures.0,
    )

pub returns : goal.returns
unfolding target
returns c =
    same_target c.args.cells.now _ _ _ _ c.operand-q.ensures.0 c.operand-x.ensures.0
    ∙ (target_found _ _ _ _ c.if-w-ne-WR.false (rw c.operand-x.ensures.0 at c.if-x-ge-FIRST_LOCAL.false)
    (rw c.operand-q.ensures.0 at c.if-q-counts.false))
