-- `nulls::nulls` meets its contract. The loop's invariant: the null instances that are left make of memory what all of them do.
use Rattle.std.proofs.Common.{◌≡◌, ◌∙◌, arith, length}
use Rattle.table_read.specs.Laws.NullWays.{heads_turn, rows_turn, heads_end, rows_end}
use Rattle.table_read.proofs.nulls.nulls.Goals as goal

pub loop-k-preserved : goal.loop-k-preserved
loop-k-preserved c =
    let inv = c.loop-k.invariant in (
      (omega arith, c.seat.auto.heads ∙ inv.0.1, c.defaults.auto.cells ∙ inv.0.2),
      (
        heads_turn _ _ _ _ c.loop-k.k c.loop-k-test.true c.seat.ensures ∙ inv.1.0,
        rows_turn _ _ _ _ c.loop-k.k c.index.result c.loop-k-test.true c.index.ensures.0 c.defaults.ensures ∙ inv.1.1,
      ),
    )

pub returns-clause-heads_after : goal.returns-clause-heads_after
returns-clause-heads_after c =
    let e : c.loop-k.k ≡ length c.args.p.counts.now = omega arith in heads_end _ _ _ c.loop-k.k e ∙ c.loop-k.invariant.1.0

pub returns-clause-cells_after : goal.returns-clause-cells_after
returns-clause-cells_after c =
    let e : c.loop-k.k ≡ length c.args.p.counts.now = omega arith in rows_end _ _ _ c.loop-k.k e ∙ c.loop-k.invariant.1.1
