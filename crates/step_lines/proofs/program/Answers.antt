-- `program` meets its contract. The invariant: the lines of the first i rows are written, and there is room for the others. The measure is how many are
-- left.
use Rattle.std.proofs.Common.{◌-◌, arith, ◌≡◌, refl, ap, ◌∙◌}
use Rattle.directory.specs.Rows.{rows_from}
use Rattle.directory.proofs.RowsLaws.{rows_each}
use Rattle.text.specs.ListingLaws.{placed_as}
use Rattle.step_lines.specs.RowLines.{RowFits, rows_lines}
use Rattle.step_lines.specs.RowLinesLaws.{no_rows, more_rows, room_next}
use Rattle.step_lines.proofs.program.Goals as goal

pub loop-i-init : goal.loop-i-init
loop-i-init c =
    let z : c.args.n - 0 ≡ c.args.n = omega arith in
    (omega arith, refl, rw z c.requires.room, no_rows c.args.list.now c.args.rows.now _ _)

pub step-at-requires : goal.step-at-requires
step-at-requires c =
    let h = c.loop-i.invariant in let more = c.loop-i-test.true in (
      rw c.row_at.ensures (rows_each (RowFits c.args.list.now) _ _ c.requires.fits c.loop-i.i more),
      omega (arith, h.1, h.2, room_next c.args.rows.now c.loop-i.i c.args.n _ c.row_at.ensures more),
    )

pub loop-i-preserved : goal.loop-i-preserved
loop-i-preserved c =
    let h = c.loop-i.invariant in let more = c.loop-i-test.true in
    let room = room_next c.args.rows.now c.loop-i.i c.args.n _ c.row_at.ensures more in (
      omega (arith, more),
      c.step-at.auto.out ∙ h.1,
      omega (arith, h.2, room, c.step-at.ensures.upper_bound),
      more_rows c.args.list.now c.args.rows.now _ _ c.loop-i.i _ c.row_at.ensures h.3 c.step-at.ensures.placed,
    )

pub shape_of-out : goal.shape_of-out
shape_of-out c = c.loop-i.invariant.1

pub returns : goal.returns
returns c =
    let h = c.loop-i.invariant in
    let all : c.args.n ≡ c.loop-i.i = omega (arith, h.0, c.loop-i-test.false) in
    record { placed = placed_as (ap (λ i. rows_lines c.args.list.now (rows_from c.args.rows.now 0 i)) all) h.3; upper_bound = omega (arith, h.2) }
