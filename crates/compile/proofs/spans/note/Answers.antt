-- `spans::note` meets its contract. The invariant: the rows from i on are noted. The measure is how many are not.
use Rattle.std.proofs.Common.{◌-◌, ◌≡◌, arith, refl, sym, ◌∙◌}
use Rattle.directory.proofs.RowsLaws.{rows_each}
use Rattle.compile.specs.Spans.{RowHeld}
use Rattle.compile.specs.SpansLaws.{noted_none, noted_all, noted_more}
use Rattle.compile.proofs.spans.note.Goals as goal

pub loop-i-init : goal.loop-i-init
loop-i-init c = (refl, sym (noted_none c.args.rows.now _ _ _ (omega arith)))

pub row_at-requires : goal.row_at-requires
row_at-requires c = omega (arith, c.loop-i-test.true, c.loop-i.auto.i, c.requires.0)

pub note_row-requires : goal.note_row-requires
note_row-requires c =
    let h = c.requires in (
      rw c.row_at.ensures (rows_each RowHeld _ _ h.1 (c.loop-i.i - 1) (omega (arith, c.loop-i-test.true, c.loop-i.auto.i))),
      c.loop-i.invariant.0 ∙ h.2,
    )

pub loop-i-preserved : goal.loop-i-preserved
loop-i-preserved c =
    let h = c.loop-i.invariant in
    let some : c.loop-i.i ≡ 0 → ⊥ = λ e. omega arith in (
      c.note_row.auto.spans ∙ h.0,
      noted_more _ _ _ _ _ _ _ c.row_at.ensures some (omega arith) h.1 c.note_row.ensures,
    )

pub shape_of-spans : goal.shape_of-spans
shape_of-spans c = c.loop-i.invariant.0

pub returns : goal.returns
returns c =
    let none : c.loop-i.i ≡ 0 = omega arith in
    noted_all _ _ _ _ _ none c.loop-i.invariant.1
