-- `rows::find` meets its contract. The loop's invariant: the first row of all is the first of those from i on.
use Rattle.std.proofs.Common.{◌-◌, arith, ◌≡◌, refl, ap, sym, ◌∙◌}
use Rattle.directory.specs.Rows.{sought}
use Rattle.directory.proofs.FindLaws.{find_end, find_at, find_on}
use Rattle.directory.proofs.rows.find.Goals as goal

pub loop-i-init : goal.loop-i-init
loop-i-init c =
    let n = c.args.n in
    let whole : n - 0 ≡ n = omega arith in
    rw whole refl

pub returns-then-is_row : goal.returns-then-is_row
returns-then-is_row c =
    let a = c.args in
    let is = sym (rw (c.from-in-loop-i.ensures, c.from.ensures) at c.is_row.ensures) ∙ c.if-is_row.true in
    ap sought (sym (c.loop-i.invariant ∙ find_at a.rows.now c.loop-i.i a.n a.structure a.name (omega arith) _ c.row_at-r.ensures is))

pub loop-i-preserved : goal.loop-i-preserved
loop-i-preserved c =
    let a = c.args in
    let is = sym (rw (c.from-in-loop-i.ensures, c.from.ensures) at c.is_row.ensures) ∙ c.if-is_row.false in
    c.loop-i.invariant ∙ find_on a.rows.now c.loop-i.i a.n a.structure a.name (omega arith) _ c.row_at-r.ensures is

pub returns : goal.returns
returns c =
    let a = c.args in
    ap sought (sym (c.loop-i.invariant ∙ find_end a.rows.now c.loop-i.i a.n a.structure a.name (omega arith)))
