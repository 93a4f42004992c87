-- `totals::listed` meets its contract. The loop's invariant: of the rows from i on, which are the struct's own, none has the name. The measure is i.
use Rattle.std.proofs.Common.{arith, ◌≡◌, sym, ◌∙◌}
use Rattle.read_program.specs.OwnLaws.{back_all, back_end, back_other, back_found, back_on}
use Rattle.read_program.proofs.totals.listed.Goals as goal

pub loop-i-init : goal.loop-i-init
loop-i-init c = back_all _ _ _ _ c.requires.0

pub row_at-r-requires : goal.row_at-r-requires
row_at-r-requires c = omega (arith, c.loop-i.invariant.within, c.requires.1)

pub returns-then-r-from : goal.returns-then-r-from
returns-then-r-from c =
    sym (back_other _ _ _ _ _ c.loop-i.invariant (omega (arith, c.loop-i-test.true)) _ c.row_at-r.ensures
    λ e. c.if-r-from.true (e ∙ sym c.from.ensures))

pub returns-then-r-from-2 : goal.returns-then-r-from-2
returns-then-r-from-2 c =
    let own' : c.row_at-r.result.structure ≡ c.args.k = c.if-r-from.false ∙ c.from.ensures in
    sym (back_found _ _ _ _ _ c.loop-i.invariant (omega (arith, c.loop-i-test.true)) _ c.row_at-r.ensures own'
    (c.if-r-from-2.true ∙ c.from-in-loop-i.ensures))

pub loop-i-preserved : goal.loop-i-preserved
loop-i-preserved c =
    let own' : c.row_at-r.result.structure ≡ c.args.k = c.if-r-from.false ∙ c.from.ensures in
    back_on _ _ _ _ _ c.loop-i.invariant (omega (arith, c.loop-i-test.true)) _ c.row_at-r.ensures own'
    λ h. c.if-r-from-2.false (h ∙ sym c.from-in-loop-i.ensures)

pub returns : goal.returns
returns c = sym (back_end _ _ _ _ _ c.loop-i.invariant (omega (arith, c.loop-i-test.false)))
