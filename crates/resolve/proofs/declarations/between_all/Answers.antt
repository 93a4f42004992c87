-- `declarations::between_all` meets its contract. The loop's invariant: the pairs before i are passed.
use Rattle.std.proofs.Common.{◌-◌, get_or, sym, ◌∙◌, arith}
use Rattle.resolve.specs.Laws.CheckLaws.{paired_start, paired_not, paired_on, paired_end}
use Rattle.resolve.proofs.declarations.between_all.Goals as goal

pub loop-i-init : goal.loop-i-init
loop-i-init g c = λ t h. paired_start _ _

pub returns-then-not-test : goal.returns-then-not-test
returns-then-not-test g c = λ t h.
    paired_not _ _ _ (c.loop-i.invariant t h) c.loop-i-test.true
    (sym c.if-not-test.true ∙ h (get_or c.args.rows.now (c.loop-i.i - 1) 0) (get_or c.args.rows.now c.loop-i.i 0) _ (omega (arith, c.type_inv.rows (c.loop-i.i - 1))) (omega (arith, c.type_inv.rows c.loop-i.i)) c.test.ensures)

pub loop-i-preserved : goal.loop-i-preserved
loop-i-preserved g c = λ t h.
    paired_on _ _ _ (c.loop-i.invariant t h) c.loop-i-test.true
    (sym c.if-not-test.false ∙ h (get_or c.args.rows.now (c.loop-i.i - 1) 0) (get_or c.args.rows.now c.loop-i.i 0) _ (omega (arith, c.type_inv.rows (c.loop-i.i - 1))) (omega (arith, c.type_inv.rows c.loop-i.i)) c.test.ensures)

pub returns : goal.returns
returns g c = λ t h. paired_end _ _ _ (c.loop-i.invariant t h) (omega arith)
