-- `declarations::step_names` meets its contract. The loop's invariant: the names that are left complete the table.
use Rattle.std.proofs.Common.{arith}
use Rattle.resolve.specs.Laws.FirstLaws.{firsting_start, firsting_on, firsting_kept, firsting_over, firsting_end}
use Rattle.resolve.proofs.declarations.step_names.Goals as goal

pub loop-at-init : goal.loop-at-init
loop-at-init c = firsting_start _ _ _

pub is_new-new-requires : goal.is_new-new-requires
is_new-new-requires c = c.loop-at.invariant.fits

pub add-n-requires : goal.add-n-requires
add-n-requires c = omega (arith, c.loop-at.invariant.few, c.loop-at-test.true)

pub shape_of-table-then-n-table : goal.shape_of-table-then-n-table
shape_of-table-then-n-table c =
    firsting_kept _ _ _ _ _ _ c.loop-at.invariant c.loop-at-test.true
    c.is_new-new.ensures c.add-n.ensures.table_after

pub returns-then-n-table : goal.returns-then-n-table
returns-then-n-table c =
    let both = firsting_over _ _ _ _ _ _ c.loop-at.invariant c.loop-at-test.true c.is_new-new.ensures c.add-n.ensures.value c.add-n.ensures.table_after c.if-n-table.true in record { value = both.0; table_after = both.1 }

pub loop-at-preserved : goal.loop-at-preserved
loop-at-preserved c =
    firsting_on _ _ _ _ _ _ c.loop-at.invariant c.loop-at-test.true
    c.is_new-new.ensures c.add-n.ensures.value c.add-n.ensures.table_after c.if-n-table.false

pub shape_of-table : goal.shape_of-table
shape_of-table c = c.loop-at.invariant.kept

pub returns : goal.returns
returns c =
    let both = firsting_end _ _ _ _ _ _ c.loop-at.invariant c.loop-at-test.false in record { value = both.0; table_after = both.1 }
