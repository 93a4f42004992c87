-- `declared::all` meets its contract. The loop's invariant: the places that are left complete the table.
use Rattle.std.proofs.Common.{arith}
use Rattle.resolve.specs.Laws.TableLaws.{gathers_start, gathers_count, gathers_stored}
use Rattle.uses.specs.Laws.AmongLaws.{declared_behind, all_left, all_on}
use Rattle.uses.proofs.declared.all.Goals as goal

pub loop-i-init : goal.loop-i-init
loop-i-init c = let args = c.args in gathers_start (declared_behind args.roles.now) args.table.now

pub add-n-requires : goal.add-n-requires
add-n-requires c = omega (arith, c.loop-i-test.true, c.loop-i.invariant.few)

pub loop-i-preserved : goal.loop-i-preserved
loop-i-preserved c =
    all_on _ c.loop-i.invariant c.loop-i-test.true c.declares.ensures c.add-n.ensures.value c.add-n.ensures.table_after

pub shape_of-table : goal.shape_of-table
shape_of-table c = c.loop-i.invariant.kept

pub returns : goal.returns
returns c =
    let inv = c.loop-i.invariant in
    let left = all_left _ c.loop-i-test.false in record { value = gathers_count inv left; table_after = gathers_stored inv left }
