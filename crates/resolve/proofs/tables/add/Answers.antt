-- `tables::add` meets its contract.
use Rattle.resolve.specs.Laws.TableLaws.{one_counted, none_counted, one_placed, none_placed}
use Rattle.resolve.proofs.tables.add.Goals as goal

pub returns-then-not-is : goal.returns-then-not-is
returns-then-not-is c =
    let args = c.args in
    record { value = none_counted args.n c.if-not-is.true; table_after = none_placed args.table.now args.n args.i c.if-not-is.true }

pub returns : goal.returns
returns c =
    let args = c.args in
    record { value = one_counted args.n c.if-not-is.false; table_after = one_placed args.table.now args.n args.i c.if-not-is.false c.put.ensures }
