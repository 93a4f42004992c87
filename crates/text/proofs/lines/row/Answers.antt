-- `lines::row` meets its contract: number after number.
use Rattle.std.proofs.Common.{arith}
use Rattle.text.specs.ListingLaws.{row_start, row_next, row_end}
use Rattle.text.proofs.lines.row.Goals as goal

pub loop-n-init : goal.loop-n-init
loop-n-init c = row_start c.args.word.now c.args.ns.now _ _ c.put-end.ensures

pub byte-i-requires : goal.byte-i-requires
byte-i-requires c =
    omega (arith, c.requires, c.loop-n.invariant.0.kept, c.loop-n.invariant.1, c.loop-n-test.true)

pub loop-n-preserved : goal.loop-n-preserved
loop-n-preserved c = row_next c.args.word.now c.args.ns.now c.loop-n-test.true c.loop-n.invariant c.byte-i.ensures c.decimal-end.ensures.placed c.decimal-end.ensures.upper_bound

pub returns-clause-placed : goal.returns-clause-placed
returns-clause-placed c = row_end c.args.word.now c.args.ns.now c.loop-n-test.false c.loop-n.invariant c.byte.ensures
