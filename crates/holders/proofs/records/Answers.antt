-- `holders::records` meets its contract. The loop's invariant: the array begins with the records of the first l instances. The measure is how
-- many are left.
use Rattle.std.proofs.Common.{◌≡◌, arith}
use Rattle.holders.proofs.RecordsLaws.{recorded_none, recorded_more}
use Rattle.holders.proofs.records.Goals as goal

pub loop-l-init : goal.loop-l-init
loop-l-init c = (omega arith, recorded_none c.args.heads.now)

pub loop-l-preserved : goal.loop-l-preserved
loop-l-preserved c =
    let inv = c.loop-l.invariant in
    (omega arith, recorded_more c.args.heads.now inv.1 (omega arith) c.holds-holds.ensures)

pub returns : goal.returns
returns c =
    let e : c.loop-l.l ≡ c.args.n = omega arith in
    rw e at c.loop-l.invariant.1
