-- `agreed` meets its contract. The loop's invariant: the words before agree.
use Rattle.std.proofs.Common.{◌≡◌, ◌∙◌, arith, length}
use Rattle.table_stream.specs.TableStreamLaws.{agree_end, agree_short, agree_stop, agree_next}
use Rattle.table_stream.proofs.agreed.Goals as goal
use Rattle.table_stream.proofs.agreed.Goals.{then-b-i-via-then-b-i, then-b-i-via-else-b-i+then-w-b}

pub returns-then-b-i : goal.returns-then-b-i
returns-then-b-i c =
    elim c.then-b-i.branch [
      | then-b-i-via-then-b-i w ↦ agree_short c.loop-i.invariant c.loop-i-test.true w.if-b-i.true
      | then-b-i-via-else-b-i+then-w-b w ↦ agree_stop c.loop-i.invariant c.loop-i-test.true w.if-b-i.false w.if-w-b.true
    ]

pub loop-i-preserved : goal.loop-i-preserved
loop-i-preserved c = agree_next c.loop-i.invariant c.loop-i-test.true c.if-b-i.false c.if-w-b.false

pub returns : goal.returns
returns c =
    let e : length c.args.a.now ≡ c.loop-i.i = omega (arith, c.loop-i.invariant.within, c.loop-i-test.false) in
    e ∙ agree_end c.loop-i.invariant c.loop-i-test.false
