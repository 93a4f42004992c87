-- `stream` meets its contract. The loop's invariant: the words left lead to the records and lines of all. The measure is how many are left.
use Rattle.std.proofs.Common.{◌∙◌, refl}
use Rattle.table_stream.specs.TableStreamLaws.{taken_begin, taken_next, taken_end}
use Rattle.table_stream.proofs.stream.Goals as goal

pub loop-w-init : goal.loop-w-init
loop-w-init c = (taken_begin _ _, refl)

pub loop-w-preserved : goal.loop-w-preserved
loop-w-preserved c =
    let one = c.one_line-lines.ensures in let inv = c.loop-w.invariant in (
      rw (c.begins-structure.ensures, one.0)
          (taken_next inv.0 c.loop-w-test.true c.item-at.ensures.value c.item-at.ensures.upper_bound (rw (← one.0) one.1)),
      c.item-at.auto.out ∙ inv.1,
    )

pub returns : goal.returns
returns c =
    let both = taken_end c.loop-w.invariant.0 c.loop-w-test.false c.put_pair.ensures c.put.ensures c.put-2.ensures in record { value = both.0; out_after = both.1 }
