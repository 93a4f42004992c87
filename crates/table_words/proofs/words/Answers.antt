-- `words` meets its contract. The loop's invariant: the records left lead to the words of all. The measure is how many are left.
use Rattle.std.proofs.Common.{refl, ◌∙◌}
use Rattle.little_endian.specs.Numbers.{pair_at}
use Rattle.table_words.specs.TableWordsLaws.{rows_begin, rows_next, rows_end}
use Rattle.table_words.proofs.words.Goals as goal

pub loop-i-init : goal.loop-i-init
loop-i-init c = (rows_begin _ _ _ _ _ _, refl)

pub loop-i-preserved : goal.loop-i-preserved
loop-i-preserved c = (
  rows_next c.loop-i.invariant.0 c.loop-i-test.true c.row-c.ensures.value.0 c.row-c.ensures.upper_bound
      c.row-c.ensures.value.1,
  c.row-c.auto.out ∙ c.loop-i.invariant.1,
)

pub returns : goal.returns
unfolding pair_at
returns c =
    let e = rw (c.look-2.ensures, c.look.ensures) at c.pair_at-m.ensures.0 in
    let both = rw (c.index-nulls.ensures.0, e) at (rows_end c.loop-i.invariant.0 c.loop-i-test.false) in record { value = both.0; out_after = both.1 }
