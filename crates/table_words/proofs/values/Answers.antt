-- `values` meets its contract. The loop's invariant: the values left lead to the words of all. The measure is how many are left.
use Rattle.std.proofs.Common.{refl, ◌∙◌}
use Rattle.table_words.specs.TableWordsLaws.{values_begin, values_next, values_end}
use Rattle.table_words.proofs.values.Goals as goal

pub loop-x-init : goal.loop-x-init
loop-x-init c = (values_begin _ _ _ _ _ _ _, refl)

pub loop-x-preserved : goal.loop-x-preserved
loop-x-preserved c = (
  values_next c.loop-x.invariant.0 c.loop-x-test.true c.byte.ensures.0 c.quad.ensures.0
      c.value_word-w.ensures c.put.ensures,
  c.put.auto.out ∙ c.loop-x.invariant.1,
)

pub returns : goal.returns
returns c = values_end c.loop-x.invariant.0 c.loop-x-test.false
