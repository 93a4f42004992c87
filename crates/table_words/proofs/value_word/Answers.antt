-- `value_word` meets its contract.
use Rattle.std.proofs.Common.{eq-eqb, ne_eqb, lt-ltb, le-ltb}
use Rattle.types.specs.Limits.{int_half}
use Rattle.table_words.specs.TableWords.{value_word}
use Rattle.table_words.proofs.value_word.Goals as goal

pub returns-then-t-ne0 : goal.returns-then-t-ne0
unfolding value_word
returns-then-t-ne0 c = rw (value_word, ne_eqb _ 0 c.if-t-ne0.true)

pub returns-then-w-lt-INT_HALF : goal.returns-then-w-lt-INT_HALF
unfolding value_word
returns-then-w-lt-INT_HALF c = rw (value_word, eq-eqb _ 0 c.if-t-ne0.false, lt-ltb _ int_half c.if-w-lt-INT_HALF.true)

pub returns : goal.returns
unfolding value_word
returns c = rw (value_word, eq-eqb _ 0 c.if-t-ne0.false, le-ltb _ int_half c.if-w-lt-INT_HALF.false)
