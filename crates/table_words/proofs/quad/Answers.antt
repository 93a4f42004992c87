-- `quad` meets its contract: four bytes that were looked at, as a number.
use Rattle.little_endian.specs.Numbers.{word_at}
use Rattle.table_words.proofs.quad.Goals as goal

pub returns : goal.returns
unfolding word_at
returns c =
    let e = c.word_at.ensures in
    (rw (c.look-4.ensures, c.look-3.ensures, c.look-2.ensures, c.look.ensures) at e.0, e.1)
