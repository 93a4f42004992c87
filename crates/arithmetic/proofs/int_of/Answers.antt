-- `int_of` meets its contract: a word's bits, read with a sign.
use Rattle.operators.proofs.Laws.IntLaws.{int_of_word}
use Rattle.arithmetic.proofs.int_of.Goals as goal

pub returns : goal.returns
returns c = int_of_word c.cast_signed.type_inv c.cast_signed.ensures c.from.ensures
