-- `table::next` meets its contract: the bytes of the source are those that acts give, one by one.
use Rattle.std.proofs.Common.{refl}
use Rattle.syntax.specs.Expecting.{word_number, sign_number, on_word, on_sign, on_name, on_op, less, on_less, literal_word, on_literal, type_word, on_type_word}
use Rattle.syntax.specs.Expecting.{on_type}
use Rattle.text_shape.specs.Shape.{on_exp, on_item, past_item, acts, act, samples, sample}
use Rattle.derive.specs.Table.{next_of, act_at, values, next_bytes}
use Rattle.derive.proofs.table.next.Goals as goal

pub returns : goal.returns
unfolding values next_bytes next_of act_at act acts on_exp on_item past_item samples sample word_number sign_number on_word on_sign on_name on_op less on_less literal_word
    on_literal type_word on_type_word on_type
returns c = refl
