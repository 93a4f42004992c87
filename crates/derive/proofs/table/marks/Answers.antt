-- `table::marks` meets its contract: the bytes of the source are those that roles give, one by one.
use Rattle.std.proofs.Common.{refl}
use Rattle.syntax.specs.Expecting.{word_number, sign_number, on_word, on_sign, on_name, on_op, less, on_less, literal_word, on_literal, type_word, on_type_word}
use Rattle.syntax.specs.Expecting.{on_type}
use Rattle.text_shape.specs.Shape.{on_exp, on_item, past_item, acts, act, samples, sample}
use Rattle.text_shape.specs.RoleMarks.{mark}
use Rattle.derive.specs.Table.{mark_at, values, mark_bytes}
use Rattle.derive.proofs.table.marks.Goals as goal

pub returns : goal.returns
unfolding values mark_bytes mark_at mark act acts on_exp on_item past_item samples sample word_number sign_number on_word on_sign on_name on_op less on_less literal_word
    on_literal type_word on_type_word on_type
returns c = refl
