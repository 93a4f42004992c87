-- `default_word` meets its contract: a default's word is the number of its struct.
use Rattle.std.proofs.Common.{sym, ◌∙◌}
use Rattle.types.proofs.Laws.ValueLaws.{default_word}
use Rattle.types.proofs.default_word.Goals as goal

pub returns : goal.returns
returns c = c.from.ensures ∙ c.struct_of.ensures ∙ sym (default_word _)
