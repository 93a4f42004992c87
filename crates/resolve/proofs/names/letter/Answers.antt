-- `names::letter` meets its contract.
use Rattle.std.proofs.Common.{sym, ◌∙◌}
use Rattle.resolve.specs.Laws.NamedLaws.{letter_kept, letter_none}
use Rattle.resolve.proofs.names.letter.Goals as goal

pub returns-then-is_name_byte : goal.returns-then-is_name_byte
returns-then-is_name_byte c = letter_kept c.byte-b.ensures (sym c.is_name_byte.ensures ∙ c.if-is_name_byte.true)

pub returns-else-is_name_byte : goal.returns-else-is_name_byte
returns-else-is_name_byte c = letter_none c.byte-b.ensures (sym c.is_name_byte.ensures ∙ c.if-is_name_byte.false)
