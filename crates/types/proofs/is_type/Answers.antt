-- `is_type` meets its contract, by a law for each way through it.
use Rattle.std.proofs.Common.{◌∙◌, le-leb}
use Rattle.std.proofs.lemmas.Bool.{lt-leb}
use Rattle.types.proofs.Laws.TypeLaws.{small_byte, middle_byte, large_byte}
use Rattle.types.proofs.is_type.Goals as goal

pub returns-then-code-le-BOOL : goal.returns-then-code-le-BOOL
returns-then-code-le-BOOL c = le-leb c.args.code 2 c.if-code-le-BOOL.true ∙ small_byte _ _ c.if-code-le-BOOL.true

pub returns-then-code-ge-STRUCT : goal.returns-then-code-ge-STRUCT
returns-then-code-ge-STRUCT c = large_byte _ _ c.if-code-le-BOOL.false c.if-code-ge-STRUCT.true

pub returns-else-code-ge-STRUCT : goal.returns-else-code-ge-STRUCT
returns-else-code-ge-STRUCT c = lt-leb 16 c.args.code c.if-code-ge-STRUCT.false ∙ middle_byte _ _ c.if-code-le-BOOL.false c.if-code-ge-STRUCT.false
