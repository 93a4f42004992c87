-- `int_answer` meets its contract: what 32 bits with a sign hold is an Int.
use Rattle.operators.proofs.Laws.IntLaws.{int_outside, int_inside}
use Rattle.arithmetic.proofs.int_answer.Goals as goal

pub returns-in_default : goal.returns-in_default
returns-in_default c = int_outside c.ranges.z c.in_default.ensures

pub returns : goal.returns
returns c = int_inside c.ranges.z c.in-Ok.ensures c.cast_unsigned.ensures
