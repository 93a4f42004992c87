-- `parts::worth` meets its contract: the type and the operand of a cell as text.
use Rattle.trace_lines.proofs.parts.worth.Goals as goal

pub returns : goal.returns
returns c =
    let e = c.operand.ensures.0 in
    record { placed = rw (e, c.type_byte.ensures) at c.value.ensures.placed; upper_bound = c.value.ensures.upper_bound }
