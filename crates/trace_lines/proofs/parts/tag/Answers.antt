-- `parts::tag` meets its contract: a plain type, or the struct of a label's instance.
use Rattle.std.proofs.Common.{arith, ◌≤◌}
use Rattle.types.specs.Types.{struct_code}
use Rattle.layout.specs.Layout.{head, struct_of, type_byte}
use Rattle.trace_lines.specs.PartsLaws.{tag_plain, tag_label}
use Rattle.trace_lines.proofs.parts.tag.Goals as goal

pub returns-then-t-lt-STRUCT : goal.returns-then-t-lt-STRUCT
returns-then-t-lt-STRUCT c = let e = c.type_byte-t.ensures in rw e (tag_plain _ _ (rw e at c.if-t-lt-STRUCT.true))

pub bounds-heads-q : goal.bounds-heads-q
bounds-heads-q c =
    let label' : struct_code ≤ type_byte c.args.c = rw c.type_byte-t.ensures at c.if-t-lt-STRUCT.false in
    omega (arith, c.requires.row label', c.operand-q.ensures.0)

pub overflow_cast-k : goal.overflow_cast-k
overflow_cast-k c = omega (arith, c.type_inv.heads (head c.operand-q.result struct_of))

pub overflow_add-result : goal.overflow_add-result
overflow_add-result c =
    let label' : struct_code ≤ type_byte c.args.c = rw c.type_byte-t.ensures at c.if-t-lt-STRUCT.false in
    omega (arith, rw (← c.operand-q.ensures.0) at (c.requires.known label'))

pub returns : goal.returns
returns c =
    let label' : struct_code ≤ type_byte c.args.c = rw c.type_byte-t.ensures at c.if-t-lt-STRUCT.false in
    rw c.operand-q.ensures.0 (tag_label _ _ label')
