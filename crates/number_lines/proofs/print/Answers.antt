-- `print` meets its contract. The loop's invariant: the words left lead to the lines of all. The measure is how many are left.
use Rattle.std.proofs.Common.{arith}
use Rattle.number_lines.specs.LineLaws.{lines_begin, lines_next, lines_end}
use Rattle.number_lines.proofs.print.Goals as goal

pub loop-w-init : goal.loop-w-init
loop-w-init c = lines_begin _ _

pub loop-w-preserved : goal.loop-w-preserved
loop-w-preserved c =
    lines_next c.loop-w.invariant c.loop-w-test.true c.word-k.ensures.placed c.word-k.ensures.upper_bound

pub returns : goal.returns
returns c =
    let passed = c.loop-w.invariant in
    record { placed = lines_end passed c.loop-w-test.false (rw c.last_end.ensures.text at c.put.ensures); upper_bound = omega (arith, passed.near, passed.within, c.put.ensures.end, c.last_end.ensures.short) }
