-- `schedule::fix` meets its contract: few Fixes have few entries.
use Rattle.std.proofs.Common.{arith}
use Rattle.scheduler.specs.MoveWays.{entries_low, fix_opens}
use Rattle.scheduler.proofs.schedule.fix.Goals as goal

pub overflow_mul-result : goal.overflow_mul-result
overflow_mul-result c =
    let n = c.args.numbers in
    omega (arith, entries_low n.fixes n.stable c.requires.1 c.requires.2)

pub overflow_add-result-3 : goal.overflow_add-result-3
overflow_add-result-3 c =
    let n = c.args.numbers in
    omega (arith, entries_low n.fixes n.stable c.requires.1 c.requires.2)

pub returns : goal.returns
returns c = fix_opens c.args.numbers
