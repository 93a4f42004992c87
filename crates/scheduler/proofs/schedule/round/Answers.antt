-- `schedule::round` meets its contract.
use Rattle.scheduler.specs.MoveWays.{entry_open, round_out, round_back}
use Rattle.scheduler.proofs.schedule.round.Goals as goal

pub overflow_sub-result : goal.overflow_sub-result
overflow_sub-result c =
    let n = c.args.numbers in
    entry_open n.fixes n.stable c.requires.1 c.if-numbers-eq1.true

pub returns-then-numbers-eq1 : goal.returns-then-numbers-eq1
returns-then-numbers-eq1 c = round_out c.args.numbers c.args.t c.if-numbers-eq1.true

pub returns-else-numbers-eq1 : goal.returns-else-numbers-eq1
returns-else-numbers-eq1 c = round_back c.args.numbers c.args.t c.if-numbers-eq1.false
