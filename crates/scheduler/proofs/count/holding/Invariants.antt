use Rattle.std.proofs.Common.{◌≤◌, ◌+◌, ◌-◌, ◌≡◌}
use Rattle.memory.specs.Choose.{holding}
use Rattle.scheduler.proofs.count.holding.Given as goal

abbrev pub invariant-loop-l : goal.invariant-loop-l
invariant-loop-l l = (l.l ≤ l.n) × (l.count ≤ l.l) × (l.count + holding l.heads l.l (l.n - l.l) ≡ holding l.heads 0 l.n)
