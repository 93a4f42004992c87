use Rattle.std.proofs.Common.{◌≤◌, ◌+◌, ◌-◌, ◌*◌, ◌≡◌}
use Rattle.layout.specs.Layout.{head_end}
use Rattle.counting.specs.Counting.{commands_in}
use Rattle.counting.proofs.count.commands.Given as goal

abbrev pub invariant-loop-l : goal.invariant-loop-l
invariant-loop-l l =
    (l.l ≤ l.n) × (l.sum ≤ head_end * l.l) × (l.sum + commands_in l.heads l.l (l.n - l.l) ≡ commands_in l.heads 0 l.n)
