use Rattle.std.proofs.Common.{◌≤◌, ◌-◌, ◌≡◌, length}
use Rattle.memory.specs.Move.{begin_all}
use Rattle.scheduler.specs.Ready.{Rows}
use Rattle.scheduler.proofs.begin.begin_all.Given as goal

abbrev pub invariant-loop-l : goal.invariant-loop-l
invariant-loop-l l =
    (l.l ≤ l.n) × (length l.heads ≡ length l.initial.heads) × (Rows l.heads l.n) × (begin_all l.spans l.c l.heads l.l (l.n - l.l) ≡ begin_all l.spans l.c l.initial.heads 0 l.n)
