use Rattle.std.proofs.Common.{◌≤◌}
use Rattle.holders.specs.Records.{Recorded}
use Rattle.holders.proofs.records.Given as goal

abbrev pub invariant-loop-l : goal.invariant-loop-l
invariant-loop-l l = (l.l ≤ l.n) × (Recorded l.heads l.l l.rs)
