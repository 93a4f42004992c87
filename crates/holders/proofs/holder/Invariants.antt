-- `holder` meets its contract. With the loop go the label that comes next, how many holders are still to be passed, and that the search from
-- there finds what is looked for; the measure is how many records are left.
use Rattle.std.proofs.Common.{◌≤◌, ◌-◌, ◌≡◌}
use Rattle.holders.specs.Records.{search, holder_in}
use Rattle.holders.proofs.holder.Given as goal

abbrev pub invariant-loop-passed : goal.invariant-loop-passed
invariant-loop-passed l = record {
  within : l._passed ≤ l.n;
  finds : holder_in l.rs l.n l.from l.r ≡ search l.rs l.n (l.n - l._passed) l.l l.left;
}
