use Rattle.std.proofs.Common.{◌-◌, ◌≡◌}
use Rattle.directory.specs.Rows.{rows_from}
use Rattle.judge.specs.ProgramFacts.{had}
use Rattle.read_schedule.proofs.had.Given as goal

abbrev pub invariant-loop-k : goal.invariant-loop-k
invariant-loop-k l = had (rows_from l.t.rows.now 0 l.t.steps) l.n 0 l.t.structs ≡ had (rows_from l.t.rows.now 0 l.t.steps) l.n l.k (l.t.structs - l.k)
