-- A run may begin with the first machine of a right table, and with every machine that a run passes through (01, 'Table and turns').
use Rattle.std.specs.Prelude.{ℕ, List}
use Rattle.std.proofs.Common.{arith}
use Rattle.program.specs.Tree.{Program}
use Rattle.commands.specs.Accepted.{Accepted}
use Rattle.table.specs.Table.{Record, TableRight}
use Rattle.machine.specs.Machine.{Machine}
use Rattle.run.specs.Begin.{begin}
use Rattle.run.specs.Visits.{Visits}
use Rattle.run.proofs.Laws.BeginLaws.{begin_from}
use Rattle.sound.specs.Startable.{Startable}
use Rattle.sound.proofs.Laws.AcceptedLaws.{accepted_firm}
use Rattle.sound.proofs.Laws.BeginGood.{begin_good}
use Rattle.sound.proofs.Laws.NeverStuckLaws.{visits_good}
use Rattle.sound.proofs.Laws.TabledLaws.{begin_tabled, visits_tabled}
use Rattle.sound.proofs.Laws.LastLaws.{visits_last}

-- the first machine of a right table
pub begin_startable : {p : Program} → Accepted p → (rs : List Record) → TableRight p.params rs → Startable p (begin p rs)
begin_startable {p} a rs right =
    let from = begin_from p rs in record { good = begin_good p a.0 rs right; tabled = begin_tabled p rs right; last = omega arith }

-- a machine that a run passes through
pub visits_startable : {p : Program} → Accepted p → {m z : Machine} {es fs : List ℕ} → Startable p m → Visits p m es z fs → Startable p z
visits_startable a s v = record {
  good = visits_good (accepted_firm a) s.good v;
  tabled = visits_tabled (accepted_firm a) s.good s.tabled v;
  last = visits_last s.last v;
}
