-- Traces (docs/FORMAT.md, 'Traces'; 01, 'The words of demand 3'): a line for each move of the schedule and each turn that a run makes, and no other.
use Rattle.std.specs.Prelude.{ℕ, ◌≡◌, List}
use Rattle.program.specs.Tree.{Program}
use Rattle.machine.specs.Machine.{Machine}
use Rattle.run.specs.Steps.{Steps}
use Rattle.run.specs.Visits.{Acts}
use Rattle.run.specs.Run.{Outcome.stopped, run}
use Rattle.trace.specs.Trace.{lines_of, trace, last_of, turn_count}
use Rattle.trace.proofs.TraceLaws.{trace_run as run_law, trace_last as last_law, trace_turns as turns_law}

module _ (p : Program) (m : Machine) (es : List ℕ) {n t : ℕ} {z : Machine} (r : run p m es ≡ stopped n t z) where
  -- the trace of a run that comes to a number is the lines of the way of small steps that the run takes, one for each;
  pub trace_run : (fs : List ℕ) × (v : Steps (Acts p) m es t z fs) × (lines_of v ≡ trace p m es)
  trace_run = run_law p m es r

  -- the machine after its last line is the run's last,
  pub trace_last : last_of m (trace p m es) ≡ z
  trace_last = last_law p m es r

  -- and it has a line for each of the run's turns
  pub trace_turns : turn_count (trace p m es) ≡ t
  trace_turns = turns_law p m es r
