-- Demand 3 (01, 'The words of demand 3'): "a single statement about the whole list of turn bytes", of every run of an accepted
-- program on an accepted table; and the same with what the entry answers.
use Rattle.std.specs.Prelude.{ℕ, ◌<◌, ◌≤◌, ◌≡◌, ◌⊎◌, Bool, List, length}
use Rattle.types.specs.Orders.{NoneOf}
use Rattle.program.specs.Tree.{Program}
use Rattle.commands.specs.Bounds.{program_depth}
use Rattle.table.specs.Table.{Record}
use Rattle.machine.specs.Published.{Sched, Sched.fixpoint, Inst, State.state}
use Rattle.machine.specs.Machine.{Machine}
use Rattle.run.specs.Begin.{begin}
use Rattle.run.specs.Entry.{run_report}
use Rattle.run.specs.Initial.{initially}
use Rattle.run.specs.Runs.{Config, Config.config, StandsFor, Passes}
use Rattle.run.specs.Input.{run_order, Runnable}
use Rattle.run.proofs.Laws.BeginLaws.{begin_stands}
use Rattle.run.proofs.Laws.InputLaws.{begins_none}
use Rattle.sound.specs.Needs.{Right}
use Rattle.sound.specs.NeverStuck.{Demand3}
use Rattle.sound.specs.Startable.{Startable}
use Rattle.sound.proofs.Laws.AcceptedLaws.{ready_accepted}
use Rattle.sound.proofs.Laws.NeverStuckLaws.{never_stuck_numbers}
use Rattle.claims.specs.Call.{Call}
use Rattle.claims.proofs.Laws.JoinLaws.{ready_called}
use Rattle.claims.proofs.Laws.ReportLaws.{report_numbers}
use Rattle.claims.proofs.AnyRun.{table_startable, run_states_right, run_entries_within}

-- the machine that a call on a table begins its run with
first : (x y es out list : List ℕ) (p : Program) (rs : List Record) → Runnable x y es out list p rs → Startable p (begin p rs)
first x y es out list p rs r = table_startable (ready_accepted r) rs r.table.right

module _ (x y es out list : List ℕ) where
  module _ (p : Program) (rs : List Record) (r : Runnable x y es out list p rs) where
    -- every call that is not refused
    pub never_stuck_run : Demand3 p rs es
    never_stuck_run = (ready_called x y es out list p rs r).never_stuck

    -- and its answer: number, turns, blocks, depth, every output byte and the list are those of that run, to which the published rules
    -- come
    pub call_answered : Call x y es out list p rs
    call_answered = ready_called x y es out list p rs r

    -- "A next command is that of any instance holding commands, chosen or not": every configuration that the published rules pass through
    -- is one of a machine in which each next command finds what it needs
    pub states_right : {c : Config} {t : ℕ} → Passes p (initially p rs) es t c
        → (z : Machine) × (StandsFor z c) × (Right p (program_depth p) z)
    states_right w = run_states_right (ready_accepted r) (first x y es out list p rs r) (begin_stands p rs) w

    -- "As Fix nests at most 8 deep, none is ever met with eight entries" (02 §9): no state that the published rules pass through has more
    -- than 8 stability entries, and where a Fix comes next there are fewer
    pub entries_within : {n : ℕ} {s : Sched} {σ : List Inst} {b : List Bool} {t : ℕ} → Passes p (initially p rs) es t (config n (state s σ b))
        → (length b ≤ 8) × ((f q : Sched) → s ≡ fixpoint f q → length b < 8)
    entries_within w = run_entries_within (ready_accepted r) (first x y es out list p rs r) (begin_stands p rs) w

  -- "A run is a call to run a program on a table and a list of turns, where no condition of a number from the input holds"
  pub call_none : NoneOf (run_order x y es out list)
      → (p : Program) × (rs : List Record) × Runnable x y es out list p rs × Call x y es out list p rs
  call_none f = let (p, rs, e, r) = (begins_none x y es out list).1 f in (p, rs, r, ready_called x y es out list p rs r)

  -- such a call reports 0, 33, 34 or 35
  pub no_other_report : NoneOf (run_order x y es out list)
      → ((run_report x y es out list).number ≡ 0)
      ⊎ (((run_report x y es out list).number ≡ 33) ⊎ (((run_report x y es out list).number ≡ 34) ⊎ ((run_report x y es out list).number ≡ 35)))
  no_other_report f = let (p, rs, e, r) = (begins_none x y es out list).1 f in report_numbers x y es out list p rs (ready_called x y es out list p rs r)

-- "A run then ends or stops with 33, 34 or 35" (02 §9): no other number
pub no_other_number : {p : Program} (rs : List Record) {es : List ℕ} (d : Demand3 p rs es)
    → (d.number ≡ 0) ⊎ ((d.number ≡ 33) ⊎ ((d.number ≡ 34) ⊎ (d.number ≡ 35)))
no_other_number rs d = never_stuck_numbers d
