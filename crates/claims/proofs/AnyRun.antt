-- What holds of every run of an accepted program, whatever it begins with (01, 'Table and turns', 'Numbers from the state', 'The words of demand
-- 3'): of a machine that a run may begin with (`Startable`) and the published configuration that it stands for. The first machine of a right
-- table is one; of tables Demand2, Demand3 and Rounds say the same.
use Rattle.std.specs.Prelude.{ℕ, ◌<◌, ◌≤◌, ◌≡◌, ◌↔◌, ◌⊎◌, Bool, List, [], map, length, take, replicate}
use Rattle.std.proofs.Common.{inl, inr}
use Rattle.std.proofs.Math.Option.{some}
use Rattle.std.proofs.Math.ListN.{get_elem?}
use Rattle.types.specs.Limits.{table_blocks}
use Rattle.types.specs.Values.{default}
use Rattle.blocks.specs.Images.{image, pieces}
use Rattle.program.specs.Tree.{Program}
use Rattle.commands.specs.Accepted.{Accepted}
use Rattle.commands.specs.Bounds.{program_depth}
use Rattle.commands.specs.Context.{params_of}
use Rattle.table.specs.Table.{Record, enc_table, TableRight}
use Rattle.machine.specs.Published.{Sched, Sched.fixpoint, structs, Inst, State.state}
use Rattle.machine.specs.Machine.{Instance, Machine}
use Rattle.machine.specs.Stops.{ended, out_of_turns, full, exceeded}
use Rattle.run.specs.Holders.{holders}
use Rattle.run.specs.Run.{Outcome.stopped, Outcome.jammed, run}
use Rattle.run.specs.Visits.{Visits, turns_of}
use Rattle.run.specs.Runs.{Config, Config.config, StandsFor, Passes}
use Rattle.run.specs.Begin.{params_in, begin, table_of}
use Rattle.run.specs.Comes.{Comes}
use Rattle.run.specs.Input.{TableAccepted}
use Rattle.run.proofs.Laws.RunAgreesVisits.{visits_passes, passes_visits}
use Rattle.run.proofs.Laws.OutcomeLaws.{outcome_exact, comes_unique, comes_holding, comes_stopped, jammed_exact}
use Rattle.sound.specs.Needs.{Right}
use Rattle.sound.specs.NeverStuck.{NeverStuck}
use Rattle.sound.specs.Startable.{Startable}
use Rattle.sound.specs.Started.{OneStep}
use Rattle.sound.specs.Waiting.{ActsWithin, StopsBefore}
use Rattle.sound.proofs.Laws.AcceptedLaws.{accepted_firm}
use Rattle.sound.proofs.Laws.GoodStands.{good_stands}
use Rattle.sound.proofs.Laws.NeverStuckLaws.{never_stuck, never_stuck_comes}
use Rattle.sound.proofs.Laws.StartableLaws.{begin_startable, visits_startable}
use Rattle.sound.proofs.Laws.StartedLaws.{good_one_step}
use Rattle.sound.proofs.Laws.TableKept.{table_kept, table_written, nulls_kept, comes_written}
use Rattle.sound.proofs.Laws.WaitLaws.{holder_waits}
use Rattle.claims.specs.Call.{Called}
use Rattle.claims.proofs.Laws.JoinLaws.{called, passes_right, passes_entries}

-- Where a run may begin ------------------------------------------------------------------

-- a run may begin with the first machine of a right table,
pub table_startable : {p : Program} → Accepted p → (rs : List Record) → TableRight p.params rs → Startable p (begin p rs)
table_startable = begin_startable

-- and with every machine that a run passes through
pub visited_startable : {p : Program} → Accepted p → {m z : Machine} {es fs : List ℕ} → Startable p m → Visits p m es z fs → Startable p z
visited_startable = visits_startable

-- such a machine stands for a published configuration
pub startable_stands : {p : Program} {m : Machine} → Startable p m → (c : Config) × (StandsFor m c)
startable_stands s = good_stands s.good

-- The published rules --------------------------------------------------------------------

module _ (p : Program) (m : Machine) {c : Config} (stands : StandsFor m c) (es : List ℕ) where
  -- a run passes through the states that the published rules give for those turns, with the label that turns are counted from,
  pub run_states_published : {z : Machine} {fs : List ℕ} (v : Visits p m es z fs)
      → (d : Config) × (Passes p c es (turns_of p v) d) × (StandsFor z d)
  run_states_published v = visits_passes p c stands v

  -- and through each of them
  pub run_states_visited : {d : Config} {t : ℕ} → Passes p c es t d
      → (z : Machine) × (fs : List ℕ) × (v : Visits p m es z fs) × (turns_of p v ≡ t) × (StandsFor z d)
  run_states_visited w = passes_visits p m stands w

  -- it comes to the number, turns, holders and last table that they give,
  pub run_outcome_published : {n t : ℕ} {z : Machine} → run p m es ≡ stopped n t z → Comes p c es n t (length (holders z)) (table_of p z)
  run_outcome_published = outcome_exact p m stands es

  -- and is jammed exactly where they come to nothing
  pub run_jammed_exactly : (run p m es ≡ jammed) ↔ ((n t k : ℕ) (rs : List Record) → Comes p c es n t k rs → ⊥)
  run_jammed_exactly = jammed_exact p m stands es

module _ (p : Program) {c : Config} (es : List ℕ) where
  -- they come to one
  pub run_outcome_one : {n n' t t' k k' : ℕ} {rs rs' : List Record} → Comes p c es n t k rs → Comes p c es n' t' k' rs'
      → (n ≡ n') × (t ≡ t') × (k ≡ k') × (rs ≡ rs')
  run_outcome_one = comes_unique p es

  -- where nobody holds commands exactly at 0, and somebody at 33, 34 and 35
  pub run_holders_ended : {n t k : ℕ} {rs : List Record} → Comes p c es n t k rs → (n ≡ ended) ↔ (k ≡ 0)
  run_holders_ended = comes_holding p es

  pub run_holders_stopped : {n t k : ℕ} {rs : List Record} → Comes p c es n t k rs → (n ≡ out_of_turns) ⊎ (n ≡ full) ⊎ (n ≡ exceeded) → 1 ≤ k
  run_holders_stopped = comes_stopped p es

-- Demand 3 and tables --------------------------------------------------------------------

module _ {p : Program} (a : Accepted p) {m : Machine} (start : Startable p m) where
  -- the run is never stuck, whatever the turn bytes
  pub run_never_stuck : (es : List ℕ) → NeverStuck p m es
  run_never_stuck es = never_stuck a start.good es

  module _ {c : Config} (stands : StandsFor m c) {es : List ℕ} where
    -- the published rules come to a number,
    pub run_comes_to : (n : ℕ) × (t : ℕ) × (k : ℕ) × (rs : List Record) × Comes p c es n t k rs
    run_comes_to = never_stuck_comes p m stands es (run_never_stuck es)

    -- with a table that a run may begin with: its image fits its blocks and is accepted as that table
    pub run_written_accepted : {n t k : ℕ} {rs : List Record} → Comes p c es n t k rs
        → (pieces (length (enc_table rs)) ≤ table_blocks) × (TableAccepted p (image (enc_table rs)) rs)
    run_written_accepted d = comes_written a m start stands d

    -- every configuration that they pass through is one of a machine in which each next command finds what it needs,
    pub run_states_right : {d : Config} {t : ℕ} → Passes p c es t d → (z : Machine) × (StandsFor z d) × (Right p (program_depth p) z)
    run_states_right w = passes_right a start stands w

    -- with at most 8 stability entries, and fewer where a Fix comes next
    pub run_entries_within : {n : ℕ} {s : Sched} {σ : List Inst} {b : List Bool} {t : ℕ} → Passes p c es t (config n (state s σ b))
        → (length b ≤ 8) × ((f q : Sched) → s ≡ fixpoint f q → length b < 8)
    run_entries_within w = passes_entries a start stands w

    -- a call that begins with the machine, whose entry answers what the run comes to
    pub run_called : {Answer : ℕ → ℕ → Machine → Type 0}
        → ((n t : ℕ) (z : Machine) → run p m es ≡ stopped n t z → Comes p c es n t (length (holders z)) (table_of p z) → Answer n t z)
        → Called p m c es Answer
    run_called f = called a start stands f

  module _ {es fs : List ℕ} {z : Machine} (v : Visits p m es z fs) where
    -- in every machine of the run nobody holds commands, or one step call was started last, the schedule left is what comes after it, and each
    -- holder holds a rest of the commands that the call gave it
    pub run_one_step : OneStep p z
    run_one_step = good_one_step (visits_startable a start v).good

    -- it stands at a right table, whose image fits its blocks and is accepted as that table,
    pub run_tables_right : TableRight p.params (table_of p z)
    run_tables_right = table_kept a start v

    pub run_tables_written : (pieces (length (enc_table (table_of p z))) ≤ table_blocks)
        × (TableAccepted p (image (enc_table (table_of p z))) (table_of p z))
    run_tables_written = table_written a start v

    -- and its null instances hold defaults
    pub run_nulls_default : (k : ℕ) → k < structs p
        → (i : Instance) × (get_elem? z.instances k ≡ some i) × (i.struct ≡ k) × (params_in i.env ≡ map default (params_of p k))
    run_nulls_default = nulls_kept a start v

    -- "with all bytes zero, an instance holding commands acts within as many turns as there were holders, if the bytes last that long and
    -- nothing stops with 34 or 35 before" (02 §5)
    pub run_acts_in_turn : (l : ℕ) {i : Instance} → get_elem? z.instances l ≡ some i → (i.code ≡ [] → ⊥)
        → take (length (holders z)) fs ≡ replicate (length (holders z)) 0
        → (StopsBefore p l (length (holders z)) z fs → ⊥)
        → ActsWithin p l (length (holders z)) z fs
    run_acts_in_turn l g held zeros on = go (holder_waits (accepted_firm a) l z fs (visits_startable a start v).good g held zeros)
      where
        go : (ActsWithin p l (length (holders z)) z fs) ⊎ (StopsBefore p l (length (holders z)) z fs) → ActsWithin p l (length (holders z)) z fs
        go (inl w) = w
        go (inr s) = absurd (on s)
