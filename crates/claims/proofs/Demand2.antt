-- Demand 2: what is accepted, handed out, listed and run is what the papers say (01; 000, sections 3 and 4).
use Rattle.std.specs.Prelude.{ℕ, ◌<◌, ◌≤◌, ◌≡◌, ◌↔◌, ◌⊎◌, List, [], ◌++◌, map, length}
use Rattle.std.proofs.Math.Option.{none, some}
use Rattle.std.proofs.Math.ListN.{get_elem?}
use Rattle.types.specs.Limits.{table_blocks, max_commands}
use Rattle.types.specs.Values.{default}
use Rattle.types.specs.Orders.{NoneOf}
use Rattle.types.specs.Stages.{Stage.went as accepted}
use Rattle.blocks.specs.Images.{image, pieces}
use Rattle.program.specs.Tree.{Stmts, Program}
use Rattle.commands.specs.Coding.{words}
use Rattle.commands.specs.Commands.{commands}
use Rattle.commands.specs.Context.{Ctx, context, params_of, step_of}
use Rattle.commands.specs.Noted.{erase, noted}
use Rattle.commands.proofs.Laws.NotedLaws.{erased}
use Rattle.table.specs.Table.{Record, enc_table, TableRight}
use Rattle.machine.specs.Published.{structs}
use Rattle.machine.specs.Machine.{Instance, Machine, Moved.next, move}
use Rattle.machine.specs.Measure.{total, share_of}
use Rattle.machine.specs.Stops.{ended, out_of_turns, full, exceeded}
use Rattle.run.specs.Holders.{holders}
use Rattle.run.specs.Run.{Outcome.stopped, run}
use Rattle.run.specs.Visits.{Visits, turns_of}
use Rattle.run.specs.StepTurns.{Spends}
use Rattle.run.proofs.Laws.StepTurnsLaws.{step_turns as start_turns}
use Rattle.run.specs.Begin.{params_in, begin, table_of}
use Rattle.run.specs.Initial.{initially}
use Rattle.run.specs.Comes.{Comes}
use Rattle.run.specs.Runs.{Config, StandsFor, Passes}
use Rattle.verdict.specs.Verdict.{checked, listed, approval, check_verdict, check_list}
use Rattle.run.specs.Entry.{begun, begins, run_output}
use Rattle.verdict.specs.ProgramInput.{check_order, AcceptedImage, Approved}
use Rattle.run.specs.Input.{run_order, TableAccepted, Runnable, Began}
use Rattle.verdict.proofs.ProgramInputLaws.{checked_accepted, verdict_approved, check_approved}
use Rattle.run.proofs.Laws.InputLaws.{begins_ready, begins_none}
use Rattle.run.proofs.Laws.BeginLaws.{begin_stands}
use Rattle.run.specs.Answered.{Answered}
use Rattle.run.proofs.Laws.AnsweredLaws.{comes_answered}
use Rattle.commands.specs.Accepted.{Accepted}
use Rattle.sound.proofs.Laws.AcceptedLaws.{ready_accepted}
use Rattle.sound.specs.Started.{OneStep}
use Rattle.sound.proofs.Laws.TableKept.{output_length}
use Rattle.step_part.specs.StepPart.{step_place, step_part}
use Rattle.step_lines.specs.Lines.{program_lines}
use Rattle.listing.specs.Listings.{head, listing_of}
use Rattle.claims.proofs.Laws.JoinLaws.{step_handed, step_not_there, listing_accepted}
use Rattle.claims.proofs.AnyRun.{table_startable, run_states_published, run_states_visited, run_outcome_published, run_outcome_one}
use Rattle.claims.proofs.AnyRun.{run_holders_ended, run_holders_stopped, run_comes_to, run_written_accepted, run_one_step, run_tables_right}
use Rattle.claims.proofs.AnyRun.{run_tables_written, run_nulls_default}

-- The checker ----------------------------------------------------------------------------

module _ (x : List ℕ) where
  -- a program image is accepted as a program exactly where it meets 01's conditions: blocks, stream, counts, limits, names, types
  pub accepted_exactly : (p : Program) → (checked x ≡ accepted p) ↔ AcceptedImage x p
  accepted_exactly p = checked_accepted x p

  module _ (list : List ℕ) where
    -- the checker approves exactly where no condition of a number from the input holds,
    pub check_approved_exactly : Approved x list (check_verdict x list) ↔ NoneOf (check_order x list)
    check_approved_exactly = verdict_approved x list

    -- and then reports the program's structs, steps, commands and greatest depth; "The list holds the steps from its first place,
    -- structs in order, each struct's steps in stream order, and further places are untouched"
    pub check_lists : (p : Program) → AcceptedImage x p → max_commands ≤ length list
        → (check_verdict x list ≡ approval p) × (check_list x list ≡ listed p list)
    check_lists p a h = check_approved x list p a h

-- The commands of a step -------------------------------------------------------------------

-- "Commands follow 000, definition 2": those that a run takes are the published ones, whatever notes they carry
pub commands_published : (G : Ctx) (b : Stmts) → map erase (noted G b) ≡ commands b
commands_published = erased

module _ (x list : List ℕ) (p : Program) (a : AcceptedImage x p) (h : max_commands ≤ length list) (k n : ℕ) where
  -- "The commands of one step are handed out as that part of the lent command list": of the list that a check of the image filled, the
  -- part for step n of struct k is the words of 000's definition 2, which are the commands that a run takes
  pub step_published : {b : Stmts} → step_of p k n ≡ some b
      → ((step_place x (check_list x list) k n).number ≡ 0)
      × (step_part x (check_list x list) k n ≡ words (commands b))
      × (map erase (noted (context p k b) b) ≡ commands b)
  step_published e = step_handed x list p a h k n e

  -- "a step that isn't there gives an empty part"
  pub step_absent_empty : step_of p k n ≡ none → ((step_place x list k n).number ≡ 0) × (step_part x list k n ≡ [])
  step_absent_empty e = step_not_there x list p a h k n e

-- The listing ------------------------------------------------------------------------------

-- "Header: structs, steps, commands, greatest depth. Line: struct, step name, position, command, operand. Lines follow the command list"
pub listing_published : (x : List ℕ) (p : Program) → AcceptedImage x p → listing_of x ≡ head p ++ program_lines p
listing_published x p a = listing_accepted x p a

-- The run ----------------------------------------------------------------------------------

module _ (x y es out list : List ℕ) where
  -- a run begins with a program and a table exactly where both are accepted, output and list have room and the turns are few enough,
  pub begun_exactly : (p : Program) (rs : List Record) → (begins x y es out list ≡ begun p rs) ↔ Runnable x y es out list p rs
  begun_exactly p rs = begins_ready x y es out list p rs

  -- "where no condition of a number from the input holds"
  pub begun_none : Began x y es out list (begins x y es out list) ↔ NoneOf (run_order x y es out list)
  begun_none = begins_none x y es out list

  -- where a run begins, number, turns, blocks, depth, holders, every output byte and the list are those that the published rules come to
  pub run_published : (p : Program) (rs : List Record) → begins x y es out list ≡ begun p rs
      → {n t k : ℕ} {rs' : List Record} → Comes p (initially p rs) es n t k rs' → Answered x y es out list p n t k rs'
  run_published p rs e c = comes_answered x y es out list p rs e c

  -- and they come to a number
  pub run_comes : (p : Program) (rs : List Record) → begins x y es out list ≡ begun p rs
      → (n : ℕ) × (t : ℕ) × (k : ℕ) × (rs' : List Record) × Comes p (initially p rs) es n t k rs'
  run_comes p rs e = let r = (begun_exactly p rs).0 e in run_comes_to (ready_accepted r) (table_startable (ready_accepted r) rs r.table.right) (begin_stands p rs)

  -- the table written is one that a run may begin with: its image fits its blocks and is accepted as that table
  pub written_accepted : (p : Program) (rs : List Record) → Runnable x y es out list p rs
      → {n t k : ℕ} {rs' : List Record} → Comes p (initially p rs) es n t k rs'
      → (pieces (length (enc_table rs')) ≤ table_blocks) × (TableAccepted p (image (enc_table rs')) rs')
  written_accepted p rs r c =
      run_written_accepted (ready_accepted r) (table_startable (ready_accepted r) rs r.table.right) (begin_stands p rs) c

  -- a run leaves as many bytes in the output as it was lent, whatever it is given
  pub output_as_long : length (run_output x y es out list) ≡ length out
  output_as_long = output_length x y es out list

-- Its states -------------------------------------------------------------------------------

module _ (p : Program) (rs : List Record) (es : List ℕ) where
  -- a run passes through the states that the published rules give for those turns, with the label that turns are counted from,
  pub states_published : {z : Machine} {fs : List ℕ} (v : Visits p (begin p rs) es z fs)
      → (c : Config) × (Passes p (initially p rs) es (turns_of p v) c) × (StandsFor z c)
  states_published v = run_states_published p (begin p rs) (begin_stands p rs) es v

  -- and through each of them
  pub states_visited : {c : Config} {t : ℕ} → Passes p (initially p rs) es t c
      → (z : Machine) × (fs : List ℕ) × (v : Visits p (begin p rs) es z fs) × (turns_of p v ≡ t) × (StandsFor z c)
  states_visited w = run_states_visited p (begin p rs) (begin_stands p rs) es w

  -- it comes to the one number, turns, holders and last table that they give
  pub outcome_published : {n t : ℕ} {z : Machine} → run p (begin p rs) es ≡ stopped n t z → Comes p (initially p rs) es n t (length (holders z)) (table_of p z)
  outcome_published = run_outcome_published p (begin p rs) (begin_stands p rs) es

  pub outcome_one : {n n' t t' k k' : ℕ} {rs' rs'' : List Record} → Comes p (initially p rs) es n t k rs' → Comes p (initially p rs) es n' t' k' rs''
      → (n ≡ n') × (t ≡ t') × (k ≡ k') × (rs' ≡ rs'')
  outcome_one = run_outcome_one p es

  -- "the count of instances holding commands before each turn" (02, 'Holders kept as a number'), where a run ends: 0 exactly at 0,
  pub holders_ended : {n t k : ℕ} {rs' : List Record} → Comes p (initially p rs) es n t k rs' → (n ≡ ended) ↔ (k ≡ 0)
  holders_ended = run_holders_ended p es

  -- and so at least 1 at 33, 34 and 35
  pub holders_stopped : {n t k : ℕ} {rs' : List Record} → Comes p (initially p rs) es n t k rs' → (n ≡ out_of_turns) ⊎ (n ≡ full) ⊎ (n ≡ exceeded) → 1 ≤ k
  holders_stopped = run_holders_stopped p es

module _ (p : Program) where
  -- "A started step takes at most the sum of its command counts, each over its instances, in turns": wherever a run goes after a move of
  -- the schedule, it takes no more turns than that before nobody holds commands
  pub step_turns : (m : Machine) {m' z : Machine} {es fs : List ℕ} → holders m ≡ [] → move p m ≡ next m' → Visits p m' es z fs
      → Spends p (total (share_of p m.sched) m.instances) m' es z fs
  step_turns m g e v = start_turns p m g e v

-- "When no instance holds commands the schedule moves": in every machine of a run nobody holds commands, or one step call was started
-- last, the schedule left is what comes after it, and each holder holds a rest of the commands that the call gave it
pub one_step : {p : Program} → Accepted p → (rs : List Record) → TableRight p.params rs → {es fs : List ℕ} {z : Machine}
    → Visits p (begin p rs) es z fs → OneStep p z
one_step a rs right v = run_one_step a (table_startable a rs right) v

-- Its tables -------------------------------------------------------------------------------

module _ {p : Program} (a : Accepted p) (rs : List Record) (right : TableRight p.params rs) {es fs : List ℕ} {z : Machine}
    (v : Visits p (begin p rs) es z fs) where
  -- every machine of a run stands at a table that a run may begin with; written, it fits its blocks and is accepted as that table
  pub tables_right : TableRight p.params (table_of p z)
  tables_right = run_tables_right a (table_startable a rs right) v

  pub tables_written : (pieces (length (enc_table (table_of p z))) ≤ table_blocks)
      × (TableAccepted p (image (enc_table (table_of p z))) (table_of p z))
  tables_written = run_tables_written a (table_startable a rs right) v

  -- "Labels 0 to S − 1 are the null instances, holding defaults"
  pub nulls_default : (k : ℕ) → k < structs p
      → (i : Instance) × (get_elem? z.instances k ≡ some i) × (i.struct ≡ k) × (params_in i.env ≡ map default (params_of p k))
  nulls_default = run_nulls_default a (table_startable a rs right) v
