-- What the claims say in one line and the crates below in two: a step by its name, a call with the run that it makes.
use Rattle.std.specs.Prelude.{ℕ, ◌<◌, ◌≤◌, ◌≡◌, Bool, List, [], ◌∷◌, ◌++◌, map, length}
use Rattle.std.proofs.Common.{ap, subst₂}
use Rattle.std.proofs.Math.Option.{none, some}
use Rattle.types.specs.Limits.{max_commands, fix_levels}
use Rattle.types.specs.Orders.{Foremost}
use Rattle.types.proofs.Laws.StageLaws.{stage_number}
use Rattle.program.specs.Tree.{Stmts, Program}
use Rattle.commands.specs.Accepted.{Accepted}
use Rattle.commands.specs.Bounds.{program_depth}
use Rattle.commands.specs.Coding.{words}
use Rattle.commands.specs.Commands.{commands}
use Rattle.commands.specs.Context.{context, step_of}
use Rattle.commands.specs.Noted.{erase, noted}
use Rattle.commands.proofs.Laws.NotedLaws.{erased}
use Rattle.table.specs.Table.{Record}
use Rattle.machine.specs.Published.{Sched, Sched.fixpoint, Inst, State.state}
use Rattle.machine.specs.Machine.{Machine}
use Rattle.run.specs.Begin.{begin, table_of}
use Rattle.run.specs.Initial.{initially}
use Rattle.run.specs.Answered.{Answered}
use Rattle.run.specs.Holders.{holders}
use Rattle.run.specs.Run.{Outcome.stopped, run}
use Rattle.run.specs.Comes.{Comes}
use Rattle.run.proofs.Laws.BeginLaws.{begin_stands}
use Rattle.run.proofs.Laws.OutcomeLaws.{outcome_exact}
use Rattle.run.specs.Runs.{Config, Config.config, StandsFor, Passes}
use Rattle.run.proofs.Laws.RunAgreesVisits.{passes_visits}
use Rattle.verdict.specs.Verdict.{check_list}
use Rattle.verdict.specs.ProgramInput.{AcceptedImage, program_order, check_order}
use Rattle.run.specs.Input.{Runnable}
use Rattle.verdict.proofs.ProgramInputLaws.{checked_accepted, checked_number, tell_checks}
use Rattle.run.proofs.Laws.InputLaws.{begins_ready}
use Rattle.run.proofs.Laws.AnsweredLaws.{comes_answered}
use Rattle.sound.specs.Needs.{Right}
use Rattle.sound.proofs.Laws.AcceptedLaws.{ready_accepted, accepted_firm}
use Rattle.sound.specs.Startable.{Startable}
use Rattle.sound.proofs.Laws.NeverStuckLaws.{visits_good, visits_right, never_stuck}
use Rattle.sound.proofs.Laws.StartableLaws.{begin_startable}
use Rattle.sound.proofs.Laws.ShallowLaws.{good_entries}
use Rattle.step_part.specs.StepPart.{step_place, step_part}
use Rattle.step_part.specs.StepPartWords.{step_words, step_absent, step_refused}
use Rattle.text.specs.Listing.{row}
use Rattle.step_lines.specs.Lines.{program_lines}
use Rattle.listing.specs.Listings.{refused_word, head, listing, listing_of}
use Rattle.claims.specs.Call.{Called, Call}

-- Steps --------------------------------------------------------------------------------

module _ (x list : List ℕ) (p : Program) (a : AcceptedImage x p) (h : max_commands ≤ length list) (k n : ℕ) where
  -- of the list that a check filled, the part of a step is the words of its commands, and these are the ones that a run takes
  pub step_handed : {b : Stmts} → step_of p k n ≡ some b
      → ((step_place x (check_list x list) k n).number ≡ 0)
      × (step_part x (check_list x list) k n ≡ words (commands b))
      × (map erase (noted (context p k b) b) ≡ commands b)
  step_handed {b} e =
      let (c, d) = step_words x list p k n ((checked_accepted x p).1 a) h e in
      (c, d, erased (context p k b) b)

  -- a step that is not there has an empty part
  pub step_not_there : step_of p k n ≡ none → ((step_place x list k n).number ≡ 0) × (step_part x list k n ≡ [])
  step_not_there e = step_absent x list k n p ((checked_accepted x p).1 a) h e

-- where the check refuses, so does the step entry: the same number, and an empty part
pub step_numbered : (x list : List ℕ) (k s n : ℕ) → Foremost (check_order x list) n
    → ((step_place x list k s).number ≡ n) × (step_part x list k s ≡ [])
step_numbered x list k s n q = step_refused x list k s n ((stage_number (tell_checks x list) n).1 q)

-- Listings -----------------------------------------------------------------------------

-- an accepted image is listed as its program's head and lines, a refused one as its number
pub listing_accepted : (x : List ℕ) (p : Program) → AcceptedImage x p → listing_of x ≡ head p ++ program_lines p
unfolding listing_of listing
listing_accepted x p a = ap listing ((checked_accepted x p).1 a)

pub listing_numbered : (x : List ℕ) (n : ℕ) → Foremost (program_order x) n → listing_of x ≡ row refused_word (n ∷ [])
unfolding listing_of listing
listing_numbered x n q = ap listing ((checked_number x n).1 q)

-- Runs ---------------------------------------------------------------------------------

module _ {p : Program} (a : Accepted p) {m : Machine} (start : Startable p m) {c : Config} (stands : StandsFor m c) {es : List ℕ} where
  -- a call that begins a run with such a machine is never stuck, comes to what the published rules come to, and answers it
  pub called : {Answer : ℕ → ℕ → Machine → Type 0}
      → ((n t : ℕ) (z : Machine) → run p m es ≡ stopped n t z → Comes p c es n t (length (holders z)) (table_of p z) → Answer n t z)
      → Called p m c es Answer
  called f =
      let d = never_stuck a start.good es in
      let come = outcome_exact p m stands es d.returns in
      record { never_stuck = d; comes = come; answered = f d.number d.turns d.last d.returns come }

  -- every configuration that the published rules pass through is one of a right machine
  pub passes_right : {d : Config} {t : ℕ} → Passes p c es t d → (z : Machine) × (StandsFor z d) × (Right p (program_depth p) z)
  passes_right w =
      let (z, fs, v, e, S) = passes_visits p m stands w in
      (z, S, visits_right (accepted_firm a) start.good v)

  -- none has more stability entries than Fixes may nest, and where a Fix comes next there are fewer
  pub passes_entries : {n : ℕ} {s : Sched} {σ : List Inst} {b : List Bool} {t : ℕ} → Passes p c es t (config n (state s σ b))
      → (length b ≤ fix_levels) × ((f q : Sched) → s ≡ fixpoint f q → length b < fix_levels)
  passes_entries w =
      let (z, fs, v, e, S) = passes_visits p m stands w in
      let firm = accepted_firm a in
      subst₂ (λ s b. (length b ≤ fix_levels) × ((f q : Sched) → s ≡ fixpoint f q → length b < fix_levels)) S.1.0 S.1.2
      (good_entries firm (visits_good firm start.good v))

-- Calls --------------------------------------------------------------------------------

-- what a call on a table that begins is, in full
pub ready_called : (x y es out list : List ℕ) (p : Program) (rs : List Record) → Runnable x y es out list p rs
    → Called p (begin p rs) (initially p rs) es (λ n t z. Answered x y es out list p n t (length (holders z)) (table_of p z))
ready_called x y es out list p rs r =
    called (ready_accepted r) (begin_startable (ready_accepted r) rs r.table.right) (begin_stands p rs)
    λ n t z e c. comes_answered x y es out list p rs ((begins_ready x y es out list p rs).1 r) c

-- a call on a table that begins is one
pub ready_call : (x y es out list : List ℕ) (p : Program) (rs : List Record) → Runnable x y es out list p rs → Call x y es out list p rs
ready_call x y es out list p rs r = ready_called x y es out list p rs r
