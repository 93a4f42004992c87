-- Every run of an accepted program is never stuck: from any machine with the invariant, and so from a right table
-- (01, 'The words of demand 3').
use Rattle.std.specs.Prelude.{ℕ, ◌≡◌, refl, ◌↔◌, ◌⊎◌, true, false, List, length, drop}
use Rattle.std.proofs.Common.{sym, subst, inl, inr}
use Rattle.std.proofs.Math.Option.{Option, some}
use Rattle.std.proofs.Math.ListN.{get_elem?}
use Rattle.program.specs.Tree.{Program}
use Rattle.commands.specs.Bounds.{program_depth}
use Rattle.table.specs.Table.{Record, TableRight}
use Rattle.machine.specs.Published.{Sched.done}
use Rattle.machine.specs.Stops.{ended, out_of_turns, full, exceeded}
use Rattle.machine.specs.Machine.{Instance, Machine, command, move}
use Rattle.run.specs.Turns.{chosen}
use Rattle.run.specs.Holders.{holders, due}
use Rattle.run.proofs.Laws.TurnLaws.{due_still}
use Rattle.run.specs.Run.{Outcome, Outcome.stopped, Outcome.jammed, run}
use Rattle.run.specs.Steps.{Steps.here}
use Rattle.run.proofs.Laws.StepsLaws.{steps_keep}
use Rattle.run.proofs.Laws.Settles.{Jams, Jams.sticks, Jams.jams, Ran, Ran.rests, Ran.stays}
use Rattle.run.proofs.Laws.FuelLaws.{run_ran}
use Rattle.run.specs.Visits.{Acts, Acts.moves, Acts.takes, Visits}
use Rattle.run.proofs.Laws.VisitLaws.{one_way}
use Rattle.run.proofs.Laws.RunAgrees.{run_follows}
use Rattle.run.proofs.Laws.RunAgreesVisits.{run_visits, run_turns}
use Rattle.run.proofs.Laws.HaltLaws.{halts_numbers, runs_halts}
use Rattle.run.specs.Begin.{table_of}
use Rattle.run.specs.Runs.{Config, StandsFor}
use Rattle.run.specs.Comes.{Comes}
use Rattle.run.proofs.Laws.OutcomeLaws.{outcome_exact}
use Rattle.sound.specs.Needs.{Right}
use Rattle.sound.specs.Invariant.{Good}
use Rattle.commands.specs.Accepted.{Accepted}
use Rattle.sound.specs.Firm.{Firm}
use Rattle.sound.proofs.Laws.AcceptedLaws.{accepted_firm}
use Rattle.sound.proofs.Laws.ReadyLaws.{good_right}
use Rattle.sound.specs.Conditions.{Condition}
use Rattle.sound.proofs.Laws.ConditionLaws.{condition_one, condition_last}
use Rattle.sound.proofs.Laws.Advance.{Kept}
use Rattle.sound.proofs.Laws.CommandKept.{Refused, command_kept}
use Rattle.sound.proofs.Laws.MoveKept.{MoveKept, still_good, move_kept, done_stops}
use Rattle.sound.proofs.Laws.BeginGood.{begin_good}
use Rattle.sound.proofs.Laws.GoodStands.{good_stands}
use Rattle.sound.proofs.Laws.HolderLaws.{chosen_holds}
use Rattle.sound.specs.NeverStuck.{NeverStuck, Demand3}

-- The machines of a run --------------------------------------------------------------

module _ {p : Program} (firm : Firm p) where
  -- a schedule move that is due keeps the invariant
  moved_kept : {m : Machine} → Good p m → due m ≡ true → (m.sched ≡ done → ⊥) → MoveKept p (move p m)
  moved_kept {m} g h d =
      move_kept firm m.sched m.instances m.stability m.from (still_good p m.instances (due_still m h) g.all) g.opened g.left d

  -- the command of the instance that a byte picks keeps it, or is refused with 34 or 35
  pub taken_kept : {m : Machine} (e : ℕ) → Good p m → due m ≡ false
      → (i : Instance) × (get_elem? m.instances (chosen (holders m) e) ≡ some i) × (Kept p Refused (command p (chosen (holders m) e) m))
  taken_kept {m} e g q =
      let (i, n, c, a, d) = chosen_holds m e q in
      (i, a, command_kept firm g (chosen (holders m) e) i a n c d)

  -- a step of a run keeps it,
  pub acts_good : {m z : Machine} {a : Option ℕ} → Acts p m a z → Good p m → Good p z
  acts_good {m} (moves h e) g = subst (MoveKept p) e (moved_kept g h (λ s. done_stops p m s e))
  acts_good (takes {e = e} h q) g = let (i, a, k) = taken_kept e g h in subst (Kept p Refused) q k

  -- and so every machine that a run from one with the invariant passes through has it
  pub visits_good : {m z : Machine} {es fs : List ℕ} → Good p m → Visits p m es z fs → Good p z
  visits_good g (t, v) = steps_keep (Good p) (λ m z a s h. acts_good s h) v g

  -- and is right
  pub visits_right : {m z : Machine} {es fs : List ℕ} → Good p m → Visits p m es z fs → Right p (program_depth p) z
  visits_right g v = good_right firm (visits_good g v)

-- The whole run ---------------------------------------------------------------------

-- an outcome is a number
abbrev Ends : Outcome → Type 0
Ends (stopped n t z) = Unit {0}
Ends jammed = ⊥

module _ {p : Program} (firm : Firm p) where
  -- with the invariant some rule fits,
  never_jams : {m : Machine} {es : List ℕ} → Good p m → Jams p m es → ⊥
  never_jams g (sticks h d q) = subst (MoveKept p) q (moved_kept firm g h d)
  never_jams g (jams {e = e} h q) = let (i, a, k) = taken_kept firm e g h in subst (Kept p Refused) q k

  -- so the outcome of every run from a machine with the invariant is one
  ran_ends : {m : Machine} {es : List ℕ} {o : Outcome} → Good p m → Ran p m es o → Ends o
  ran_ends g (rests v r) = tt
  ran_ends g (stays {t = t} v j) = never_jams (visits_good firm g (t, v)) j

-- where a condition holds at a machine of a run, every machine of it leads there, and no condition holds at another
module _ {p : Program} {m z : Machine} {es gs : List ℕ} {n : ℕ} (at : Visits p m es z gs) (c : Condition z gs n) where
  leads_last : (w : Machine) (fs : List ℕ) → Visits p m es w fs → Visits p w fs z gs
  leads_last w fs v = go (one_way p at w fs v)
    where
      go : (Visits p z gs w fs) ⊎ (Visits p w fs z gs) → Visits p w fs z gs
      go (inl u) = let (a, b) = condition_last c u in rw (a, b) (0, here)
      go (inr u) = u

  only_last : (w : Machine) (fs : List ℕ) → Visits p m es w fs → (k : ℕ) → Condition w fs k ↔ ((w ≡ z) × (fs ≡ gs) × (k ≡ n))
  only_last w fs v k = (
    λ d. let (a, b) = condition_last d (leads_last w fs v) in (sym a, sym b, condition_one p _ (rw (← a, ← b) at d) c),
    λ (a, b, q). rw (a, b, q) c,
  )

module _ {p : Program} (firm : Firm p) where
  -- a run of a program with firm ground under it, from any machine with the invariant, is never stuck
  firm_never_stuck : {m : Machine} → Good p m → (es : List ℕ) → NeverStuck p m es
  firm_never_stuck {m} g es = go (run p m es) refl (ran_ends firm g (run_ran p es m))
    where
      go : (o : Outcome) → run p m es ≡ o → Ends o → NeverStuck p m es
      go (stopped n t z) e s =
          let at = (run_visits p m es e).0 in
          let (c₀, S) = good_stands g in
          let (c', r, Q) = run_follows p m c₀ es S e in
          let c : Condition z (drop t es) n = (c', Q, runs_halts p r) in
          record {
            number = n;
            turns = t;
            last = z;
            returns = e;
            counted = run_turns p m es e;
            visited = at;
            right = λ w fs v. visits_right firm g v;
            leads = λ w fs v. leads_last at c w fs v;
            exactly = λ w fs v k. only_last at c w fs v k;
            final = λ w fs v. condition_last c v;
          }
      go jammed e s = absurd s

-- it has come to its end, or to 33, 34 or 35
pub never_stuck_numbers : {p : Program} {m : Machine} {es : List ℕ} (d : NeverStuck p m es)
    → (d.number ≡ ended) ⊎ ((d.number ≡ out_of_turns) ⊎ ((d.number ≡ full) ⊎ (d.number ≡ exceeded)))
never_stuck_numbers {es = es} d =
    let (c, S, h) = (d.exactly d.last (drop d.turns es) d.visited d.number).1 (refl, refl, refl) in halts_numbers h

-- the published rules come to that number, from the configuration that the machine stands for, with a last table
pub never_stuck_comes : (p : Program) (m : Machine) {c : Config} → StandsFor m c → (es : List ℕ) → NeverStuck p m es
    → (n : ℕ) × (t : ℕ) × (k : ℕ) × (rs : List Record) × Comes p c es n t k rs
never_stuck_comes p m S es d = (d.number, d.turns, length (holders d.last), table_of p d.last, outcome_exact p m S es d.returns)

-- a run of an accepted program from any machine with the invariant is never stuck
pub never_stuck : {p : Program} → Accepted p → {m : Machine} → Good p m → (es : List ℕ) → NeverStuck p m es
never_stuck a g es = firm_never_stuck (accepted_firm a) g es

-- Demand 3: so is one on a right table, whatever the turn bytes
pub demand3 : {p : Program} → Accepted p → (rs : List Record) → TableRight p.params rs → (es : List ℕ) → Demand3 p rs es
demand3 {p} a rs t es = never_stuck a (begin_good p a.0 rs t) es
