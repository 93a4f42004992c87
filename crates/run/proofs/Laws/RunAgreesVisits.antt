-- The machines that the executable run visits stand for the configurations that the run by the published rules passes through, and the
-- last one is among them; the turns counted are the commands taken (01, 'Table and turns', 'The words of demand 3').
use Rattle.std.specs.Prelude.{ℕ, ◌≤◌, ◌≡◌, refl, List, length, drop}
use Rattle.std.proofs.Common.{sym, subst, arith}
use Rattle.program.specs.Tree.{Program}
use Rattle.machine.specs.Machine.{Machine}
use Rattle.machine.specs.Stops.{out_of_turns}
use Rattle.run.specs.Steps.{Steps}
use Rattle.run.proofs.Laws.StepsLaws.{steps_left, steps_turns}
use Rattle.run.specs.Runs.{Config, StandsFor, Halts, Halts.at_end, Halts.at_33, Halts.at_34, Halts.at_35, Passes, Runs}
use Rattle.run.specs.Run.{Outcome.stopped, run}
use Rattle.run.specs.Visits.{Acts, Visits, turns_of}
use Rattle.run.proofs.Laws.FuelLaws.{run_rests}
use Rattle.run.proofs.Laws.RunAgrees.{steps_follow, steps_complete}

module _ (p : Program) where
  -- every machine that the executable run visits stands for a configuration that the published run passes through, after so many commands
  pub visits_passes : {m z : Machine} {es fs : List ℕ} (c : Config) → StandsFor m c → (v : Visits p m es z fs)
      → (c' : Config) × (Passes p c es (turns_of p v) c') × (StandsFor z c')
  visits_passes {fs = fs} c S (t, v) = let (z, w, Q) = steps_follow p c S v in (z, (fs, w), Q)

  -- every configuration that the published run passes through, a machine that the executable run visits stands for
  pub passes_visits : (m : Machine) {c c' : Config} {es : List ℕ} {t : ℕ} → StandsFor m c → Passes p c es t c'
      → (z : Machine) × (fs : List ℕ) × (v : Visits p m es z fs) × (turns_of p v ≡ t) × (StandsFor z c')
  passes_visits m {t = t} S (fs, w) = let (z, v, Q) = steps_complete p m S w in (z, fs, (t, v), refl, Q)

  -- a command is taken for each byte at most
  pub passes_bounded : {c c' : Config} {es : List ℕ} {t : ℕ} → Passes p c es t c' → t ≤ length es
  passes_bounded (fs, v) = omega (arith, steps_turns v)

  none_left : {c : Config} {es : List ℕ} {n : ℕ} → Halts c es n → n ≡ out_of_turns → 0 ≡ length es
  none_left (at_end d) e = absurd (omega arith)
  none_left (at_33 n) e = refl
  none_left (at_34 k f) e = absurd (omega arith)
  none_left (at_35 k f) e = absurd (omega arith)

  -- 33 is the answer only once every byte has taken a command
  pub all_taken : {c c' : Config} {es : List ℕ} {n t : ℕ} → Runs p c es n t c' → n ≡ out_of_turns → t ≡ length es
  all_taken (fs, v, h) e = omega (arith, steps_turns v, none_left h e)

  -- the last machine of a run is visited, the turns counted are the commands taken on the way, and the other bytes are left
  pub run_visits : (m : Machine) (es : List ℕ) {n t : ℕ} {z : Machine} → run p m es ≡ stopped n t z
      → (v : Visits p m es z (drop t es)) × (turns_of p v ≡ t)
  run_visits m es {n} {t} {z} e =
      let (fs, v, r) = run_rests p es m e in
      ((t, subst (λ gs. Steps (Acts p) m es t z gs) (sym (steps_left v)) v), refl)

  -- no more commands are taken than there are bytes
  pub turns_bounded : {m z : Machine} {es fs : List ℕ} (v : Visits p m es z fs) → turns_of p v ≤ length es
  turns_bounded (t, v) = omega (arith, steps_turns v)

  -- a run counts no more turns than there are bytes
  pub run_turns : (m : Machine) (es : List ℕ) {n t : ℕ} {z : Machine} → run p m es ≡ stopped n t z → t ≤ length es
  run_turns m es e = let (v, a) = run_visits m es e in omega (arith, turns_bounded v)
