-- The executable run and the run over the published rules agree, both ways (01, 'Table and turns', 'Numbers from the state').
use Rattle.std.specs.Prelude.{ℕ, ◌≡◌, refl, ◌↔◌, ◌⊎◌, Bool, true, false, List, ◌∷◌}
use Rattle.std.proofs.Common.{ap, sym, ◌∙◌, subst, inl, inr, arith}
use Rattle.std.proofs.Math.Option.{Option}
use Rattle.program.specs.Tree.{Program}
use Rattle.machine.specs.Published.{Sched.done, State, State.state}
use Rattle.machine.specs.Machine.{Machine, Out.next, Out.refused, command}
use Rattle.machine.specs.Stops.{full, exceeded, ended}
use Rattle.machine.specs.Represents.{Represents}
use Rattle.machine.proofs.Laws.CommandAgrees.{command_follows, command_complete, command_full, command_exceeded, command_numbers}
use Rattle.machine.proofs.Laws.MoveAgrees.{move_follows, move_complete}
use Rattle.machine.proofs.Laws.FromLaws.{command_from, move_from}
use Rattle.run.specs.Turns.{chosen}
use Rattle.run.specs.Holders.{holders, due}
use Rattle.run.specs.Runs.{Due, Config, Config.config, picked, StandsFor, Halts, Halts.at_end, Halts.at_33, Halts.at_34, Halts.at_35, Step}
use Rattle.run.specs.Runs.{Step.moves, Step.takes, Runs}
use Rattle.run.specs.Run.{Outcome, Outcome.stopped, Outcome.jammed, run}
use Rattle.run.proofs.Laws.Settles.{Rests, Rests.ends, Rests.lasts, Rests.fails}
use Rattle.run.specs.Steps.{Steps}
use Rattle.run.proofs.Laws.StepsLaws.{simulates}
use Rattle.run.specs.Visits.{Acts, Acts.moves as acts_move, Acts.takes as acts_take}
use Rattle.run.proofs.Laws.TurnLaws.{due_none, due_still, holders_done, holders_represent}
use Rattle.run.proofs.Laws.FuelLaws.{run_rests, steps_stopped, rests_run}

-- a move of a machine is due exactly where one of the state is
pub due_same : (m : Machine) (st : State) → Represents m st → (due m ≡ true) ↔ (Due st)
due_same m (state s σ b) R =
    let h = holders_represent m m.from σ (refl, R) in
    let d = holders_done m.from σ in
    let n = due_none m in
    (λ e. d.0 (sym h ∙ n.0 e), λ a. n.1 (h ∙ d.1 a))

pub none_due : (m : Machine) (st : State) → Represents m st → (due m ≡ false) ↔ (Due st → ⊥)
none_due m st R = (
  λ e d. let a = (due_same m st R).1 d in let y : true ≡ false = cc in let z : ◌≡◌ {A = ℕ} 0 1 = cc in omega arith,
  λ n. go n (due m) refl,
)
  where
    go : (Due st → ⊥) → (d : Bool) → due m ≡ d → d ≡ false
    go n true e = absurd (n ((due_same m st R).0 e))
    go n false e = refl

-- a byte picks in a machine what it picks in the configuration
pub picked_same : (m : Machine) (n : ℕ) (st : State) (e : ℕ) → StandsFor m (config n st) → chosen (holders m) e ≡ picked n e st
picked_same m n (state s σ b) e S = ap (λ hs. chosen hs e) (holders_represent m n σ S)

module _ (p : Program) where
  -- Steps ----------------------------------------------------------------------------

  -- the command that a byte picks in the machine is the one that it picks in the configuration
  pub picked_command : (m : Machine) (n : ℕ) (st : State) (e : ℕ) → StandsFor m (config n st) → command p (chosen (holders m) e) m ≡ command p (picked n e st) m
  picked_command m n st e S = ap (λ l. command p l m) (picked_same m n st e S)

  -- a step of a machine is one of the configuration that it stands for,
  step_follows : (m : Machine) {m' : Machine} {a : Option ℕ} (c : Config) → StandsFor m c → Acts p m a m'
      → (c' : Config) × (Step p c a c') × (StandsFor m' c')
  step_follows m (config n st) (q, R) (acts_move g e) =
      let (st', k, Q) = move_follows p m st R (due_still m g) e in (config n st', moves ((due_same m st R).0 g) k, (move_from p m e ∙ q, Q))
  step_follows m {m'} (config n st) (q, R) (acts_take {e = e} g c) =
      let c' : command p (picked n e st) m ≡ next m' = sym (picked_command m n st e (q, R)) ∙ c in
      let (st', k, Q) = command_follows p (picked n e st) m st R c' in
      (config _ st', takes ((none_due m st R).0 g) k, (command_from p (picked n e st) m c', Q))

  -- and the other way
  step_complete : {c c' : Config} {a : Option ℕ} (m : Machine) → StandsFor m c → Step p c a c'
      → (m' : Machine) × (Acts p m a m') × (StandsFor m' c')
  step_complete m S (moves {st = st} d k) =
      let (m', e, Q) = move_complete p m S.1 k in (m', acts_move ((due_same m st S.1).1 d) e, (move_from p m e ∙ S.0, Q))
  step_complete m S (takes {n = n} {e = e} {st = st} d c) =
      let (m', h, Q) = command_complete p (picked n e st) m S.1 c in
      (m', acts_take ((none_due m st S.1).1 d) (picked_command m n st e S ∙ h), (command_from p (picked n e st) m h, Q))

  -- so is a way of several
  pub steps_follow : {m z : Machine} {es fs : List ℕ} {t : ℕ} (c : Config) → StandsFor m c → Steps (Acts p) m es t z fs
      → (c' : Config) × (Steps (Step p) c es t c' fs) × (StandsFor z c')
  steps_follow = simulates (λ m c. StandsFor m c) (λ m m' a c S s. step_follows m c S s)

  pub steps_complete : {c z : Config} {es fs : List ℕ} {t : ℕ} (m : Machine) → StandsFor m c → Steps (Step p) c es t z fs
      → (m' : Machine) × (Steps (Acts p) m es t m' fs) × (StandsFor m' z)
  steps_complete = simulates (λ c m. StandsFor m c) (λ c c' a m S s. step_complete m S s)

  -- Numbers --------------------------------------------------------------------------

  -- a machine rests where the configuration that it stands for halts,
  fails_halts : (m : Machine) (n : ℕ) (st : State) (e : ℕ) (es : List ℕ) {k : ℕ} → Represents m st → (Due st → ⊥) → command p (picked n e st) m ≡ refused k
      → Halts (config n st) (e ∷ es) k
  fails_halts m n st e es {k} R d c = go (command_numbers p (picked n e st) m st R c)
    where
      go : (k ≡ full) ⊎ (k ≡ exceeded) → Halts (config n st) (e ∷ es) k
      go (inl q) = rw q (at_34 d ((command_full p (picked n e st) m st R).0 (c ∙ ap refused q)))
      go (inr q) = rw q (at_35 d ((command_exceeded p (picked n e st) m st R).0 (c ∙ ap refused q)))

  ends_halts : (m : Machine) (n : ℕ) (st : State) (es : List ℕ) → Represents m st → Due st → m.sched ≡ done → Halts (config n st) es ended
  ends_halts m n (state s σ b) es R d e = subst (λ x. Halts (config n (state x σ b)) es ended) (sym e ∙ R.0) (at_end d)

  pub rests_halts : {m : Machine} {es : List ℕ} {k : ℕ} (c : Config) → StandsFor m c → Rests p m es k → Halts c es k
  rests_halts {m} {es} (config n st) (q, R) (ends g e) = ends_halts m n st es R ((due_same m st R).0 g) e
  rests_halts {m} (config n st) (q, R) (lasts g) = at_33 ((none_due m st R).0 g)
  rests_halts {m} (config n st) (q, R) (fails {e = e} {es = es} g c) =
      fails_halts m n st e es R ((none_due m st R).0 g) (sym (picked_command m n st e (q, R)) ∙ c)

  -- and the other way
  halts_rests : (m : Machine) {c : Config} {es : List ℕ} {k : ℕ} → StandsFor m c → Halts c es k → Rests p m es k
  halts_rests m S (at_end {σ = σ} {b = b} d) = ends ((due_same m (state done σ b) S.1).1 d) S.1.0
  halts_rests m S (at_33 {st = st} d) = lasts ((none_due m st S.1).1 d)
  halts_rests m S (at_34 {n = n} {e = e} {st = st} d f) =
      fails {n = full} ((none_due m st S.1).1 d) (picked_command m n st e S ∙ (command_full p (picked n e st) m st S.1).1 f)
  halts_rests m S (at_35 {n = n} {e = e} {st = st} d f) =
      fails {n = exceeded} ((none_due m st S.1).1 d) (picked_command m n st e S ∙ (command_exceeded p (picked n e st) m st S.1).1 f)

  -- The whole run --------------------------------------------------------------------

  -- the outcome of the executable run has a derivation over the published rules, whose last configuration the last machine stands for
  pub run_follows : (m : Machine) (c : Config) (es : List ℕ) {n t : ℕ} {z : Machine} → StandsFor m c → run p m es ≡ stopped n t z
      → (c' : Config) × (Runs p c es n t c') × (StandsFor z c')
  run_follows m c es S e =
      let (fs, v, r) = run_rests p es m e in
      let (c', w, Q) = steps_follow c S v in
      (c', (fs, w, rests_halts c' Q r), Q)

  -- what has a derivation is the outcome of the executable run, and its last machine stands for the last configuration
  pub run_complete : (m : Machine) {c c' : Config} {es : List ℕ} {n t : ℕ} → StandsFor m c → Runs p c es n t c'
      → (z : Machine) × (run p m es ≡ stopped n t z) × (StandsFor z c')
  run_complete m {n = n} S (fs, v, h) =
      let (z, w, Q) = steps_complete m S v in
      (z, steps_stopped p w (rests_run p (halts_rests z Q h)) ∙ ap (λ x. stopped n x z) (omega arith), Q)

  -- the executable run is jammed exactly where no derivation exists
  pub run_jammed : (m : Machine) (c : Config) (es : List ℕ) → StandsFor m c
      → (run p m es ≡ jammed) ↔ ((n t : ℕ) (c' : Config) → Runs p c es n t c' → ⊥)
  run_jammed m c es S = (
    λ e n t c' r. let (z, f, Q) = run_complete m S r in let w : ◌≡◌ {A = ℕ} 0 1 = cc in omega arith,
    λ h. go h (run p m es) refl,
  )
    where
      go : ((n t : ℕ) (c' : Config) → Runs p c es n t c' → ⊥) → (o : Outcome) → run p m es ≡ o → o ≡ jammed
      go h (stopped n t z) e = let (c', r, Q) = run_follows m c es S e in absurd (h n t c' r)
      go h jammed e = refl
