-- The fuel of the executable run is enough (01, 'Table and turns'): more of it changes nothing, and none is the reason of `jammed`.
-- So a run does what `Ran` says, which no fuel is in.
use Prim.Native.Nat.{ℕ, zero, suc, ◌+◌, ◌*◌, ◌<◌, ◌≤◌}
use Rattle.std.proofs.Math.Path.{◌≡◌, refl, ap}
use Rattle.std.proofs.Common.{◌∙◌, subst, arith}
use Rattle.std.specs.Prelude.{◌↔◌, Bool, length}
use Rattle.std.proofs.Math.Bool.{true, false}
use Rattle.std.proofs.Math.Option.{none, some}
use mathlib.Core.List.{List, [], ◌∷◌}
use Rattle.program.specs.Tree.{Program}
use Rattle.machine.specs.Published.{Sched, Sched.done, Sched.start, Sched.fixpoint, Sched.active}
use Rattle.machine.specs.Machine.{Machine, Out, Out.next, Out.refused, Out.stuck, Moved, Moved.next, Moved.stuck, command, move_by, move}
use Rattle.machine.specs.Measure.{bound, passages, measure}
use Rattle.machine.proofs.Laws.MeasureLaws.{move_falls}
use Rattle.run.specs.Turns.{chosen}
use Rattle.run.specs.Holders.{holders, due}
use Rattle.machine.specs.Stops.{ended}
use Rattle.run.specs.Run.{Outcome, Outcome.stopped, Outcome.jammed, later, Settled, Settled.hold, Settled.stop, is_done, moved, settle_by, settle, fuel}
use Rattle.run.specs.Run.{taken, turn, at_last, run}
use Rattle.run.proofs.Laws.Settles.{Settles, Settles.holds, Settles.ends, Settles.sticks, Settles.moves, Rests, Rests.ends as at_rest, Rests.lasts}
use Rattle.run.proofs.Laws.Settles.{Rests.fails, Jams.sticks as stuck_at, Jams.jams, Ran, Ran.rests, Ran.stays}
use Rattle.run.specs.Steps.{Steps, Steps.here, Steps.silent, Steps.reads}
use Rattle.run.specs.Visits.{Acts, Acts.moves as acts_move, Acts.takes as acts_take}

-- The schedule's moves -------------------------------------------------------------

is_done_done : (s : Sched) → (is_done s ≡ true) ↔ (s ≡ done)
unfolding is_done
is_done_done done = (λ e. refl, λ e. refl)
is_done_done (start a s) = (λ e. cc, λ e. cc)
is_done_done (fixpoint f s) = (λ e. cc, λ e. cc)
is_done_done (active f s) = (λ e. cc, λ e. cc)

-- the fuel f is more than the moves that m can make, by a bound B on its bodies
abbrev pub Enough : ℕ → ℕ → Machine → Type 0
Enough B f m = (bound m.sched ≤ B) × (measure B m < f)

not_done : (s : Sched) → (s ≡ done → ⊥) → is_done s ≡ false
unfolding is_done
not_done done n = absurd (n refl)
not_done (start a s) n = refl
not_done (fixpoint f s) n = refl
not_done (active f s) n = refl

module _ (p : Program) (m : Machine) where
  -- an empty schedule makes no move
  done_stuck : m.sched ≡ done → move p m ≡ stuck
  unfolding move_by
  done_stuck e = ap (λ s. move_by p s m.instances m.stability m.from) e

  -- where a move is due and the schedule is not empty, it is made
  settle_moves : (k : Machine → Settled) → due m ≡ true → (m.sched ≡ done → ⊥) → settle_by k p m (due m) ≡ moved k (move p m)
  unfolding settle_by
  settle_moves k g n = rw (g, not_done m.sched n, settle_by)

module _ (p : Program) (B : ℕ) where
  -- by the cases of a move, where more than f moves cannot be made, and f are enough for the machine after it
  module _ (f : ℕ) (m : Machine) (h : Enough B (suc f) m) (r : (m' : Machine) → Enough B f m' → Settles p m' (settle p f m')) where
    by_move : due m ≡ true → (m.sched ≡ done → ⊥) → (o : Moved) → move p m ≡ o → Settles p m (moved (λ m'. settle p f m') o)
    unfolding moved
    by_move g n (next m') e = let (a, b) = move_falls p B m h.0 e in moves g e (r m' (b, omega arith))
    by_move g n stuck e = sticks g n e

    by_done : due m ≡ true → (t : Bool) → is_done m.sched ≡ t
        → Settles p m (elim t [ true ↦ stop (stopped ended 0 m) | false ↦ moved (λ m'. settle p f m') (move p m) ])
    by_done g true e = ends g ((is_done_done m.sched).0 e)
    by_done g false e =
        by_move g (λ d. let a = (is_done_done m.sched).1 d in let z : true ≡ false = cc in let y : ◌≡◌ {A = ℕ} 0 1 = cc in omega arith) (move p m) refl

    by_due : (t : Bool) → due m ≡ t → Settles p m (settle_by (λ m'. settle p f m') p m t)
    unfolding settle_by
    by_due true g = by_done g (is_done m.sched) refl
    by_due false g = holds g

  -- with enough fuel, the moves lead where they lead without any
  pub settle_settles : (f : ℕ) (m : Machine) → Enough B f m → Settles p m (settle p f m)
  unfolding settle
  settle_settles zero m h = absurd (omega arith)
  settle_settles (suc f) m h = by_due f m h (λ m' k. settle_settles f m' k) (due m) refl

  -- and where they lead, they lead with any fuel that is enough
  pub settles_settle : (f : ℕ) {m : Machine} {x : Settled} → Settles p m x → Enough B f m → settle p f m ≡ x
  unfolding settle settle_by moved is_done
  settles_settle zero s h = absurd (omega arith)
  settles_settle (suc f) (holds g) h = rw g
  settles_settle (suc f) {m} (ends g e) h = rw (g, e)
  settles_settle (suc f) {m} (sticks g n e) h = settle_moves p m (λ m'. settle p f m') g n ∙ ap (λ (o : Moved). moved (λ m'. settle p f m') o) e
  settles_settle (suc f) {m} (moves g e s) h =
      let (a, b) = move_falls p B m h.0 e in
      settle_moves p m (λ m'. settle p f m') g (λ d. let a = done_stuck p m d in let z : ◌≡◌ {A = ℕ} 0 1 = cc in omega arith)
      ∙ ap (λ (o : Moved). moved (λ m'. settle p f m') o) e
      ∙ settles_settle f s (b, omega arith)

passages_bounded : (B : ℕ) (b : List Bool) → passages B b ≤ length b * suc B
unfolding passages
passages_bounded B [] = omega arith
passages_bounded B (true ∷ b) = omega (arith, passages_bounded B b)
passages_bounded B (false ∷ b) = omega (arith, passages_bounded B b)

-- the fuel of a run is enough
pub fuel_suffices : (m : Machine) → Enough (bound m.sched) (fuel m) m
unfolding fuel measure
fuel_suffices m = (omega arith, omega (arith, passages_bounded (bound m.sched) m.stability))

module _ (p : Program) where
  -- the moves of a run lead where they lead without fuel
  pub fuel_settles : (m : Machine) → Settles p m (settle p (fuel m) m)
  fuel_settles m = settle_settles p (bound m.sched) (fuel m) m (fuel_suffices m)

  -- what the moves lead to, a run has
  pub settled : {m : Machine} {x : Settled} → Settles p m x → settle p (fuel m) m ≡ x
  settled {m} s = settles_settle p (bound m.sched) (fuel m) s (fuel_suffices m)

  -- The whole run --------------------------------------------------------------------

  ran_silent : {m m' : Machine} {es : List ℕ} {o : Outcome} → Acts p m none m' → Ran p m' es o → Ran p m es o
  ran_silent s (rests v r) = rests (silent s v) r
  ran_silent s (stays v j) = stays (silent s v) j

  ran_reads : {m m' : Machine} {e : ℕ} {es : List ℕ} {o : Outcome} → Acts p m (some e) m' → Ran p m' es o → Ran p m (e ∷ es) (later o)
  unfolding later
  ran_reads s (rests v r) = rests (reads s v) r
  ran_reads s (stays v j) = stays (reads s v) j

  -- a way F to go on from where the moves lead
  settles_ran : {m : Machine} {x : Settled} → Settles p m x → (es : List ℕ) (F : Settled → Outcome) → ((o : Outcome) → F (stop o) ≡ o)
      → ((z : Machine) → due z ≡ false → Ran p z es (F (hold z))) → Ran p m es (F x)
  settles_ran (holds {m = m} g) es F s k = k m g
  settles_ran (ends {m = m} g d) es F s k = rw (s (stopped ended 0 m)) (rests here (at_rest g d))
  settles_ran (sticks g n q) es F s k = rw (s jammed) (stays here (stuck_at g n q))
  settles_ran (moves g q x) es F s k = ran_silent (acts_move g q) (settles_ran x es F s k)

  by_command : (es : List ℕ) (e : ℕ) (z : Machine) → ((m : Machine) → Ran p m es (run p m es)) → due z ≡ false
      → (o : Out) → command p (chosen (holders z) e) z ≡ o → Ran p z (e ∷ es) (taken (λ m. run p m es) z o)
  unfolding taken
  by_command es e z r g (next m) c = ran_reads (acts_take g c) (r m)
  by_command es e z r g (refused n) c = rests here (fails g c)
  by_command es e z r g stuck c = stays here (jams g c)

  -- a run does what it does without fuel
  pub run_ran : (es : List ℕ) (m : Machine) → Ran p m es (run p m es)
  unfolding run at_last turn
  run_ran [] m = settles_ran (fuel_settles m) [] at_last (λ o. refl) (λ z g. rests here (lasts g))
  run_ran (e ∷ es) m =
      settles_ran (fuel_settles m) (e ∷ es) (turn (λ m'. run p m' es) p e) (λ o. refl)
      λ z g. by_command es e z (λ m'. run_ran es m') g (command p (chosen (holders z) e) z) refl

  -- so it has come to its number where its steps lead
  pub run_rests : (es : List ℕ) (m : Machine) {z : Machine} {n t : ℕ} → run p m es ≡ stopped n t z
      → (fs : List ℕ) × (Steps (Acts p) m es t z fs) × (Rests p z fs n)
  run_rests es m {z} {n} {t} e = go (subst (Ran p m es) e (run_ran es m))
    where
      go : Ran p m es (stopped n t z) → (fs : List ℕ) × (Steps (Acts p) m es t z fs) × (Rests p z fs n)
      go (rests {fs = fs} v r) = (fs, v, r)

  -- moves that lead to an outcome are the whole run
  run_stop : (es : List ℕ) {m : Machine} {o : Outcome} → Settles p m (stop o) → run p m es ≡ o
  unfolding run at_last turn
  run_stop [] s = ap at_last (settled s)
  run_stop (e ∷ es) s = ap (turn (λ m'. run p m' es) p e) (settled s)

  -- a move that is due leaves the run to the next machine
  pub run_moves : (es : List ℕ) (m : Machine) {m' : Machine} → due m ≡ true → move p m ≡ next m' → run p m es ≡ run p m' es
  unfolding run
  run_moves [] m {m'} g q = ap at_last (settled (moves g q (fuel_settles m')))
  run_moves (e ∷ es) m {m'} g q = ap (turn (λ z. run p z es) p e) (settled (moves g q (fuel_settles m')))

  -- a turn
  run_turn : (e : ℕ) (es : List ℕ) (m : Machine) {o : Out} → due m ≡ false → command p (chosen (holders m) e) m ≡ o
      → run p m (e ∷ es) ≡ taken (λ m'. run p m' es) m o
  unfolding run turn
  run_turn e es m g c = ap (turn (λ m'. run p m' es) p e) (settled (holds g)) ∙ ap (taken (λ m'. run p m' es) m) c

  -- what a run of a machine on its way comes to, the whole run comes to, after the turns taken
  pub steps_stopped : {m z w : Machine} {es fs : List ℕ} {n t k : ℕ} → Steps (Acts p) m es t z fs → run p z fs ≡ stopped n k w
      → run p m es ≡ stopped n (t + k) w
  unfolding taken later
  steps_stopped {w = w} {n = n} here r = r ∙ ap (λ x. stopped n x w) (omega arith)
  steps_stopped {m} {es = es} (silent (acts_move g q) v) r = run_moves es m g q ∙ steps_stopped v r
  steps_stopped {m} {w = w} {n = n} (reads {es = es} (acts_take {e = e} g c) v) r =
      run_turn e es m g c ∙ ap later (steps_stopped v r) ∙ ap (λ x. stopped n x w) (omega arith)

  -- where a machine rests, its run stops
  pub rests_run : {m : Machine} {es : List ℕ} {n : ℕ} → Rests p m es n → run p m es ≡ stopped n 0 m
  unfolding run at_last taken
  rests_run {es = es} (at_rest g d) = run_stop es (ends g d)
  rests_run {m} (lasts g) = ap at_last (settled (holds g))
  rests_run {m} (fails {e = e} {es = es} g c) = run_turn e es m g c
