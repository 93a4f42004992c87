-- What the executable run does (01, 'Table and turns'), without its fuel: where the schedule's moves lead a machine, and what its
-- whole run comes to.
use Rattle.std.specs.Prelude.{ℕ, ◌≡◌, true, false, List, [], ◌∷◌}
use Rattle.program.specs.Tree.{Program}
use Rattle.machine.specs.Published.{Sched.done}
use Rattle.machine.specs.Machine.{Machine, Out.refused, Out.stuck, Moved.next, Moved.stuck, command, move}
use Rattle.run.specs.Turns.{chosen}
use Rattle.run.specs.Holders.{holders, due}
use Rattle.machine.specs.Stops.{ended, out_of_turns}
use Rattle.run.specs.Steps.{Steps}
use Rattle.run.specs.Visits.{Acts}
use Rattle.run.specs.Run.{Outcome, Outcome.stopped, Outcome.jammed, Settled, Settled.hold, Settled.stop}

-- moves until none is due, the schedule is empty or no rule fits
pub data Settles (p : Program) : Machine → Settled → Type 0 where
  holds : {m : Machine} → due m ≡ false → Settles p m (hold m)
  ends : {m : Machine} → due m ≡ true → m.sched ≡ done → Settles p m (stop (stopped ended 0 m))
  sticks : {m : Machine} → due m ≡ true → (m.sched ≡ done → ⊥) → move p m ≡ stuck → Settles p m (stop jammed)
  moves : {m m' : Machine} {x : Settled} → due m ≡ true → move p m ≡ next m' → Settles p m' x → Settles p m x

-- at a machine, with these bytes left, its run has come to a number
pub data Rests (p : Program) : Machine → List ℕ → ℕ → Type 0 where
  ends : {m : Machine} {es : List ℕ} → due m ≡ true → m.sched ≡ done → Rests p m es ended
  lasts : {m : Machine} → due m ≡ false → Rests p m [] out_of_turns
  fails : {m : Machine} {e n : ℕ} {es : List ℕ} → due m ≡ false → command p (chosen (holders m) e) m ≡ refused n → Rests p m (e ∷ es) n

-- no rule fits
pub data Jams (p : Program) : Machine → List ℕ → Type 0 where
  sticks : {m : Machine} {es : List ℕ} → due m ≡ true → (m.sched ≡ done → ⊥) → move p m ≡ stuck → Jams p m es
  jams : {m : Machine} {e : ℕ} {es : List ℕ} → due m ≡ false → command p (chosen (holders m) e) m ≡ stuck → Jams p m (e ∷ es)

-- the whole list of bytes
pub data Ran (p : Program) (m : Machine) (es : List ℕ) : Outcome → Type 0 where
  rests : {z : Machine} {fs : List ℕ} {n t : ℕ} → Steps (Acts p) m es t z fs → Rests p z fs n → Ran p m es (stopped n t z)
  stays : {z : Machine} {fs : List ℕ} {t : ℕ} → Steps (Acts p) m es t z fs → Jams p z fs → Ran p m es jammed
