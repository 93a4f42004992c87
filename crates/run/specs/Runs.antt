-- A run as a relation over the published rules alone (01, 'Table and turns', 'Numbers from the state', 'The words of demand 3'; 02, 'Turns that
-- go round'). From it the number, the turns taken and the last state are read off. Which label turns are counted from is no part of 000's states:
-- a configuration has it beside one.
use Rattle.std.specs.Prelude.{ℕ, suc, ◌≡◌, Bool, List, [], ◌∷◌}
use Rattle.std.proofs.Math.Option.{Option, none, some}
use Rattle.program.specs.Tree.{Program}
use Rattle.machine.specs.Published.{Sched.done, Inst, State, State.state}
use Rattle.machine.specs.Machine.{Machine}
use Rattle.machine.specs.Represents.{Represents}
use Rattle.machine.specs.Rules.{Done, Actor.instance, Actor.schedule, Rule}
use Rattle.machine.specs.Stops.{Full, Exceeded, ended, out_of_turns, full, exceeded}
use Rattle.run.specs.Turns.{holders_of, chosen}
use Rattle.run.specs.Steps.{Steps}

-- a move of the schedule is due: no instance holds commands
abbrev pub Due : State → Type 0
Due (state s σ b) = Done σ

-- a state, and the label from which turns are counted on
pub data Config : Type 0 where
  config : ℕ → State → Config

-- the instance that the byte e picks, counted from label n, where no move is due
abbrev pub picked : ℕ → ℕ → State → ℕ
picked n e (state s σ b) = chosen (holders_of n σ) e

-- a machine stands for a configuration
abbrev pub StandsFor : Machine → Config → Type 0
StandsFor m (config n st) = (m.from ≡ n) × (Represents m st)

-- at a configuration, with these bytes left, a run has come to a number
pub data Halts : Config → List ℕ → ℕ → Type 0 where
  -- the schedule is empty and no instance holds commands
  at_end : {n : ℕ} {σ : List Inst} {b : List Bool} {es : List ℕ} → Done σ → Halts (config n (state done σ b)) es ended
  -- no move is due, and the bytes are used up
  at_33 : {n : ℕ} {st : State} → (Due st → ⊥) → Halts (config n st) [] out_of_turns
  -- the command chosen by the next byte meets that condition
  at_34 : {n e : ℕ} {st : State} {es : List ℕ} → (Due st → ⊥) → Full (picked n e st) st → Halts (config n st) (e ∷ es) full
  at_35 : {n e : ℕ} {st : State} {es : List ℕ} → (Due st → ⊥) → Exceeded (picked n e st) st → Halts (config n st) (e ∷ es) exceeded

-- one step: by no byte, the schedule makes the move that is due, and counting stays; by a byte, where none is, the instance that it picks
-- takes a command, and counting goes on from the label after it
pub data Step (p : Program) : Config → Option ℕ → Config → Type 0 where
  moves : {n : ℕ} {st st' : State} → Due st → Rule p schedule st st' → Step p (config n st) none (config n st')
  takes : {n e : ℕ} {st st' : State} → (Due st → ⊥) → Rule p (instance (picked n e st)) st st'
      → Step p (config n st) (some e) (config (suc (picked n e st)) st')

-- from a configuration, with these bytes, a run passes through another, its beginning or one after a step, with so many commands taken by then
abbrev pub Passes : Program → Config → List ℕ → ℕ → Config → Type 0
Passes p c es t z = (fs : List ℕ) × Steps (Step p) c es t z fs

-- it comes to a number, after so many turns, in a last configuration
abbrev pub Runs : Program → Config → List ℕ → ℕ → ℕ → Config → Type 0
Runs p c es n t z = (fs : List ℕ) × (Steps (Step p) c es t z fs) × (Halts z fs n)
