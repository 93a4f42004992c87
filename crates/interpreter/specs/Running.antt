-- What the code of a run promises (01, 'Table and turns'), of every program and machine that memory is ready for: what a move and a
-- turn come to, where the schedule's moves lead, and the whole run. A machine that memory comes to is one that the run passes through, with
-- the bytes that are left then.
use Rattle.std.specs.Prelude.{ℕ, ◌<◌, ◌≡◌, ◌⊎◌, List, ◌∷◌, drop}
use Rattle.program.specs.Tree.{Program}
use Rattle.machine.specs.Machine.{Machine, Out.next, command}
use Rattle.machine.specs.Stops.{ended}
use Rattle.run.specs.Turns.{chosen}
use Rattle.run.specs.Holders.{holders}
use Rattle.run.specs.Run.{Outcome.stopped, run}
use Rattle.run.specs.Visits.{Visits}
use Rattle.layout.specs.State.{State, refused, state_of}
use Rattle.memory.specs.Act.{full, exceeded}
use Rattle.layout.specs.declared.Numbers.{Numbers}
use Rattle.interpreter.specs.Ready.{Ready}

-- the number taken out again
abbrev pub cleared : State → State
cleared z = refused 0 z

module _ (p : Program) (counts list items spans : List ℕ) (m : Machine) where
  -- memory y after a turn of m with the byte e on z: it holds the next machine, or only the number is new
  pub data Turned (e : ℕ) (z y : State) : Type 0 where
    turned : {m' : Machine} → Ready p counts list items spans m' y → command p (chosen (holders m) e) m ≡ next m'
        → ((es : List ℕ) → Visits p m (e ∷ es) m' es)
        → Turned e z y
    failed : {n : ℕ} → y ≡ refused n z → (n ≡ full) ⊎ (n ≡ exceeded) → ((es : List ℕ) → run p m (e ∷ es) ≡ stopped n 0 m) → Turned e z y

  -- memory after moves of m: it holds the machine then
  abbrev pub Moving : State → Type 0
  Moving z = (m' : Machine) × (Ready p counts list items spans m' z) × ((es : List ℕ) → Visits p m es m' es)

  -- memory after all moves of m that need no turn: some instance holds commands, or the run has ended
  pub data Settles (z : State) : Type 0 where
    held : {m' : Machine} → Ready p counts list items spans m' z → 0 < z.machine.holding → ((es : List ℕ) → Visits p m es m' es) → Settles z
    still : {m' : Machine} → Ready p counts list items spans m' z → z.machine.holding ≡ 0 → ((es : List ℕ) → Visits p m es m' es)
        → ((es : List ℕ) → run p m' es ≡ stopped ended 0 m')
        → Settles z

  -- memory after i turns and the moves behind them: it holds a machine that the run passes through, at which the run goes on or is over
  pub data Running (es : List ℕ) (i : ℕ) (z : State) : Type 0 where
    going : {m' : Machine} → Ready p counts list items spans m' z → 0 < z.machine.holding → Visits p m es m' (drop i es) → Running es i z
    over : {m' : Machine} → Ready p counts list items spans m' z → z.machine.holding ≡ 0 → Visits p m es m' (drop i es)
        → run p m es ≡ stopped ended i m'
        → Running es i z

  -- memory after i turns, before the schedule moves: it holds a machine that the run passes through
  pub record Reached (es : List ℕ) (i : ℕ) (z : State) : Type 0 where
    pub machine : Machine
    pub ready : Ready p counts list items spans machine z
    pub visits : Visits p m es machine (drop i es)

  -- memory after the whole run
  pub record Ended (es : List ℕ) (number taken : ℕ) (z : State) : Type 0 where
    pub last : Machine
    pub reached : Visits p m es last (drop taken es)
    pub returns : run p m es ≡ stopped number taken last
    pub ready : Ready p counts list items spans last (cleared z)

-- there is a program and a machine that memory is ready for
pub record Begun (counts list items spans : List ℕ) (z : State) : Type 0 where
  pub program : Program
  pub machine : Machine
  pub ready : Ready program counts list items spans machine z

-- the same of a machine's numbers and its heads, whatever its commands and cells are
pub record Standing (items spans heads : List ℕ) (n : Numbers) : Type 0 where
  pub counts : List ℕ
  pub list : List ℕ
  pub cells : List ℕ
  pub begun : Begun counts list items spans (state_of n heads cells)

-- what the code of the moves promises, of every program and machine that the first memory is ready for: the second is where moves
-- have led
abbrev pub Led : List ℕ → List ℕ → State → State → Type 0
Led items spans z y =
    (p : Program) (counts list : List ℕ) (m : Machine) → Ready p counts list items spans m z → Moving p counts list items spans m y

-- and where all of them lead
abbrev pub Settling : List ℕ → List ℕ → State → State → Type 0
Settling items spans z y =
    (p : Program) (counts list : List ℕ) (m : Machine) → Ready p counts list items spans m z → Settles p counts list items spans m y

-- what the code of the run promises, of every program and machine that the first memory is ready for: where the run ends
abbrev pub Ending : List ℕ → List ℕ → List ℕ → List ℕ → List ℕ → State → ℕ → ℕ → State → Type 0
Ending counts list items spans es z number taken y =
    (p : Program) (m : Machine) → Ready p counts list items spans m z → Ended p counts list items spans m es number taken y

-- where i turns and the moves behind them have led: y
abbrev pub Gone : List ℕ → List ℕ → List ℕ → List ℕ → List ℕ → State → ℕ → State → Type 0
Gone counts list items spans es z i y =
    (p : Program) (m : Machine) → Ready p counts list items spans m z → Running p counts list items spans m es i y

-- and where i turns have led without the moves behind them
abbrev pub Come : List ℕ → List ℕ → List ℕ → List ℕ → List ℕ → State → ℕ → State → Type 0
Come counts list items spans es z i y =
    (p : Program) (m : Machine) → Ready p counts list items spans m z → Reached p counts list items spans m es i y
