-- A run between two turns (01, 'Table and turns'): what the code keeps of it, what a turn makes of it, and what a passage of turns promises.
use Rattle.std.specs.Prelude.{ℕ, ◌+◌, ◌%◌, ◌<◌, ◌≤◌, ◌≡◌, Bool, true, false, List, length, get_or, eqb, leb, Some, None}
use Rattle.std.specs.Option.{is_some}
use Rattle.machine.specs.Stops.{out_of_turns}
use Rattle.layout.specs.Layout.{holds}
use Rattle.layout.specs.State.{State, state_of}
use Rattle.memory.specs.Act.{act}
use Rattle.holders.specs.declared.Record.{Record}
use Rattle.holders.specs.Records.{Recorded, holder_in}
use Rattle.engine.specs.declared.Machine.{Machine}
use Rattle.interpreter.specs.declared.turns.Going.{Going}
use Rattle.interpreter.specs.Running.{Begun, Ending, Gone, Come}

-- What a turn makes of it ---------------------------------------------------------

-- behind i turns no turn is due: the number is x
abbrev pub rests : Machine → ℕ → Record → ℕ → Going
rests m i a x = record { machine = m; taken = i; number = x; pick = None; actor = a }

-- or one is, whose byte picks the r-th of the holders
abbrev pub waits : Machine → ℕ → Record → ℕ → Going
waits m i a r = record { machine = m; taken = i; number = 0; pick = Some r; actor = a }

-- where nobody holds commands it has the machine's number; where no byte is left, 33
unfoldable pub going_at : List ℕ → Machine → ℕ → Record → Going
going_at es m i a =
    elim (eqb m.numbers.holding 0) [
      | true ↦ rests m i a m.numbers.number
      | false ↦ elim (leb (length es) i) [ true ↦ rests m i a out_of_turns | false ↦ waits m i a (get_or es i 0 % m.numbers.holding) ]
    ]

-- behind a command that made the machine m, by whether its actor still holds commands; a refused one stops the run with its number
unfoldable pub behind : List ℕ → Going → Machine → Bool → Going
behind es s m t =
    elim (eqb m.numbers.number 0) [
      | true ↦ going_at es m (s.taken + 1) (record { holds = t })
      | false ↦ rests m s.taken s.actor m.numbers.number
    ]

-- a turn of instance l
pub record Takes (list counts es : List ℕ) (l : ℕ) (s : Going) (h c : List ℕ) (r : Going) (h' c' : List ℕ) : Type 0 where
  pub machine : Machine
  pub acted : state_of machine.numbers h' c' ≡ act list counts l (state_of s.machine.numbers h c)
  pub goes : r ≡ behind es s machine (holds h' l)

-- What the turns need and promise -------------------------------------------------

-- whether a turn is due
abbrev pub is_due : Going → Bool
is_due s = is_some s.pick

-- a turn is due, and its byte picks a holder
pub record Due (es : List ℕ) (s : Going) : Type 0 where
  pub someone : 0 < s.machine.numbers.holding
  pub byte : s.taken < length es
  pub picks : s.pick ≡ Some (get_or es s.taken 0 % s.machine.numbers.holding)

abbrev pub memory_of : Going → List ℕ → List ℕ → State
memory_of s h c = state_of s.machine.numbers h c

-- whom the search among the records finds, where the r-th of the holders is picked
abbrev pub searched : Going → ℕ → List Record → ℕ
searched s r rs = holder_in rs s.machine.numbers.count s.machine.numbers.from r

-- memory is ready for it, and rs has the records of the instances
pub record Turning (list counts es : List ℕ) (s : Going) (rs : List Record) (h c : List ℕ) : Type 0 where
  pub items : List ℕ
  pub spans : List ℕ
  pub begun : Begun counts list items spans (memory_of s h c)
  pub due : Due es s
  pub recorded : Recorded h s.machine.numbers.count rs

-- a run from memory z, where no more turn is due: nobody holds commands, or it stops with a number
pub record Went (counts list items spans es : List ℕ) (z : State) (s : Going) (y : State) : Type 0 where
  pub nobody : s.number ≡ 0 → (s.machine.numbers.holding ≡ 0) × Come counts list items spans es z s.taken y
  pub over : (s.number ≡ 0 → ⊥) → Ending counts list items spans es z s.number s.taken y

-- the turns from s on have led to r, whatever schedule is left and whichever memory the run began with
pub record Passes (list counts es : List ℕ) (s : Going) (h c : List ℕ) (r : Going) (h' c' : List ℕ) : Type 0 where
  pub rest : is_due r ≡ false
  pub more : r.number ≡ 0 → s.taken < r.taken
  pub within : r.taken ≤ length es
  pub went : (items spans : List ℕ) (z : State) → Gone counts list items spans es z s.taken (memory_of s h c)
      → Went counts list items spans es z r (memory_of r h' c')
