-- The trace of a run (01, 'Table and turns', 'The words of demand 3'): a line for each move of the schedule and each turn, with the machine before it and
-- the one after it. A refused command has no line: it changes nothing.
use Rattle.std.specs.Prelude.{ℕ, zero, suc, Bool, true, false, List, [], ◌∷◌, ◌++◌}
use Rattle.program.specs.Tree.{Program}
use Rattle.machine.specs.Machine.{Machine, Out, Out.next, Out.refused, Out.stuck, Moved, Moved.next, Moved.stuck, command, move}
use Rattle.run.specs.Turns.{chosen}
use Rattle.run.specs.Holders.{holders, due}
use Rattle.run.specs.Steps.{Steps, Steps.here, Steps.silent, Steps.reads}
use Rattle.run.specs.Visits.{Acts}
use Rattle.run.specs.Run.{Settled, Settled.hold, Settled.stop, is_done, settle, fuel}

pub data Line : Type 0 where
  -- a move of the schedule
  moved : Machine → Machine → Line
  -- a turn: its byte, and the label that the byte picked
  acted : ℕ → ℕ → Machine → Machine → Line

-- the lines of a way of small steps: one for each
unfoldable pub lines_of : {p : Program} {m z : Machine} {es fs : List ℕ} {t : ℕ} → Steps (Acts p) m es t z fs → List Line
lines_of here = []
lines_of (silent {c = c} {d = d} s v) = moved c d ∷ lines_of v
lines_of (reads {c = c} {d = d} {e = e} s v) = acted e (chosen (holders c) e) c d ∷ lines_of v

-- The executable trace ---------------------------------------------------------

unfoldable pub move_line : (Machine → List Line) → Machine → Moved → List Line
move_line k m (next m') = moved m m' ∷ k m'
move_line k m stuck = []

unfoldable pub moves_by : (Machine → List Line) → Program → Machine → Bool → List Line
moves_by k p m false = []
moves_by k p m true = elim (is_done m.sched) [ true ↦ [] | false ↦ move_line k m (move p m) ]

-- the schedule's moves, as `settle` makes them
unfoldable pub moves : Program → ℕ → Machine → List Line
moves p zero m = []
moves p (suc f) m = moves_by (λ m'. moves p f m') p m (due m)

-- a turn, and on by k
unfoldable pub turn_line : (Machine → List Line) → ℕ → ℕ → Machine → Out → List Line
turn_line k e l m (next m') = acted e l m m' ∷ k m'
turn_line k e l m (refused n) = []
turn_line k e l m stuck = []

unfoldable pub turn_lines : (Machine → List Line) → Program → ℕ → Settled → List Line
turn_lines k p e (hold m) = turn_line k e (chosen (holders m) e) m (command p (chosen (holders m) e) m)
turn_lines k p e (stop o) = []

-- of a whole list of bytes, as `run` takes them
unfoldable pub trace : Program → Machine → List ℕ → List Line
trace p m [] = moves p (fuel m) m
trace p m (e ∷ es) = moves p (fuel m) m ++ turn_lines (λ m'. trace p m' es) p e (settle p (fuel m) m)

-- nothing behind an act
abbrev pub alone : Machine → List Line
alone m = []

-- Read off lines ---------------------------------------------------------------

-- the machine behind the last
unfoldable pub last_of : Machine → List Line → Machine
last_of m [] = m
last_of m (moved c d ∷ ls) = last_of d ls
last_of m (acted e l c d ∷ ls) = last_of d ls

-- how many are turns, and how many moves
unfoldable pub turn_count : List Line → ℕ
turn_count [] = 0
turn_count (moved c d ∷ ls) = turn_count ls
turn_count (acted e l c d ∷ ls) = suc (turn_count ls)
