-- What is told of a turn and of a move (docs/FORMAT.md, 'Traces'), of every program and machine that memory is ready for: the bytes are the lines that
-- `trace` defines, one where the act is made and none where it is refused.
use Rattle.std.specs.Prelude.{ℕ, ◌<◌, ◌≤◌, ◌≡◌, List, take}
use Rattle.types.specs.Limits.{step_names, fix_levels}
use Rattle.program.specs.Tree.{Program}
use Rattle.machine.specs.Machine.{Machine, command, move}
use Rattle.run.specs.Turns.{chosen}
use Rattle.run.specs.Holders.{holders}
use Rattle.layout.specs.State.{State}
use Rattle.interpreter.specs.Ready.{Ready}
use Rattle.interpreter.specs.Running.{Begun}
use Rattle.trace.specs.Trace.{alone, move_line, turn_line}
use Rattle.trace.specs.LineText.{step_name, lines_text}
use Rattle.trace_lines.specs.declared.Coming.{Coming}

-- memory holds a machine of which an instance holds commands, in the step n
pub record Turnable (counts list spans : List ℕ) (n : ℕ) (z : State) : Type 0 where
  pub items : List ℕ
  pub begun : Begun counts list items spans z
  pub held : 0 < z.machine.holding
  pub named : n < step_names
  pub few : z.machine.fixes ≤ fix_levels

-- the first r bytes are what the trace has of the turn
abbrev pub TurnTold : List ℕ → List ℕ → List ℕ → Coming → State → ℕ → List ℕ → Type 0
TurnTold counts list spans turn z r out =
    (p : Program) (items : List ℕ) (m : Machine) → Ready p counts list items spans m z
    → take r out
    ≡ lines_text p turn.step turn.taken
    (turn_line alone turn.byte (chosen (holders m) turn.byte) m (command p (chosen (holders m) turn.byte) m))

-- of the move, and the step that runs then
abbrev pub MoveTold : List ℕ → List ℕ → ℕ → State → ℕ → ℕ → List ℕ → Type 0
MoveTold items spans n z n' r out =
    (p : Program) (counts list : List ℕ) (m : Machine) → Ready p counts list items spans m z
    → (take r out ≡ lines_text p n 0 (move_line alone m (move p m))) × (n' ≡ step_name n m.sched)
