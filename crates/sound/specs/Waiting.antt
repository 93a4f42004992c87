-- How long an instance waits for its turn (02, 'Turns that go round').
use Rattle.std.specs.Prelude.{ℕ, ◌<◌, ◌≡◌, ◌⊎◌, List, ◌∷◌}
use Rattle.std.proofs.Math.Option.{Option, some}
use Rattle.program.specs.Tree.{Program}
use Rattle.machine.specs.Machine.{Machine}
use Rattle.machine.specs.Stops.{full, exceeded}
use Rattle.run.specs.Turns.{chosen}
use Rattle.run.specs.Holders.{holders}
use Rattle.run.specs.Steps.{Steps}
use Rattle.run.specs.Visits.{Acts}
use Rattle.sound.specs.Conditions.{Condition}

-- a step of a run in which instance l takes no command: a move of the schedule, or a turn of another
pub record Passes (p : Program) (l : ℕ) (m : Machine) (a : Option ℕ) (m' : Machine) : Type 0 where
  pub acts : Acts p m a m'
  pub other : (e : ℕ) → a ≡ some e → chosen (holders m) e ≡ l → ⊥

-- from a machine, with these bytes, instance l takes a command within n turns: fewer than n pass it by, and the byte after them is its own
pub record ActsWithin (p : Program) (l n : ℕ) (m : Machine) (es : List ℕ) : Type 0 where
  pub turns : ℕ
  pub few : turns < n
  pub place : Machine
  pub byte : ℕ
  pub left : List ℕ
  pub waited : Steps (Passes p l) m es turns place (byte ∷ left)
  pub own : chosen (holders place) byte ≡ l
  pub after : Machine
  pub acts : Acts p place (some byte) after

-- the run stops with 34 or 35 before: fewer than n turns pass l by, and there the condition of that number holds
pub record StopsBefore (p : Program) (l n : ℕ) (m : Machine) (es : List ℕ) : Type 0 where
  pub turns : ℕ
  pub few : turns < n
  pub place : Machine
  pub left : List ℕ
  pub waited : Steps (Passes p l) m es turns place left
  pub stops : Condition place left full ⊎ Condition place left exceeded
