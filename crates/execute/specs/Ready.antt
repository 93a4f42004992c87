-- What the code of a command by its kind is handed (01, 'The words of demand 3').
use Rattle.std.specs.Prelude.{ℕ, ◌*◌, ◌%◌, ◌<◌, ◌≤◌, ◌≡◌, List, length, get_or}
use Rattle.types.specs.Limits.{max_instances}
use Rattle.layout.specs.Layout.{head, head_size, row_size, next_of, end_of, operand}
use Rattle.layout.specs.State.{State, state_of, fresh}
use Rattle.memory.specs.Fit.{Needed}

-- what `Fit` says of every command: the actor, the size of memory, and a next command
pub record Room (h c : List ℕ) (l : ℕ) : Type 0 where
  pub chosen : l < max_instances
  pub heads_long : length h ≡ head_size * max_instances
  pub cells_long : length c ≡ row_size * max_instances
  pub next : get_or h (head l next_of) 0 < get_or h (head l end_of) 0

-- heads and cells alone, as a state with every instance there: what a command needs is read off it
abbrev pub memory : List ℕ → List ℕ → State
memory h c = state_of (fresh max_instances) h c

-- what the command w finds, where instance l of n takes it: what its kind needs
pub record Ready (counts h c : List ℕ) (l n w : ℕ) : Type 0 where
  pub room : Room h c l
  pub among : l < n
  pub least : 1 ≤ w % 256
  pub greatest : w % 256 ≤ 8
  pub needed : Needed counts l (memory h c) (w % 256) (operand w)
