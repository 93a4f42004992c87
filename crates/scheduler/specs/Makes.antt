-- What the code of a move answers (01, 'Table and turns'): it holds the machine's numbers and heads alone.
use Rattle.std.specs.Prelude.{◌≡◌, ℕ, List}
use Rattle.layout.specs.declared.Numbers.{Numbers}
use Rattle.layout.specs.State.{State, state_of}
use Rattle.memory.specs.Move.{move}

-- numbers r that stand for what f makes of every state with the numbers n
abbrev pub Makes : (State → State) → Numbers → Numbers → Type 0
Makes f n r = (h x : List ℕ) → state_of r h x ≡ f (state_of n h x)

-- numbers r and heads h that a move makes of every state with these numbers and heads
abbrev pub Moves : List ℕ → List ℕ → List ℕ → Numbers → Numbers → List ℕ → Type 0
Moves items spans heads n r h = (x : List ℕ) → state_of r h x ≡ move items spans (state_of n heads x)
