-- What the code of a command is handed, and what its answer says (01, 'Table and turns'): the code holds heads and cells alone, and
-- tells by its answer what becomes of the rest of the state.
use Rattle.std.specs.Prelude.{ℕ, suc, ◌+◌, ◌-◌, ◌*◌, ◌<◌, ◌≡◌, List, length, get_or, Result, Ok, Err}
use Rattle.types.specs.Limits.{max_instances}
use Rattle.types.specs.Refusals.{number}
use Rattle.types.specs.declared.refusal.Refusal.{Refusal}
use Rattle.layout.specs.Layout.{head_size, head_end, row_size, head, height_of, next_of, stacked}
use Rattle.layout.specs.State.{State, with_heads, with_cells, with_count, times, unstable, refused}
use Rattle.execute_stack.specs.declared.Actor.{Actor}
use Rattle.execute_stack.specs.declared.Effect.{Effect}
use Rattle.execute_stack.specs.declared.Effect.TheVariants.{Kept, Wrote, Made}

-- the actor as memory has it
abbrev pub seen : List ℕ → ℕ → Actor
seen h l = record { label = l; height = get_or h (head l height_of) 0; next = get_or h (head l next_of) 0 }

-- memory of its size, in which a is one of the instances; behind its command there is a place
pub record Acting (h c : List ℕ) (a : Actor) : Type 0 where
  pub chosen : a.label < max_instances
  pub heads_long : length h ≡ head_size * max_instances
  pub cells_long : length c ≡ row_size * max_instances
  pub height : a.height ≡ get_or h (head a.label height_of) 0
  pub next : a.next ≡ get_or h (head a.label next_of) 0
  pub more : a.next + 1 < head_end

-- the cell on top of the actor's stack, and the one beneath it
abbrev pub topmost : List ℕ → Actor → ℕ
topmost c a = get_or c (stacked a.label (a.height - 1)) 0

abbrev pub second : List ℕ → Actor → ℕ
second c a = get_or c (stacked a.label (a.height - 2)) 0

-- a state with these heads and cells
abbrev pub on : State → List ℕ → List ℕ → State
on z h c = with_cells (with_heads z h) c

-- what a command answers: what it did, or why it was refused
abbrev pub Answer : Type 0
Answer = Result Effect Refusal

-- what an answer makes of the rest of the state
unfoldable pub answering : Answer → State → State
answering (Ok Kept) z = z
answering (Ok (Wrote t)) z = times t z
answering (Ok Made) z = unstable (with_count z (suc z.machine.count))
answering (Err r) z = refused (number r) z

-- with the answer r, the heads h and the cells c become h' and c' as f has it, whatever the rest of the state is
abbrev pub Does : (State → State) → Answer → List ℕ → List ℕ → List ℕ → List ℕ → Type 0
Does f r h c h' c' = (z : State) → answering r (on z h' c') ≡ f (on z h c)

-- the same of a state with n instances
abbrev pub DoesWith : ℕ → (State → State) → Answer → List ℕ → List ℕ → List ℕ → List ℕ → Type 0
DoesWith n f r h c h' c' = (z : State) → z.machine.count ≡ n → answering r (on z h' c') ≡ f (on z h c)
