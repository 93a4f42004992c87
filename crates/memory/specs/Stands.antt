-- When memory holds a machine (01, 'Table and turns'): every instance with its struct, commands, stack and variables, the stability
-- entries and the place in the schedule. A cell's type byte says which kind of value it shows.
use Rattle.std.specs.Prelude.{ℕ, suc, ◌-◌, ◌*◌, ◌≤◌, ◌≡◌, Bool, true, false, List, [], ◌∷◌, map, length, get_or, take, drop}
use Rattle.std.proofs.Math.Option.{some}
use Rattle.std.proofs.Math.ListN.{get_elem?}
use Rattle.types.specs.Limits.{max_structs, max_instances}
use Rattle.types.specs.Types.{Ty, IsType, code}
use Rattle.types.specs.Values.{Val, word}
use Rattle.types.specs.TypeBytes.{ValueOf}
use Rattle.commands.specs.Noted.{Note, erase}
use Rattle.commands.specs.Coding.{words}
use Rattle.machine.specs.Published.{Sched, lookup}
use Rattle.machine.specs.Machine.{Tagged, Instance, Machine}
use Rattle.layout.specs.Layout.{head_size, struct_of, height_of, next_of, end_of, row_size, variable, stacked, cell}
use Rattle.layout.specs.State.{State, of_head, of_cell}

-- a cell shows a value, under a type of its kind
pub record Shows (c : ℕ) (v : Val) : Type 0 where
  pub by : Ty
  pub typed : IsType max_structs by
  pub held : ValueOf by v
  pub is : c ≡ cell (code by) (word v)

-- the stack of instance l: each value stands above as many cells as there are values beneath it
abbrev pub Stack : List ℕ → ℕ → List Tagged → Type 0
Stack cells l [] = Unit {0}
Stack cells l (x ∷ χ) = Shows (get_or cells (stacked l (length χ)) 0) x.is × Stack cells l χ

-- the words of commands
abbrev pub note_words : List Note → List ℕ
note_words c = words (map erase c)

pub record Held (list : List ℕ) (z : State) (l : ℕ) (i : Instance) : Type 0 where
  pub struct : of_head z l struct_of ≡ i.struct
  pub height : of_head z l height_of ≡ length i.stack
  pub within : of_head z l end_of ≤ length list
  -- its commands are a part of the list
  pub code : take (of_head z l end_of - of_head z l next_of) (drop (of_head z l next_of) list) ≡ note_words i.code
  pub stack : Stack z.cells l i.stack
  pub vars : (v : ℕ) (x : Val) → lookup i.env v ≡ some x → Shows (of_cell z (variable l v)) x

-- entries as bits, the top one lowest
unfoldable pub bits : List Bool → ℕ
bits [] = 0
bits (true ∷ b) = suc (2 * bits b)
bits (false ∷ b) = 2 * bits b

-- P says which schedules a place stands for
pub record Stands (list : List ℕ) (P : ℕ → Sched → Type 0) (m : Machine) (z : State) : Type 0 where
  pub heads_long : length z.heads ≡ head_size * max_instances
  pub cells_long : length z.cells ≡ row_size * max_instances
  pub counted : z.machine.count ≡ length m.instances
  pub few : z.machine.count ≤ max_instances
  pub each : (l : ℕ) (i : Instance) → get_elem? m.instances l ≡ some i → Held list z l i
  pub opened : z.machine.fixes ≡ length m.stability
  pub entries : z.machine.stable ≡ bits m.stability
  pub scheduled : P z.machine.place m.sched
  pub clear : z.machine.number ≡ 0
