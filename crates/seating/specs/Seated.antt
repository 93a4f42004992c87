-- What an entry on images stands on before it acts (01, 'Numbers from the input'): an accepted program in memory, and a machine in memory beside it. A table
-- is one way to be seated.
use Rattle.std.specs.Prelude.{ℕ, ◌+◌, ◌*◌, ◌≤◌, ◌≡◌, List, length, take, Result, Ok, Err}
use Rattle.types.specs.Limits.{max_structs, max_params, max_commands, schedule_items}
use Rattle.types.specs.Stages.{Stage.went as table, Stage.stopped as no_table, Stage.went as accepted, Stage.stopped as refused}
use Rattle.types.specs.Refusals.{number}
use Rattle.types.specs.declared.refusal.Refusal.{Refusal}
use Rattle.program.specs.Tree.{Program}
use Rattle.program.specs.Reader.{Result.ok}
use Rattle.commands.specs.Bounds.{arities, program_depth}
use Rattle.directory.specs.Directory.{directory}
use Rattle.directory.specs.Rows.{row_places, rows_from}
use Rattle.emit.specs.Written.{structs_at}
use Rattle.verdict.specs.Verdict.{checked, listed}
use Rattle.judge.specs.ProgramFacts.{types_table}
use Rattle.table.specs.Table.{Record}
use Rattle.machine.specs.Published.{of_items}
use Rattle.machine.specs.Machine.{Machine}
use Rattle.run.specs.Begin.{begin}
use Rattle.run.specs.Entry.{tabled}
use Rattle.sound.specs.Invariant.{Good}
use Rattle.sound.specs.Tabled.{Tabled as Started}
use Rattle.layout.specs.declared.Numbers.{Numbers}
use Rattle.layout.specs.State.{state_of}
use Rattle.memory.specs.Choose.{Kept}
use Rattle.memory.specs.Plan.{At}
use Rattle.memory.specs.Stands.{Stands}
use Rattle.load.specs.Load.{Admitted}
use Rattle.table_read.specs.Params.{Tables}
use Rattle.seating.specs.declared.Opened.{Opened}
use Rattle.seating.specs.declared.Seat.{Seat}

-- An accepted program in memory --------------------------------------------------------

-- bytes of its stream, at most: five for a command, three for an item of the schedule, and what structs and steps take; 5,730
abbrev pub most_bytes : ℕ
most_bytes = 2 + 26 * max_structs + 5 * max_commands + 3 * schedule_items

-- its stream, the numbers that it was loaded as, its parameters, and the rows of its step directory
pub record Opens (o : Opened) (s rows : List ℕ) (p : Program) : Type 0 where
  pub admitted : Admitted s (take o.loaded.structs o.counts) o.loaded.at p
  pub typed : take (max_params * o.loaded.structs) o.types ≡ types_table p.params
  pub planned : structs_at (arities p) s (length (arities p)) o.loaded.at ≡ ok p.steps o.loaded.plan
  pub listed : rows_from rows 0 o.loaded.steps ≡ directory p
  pub deep : o.loaded.depth ≡ program_depth p
  pub few : o.loaded.structs ≤ max_structs
  pub wide : (length o.counts ≡ max_structs) × (length o.types ≡ max_structs * max_params)
  pub long : row_places * o.loaded.steps ≤ length rows

-- its parameters as two tables: for each struct how many, and eight places with the bytes of their types
abbrev pub counts_of : Opened → List ℕ
counts_of o = take o.loaded.structs o.counts

abbrev pub types_of : Opened → List ℕ
types_of o = take (max_params * o.loaded.structs) o.types

abbrev pub Tabled : Opened → Type 0
Tabled o = Tables (counts_of o) (types_of o)

abbrev pub Opening : Opened → List ℕ → List ℕ → Type 0
Opening o s rows = (p : Program) × (Opens o s rows p)

-- the image x is refused by a number, or its program is opened, with its stream in the front of s
abbrev pub OpensImage : List ℕ → Result Opened Refusal → List ℕ → List ℕ → Type 0
OpensImage x (Err n) s rows = checked x ≡ refused (number n)
OpensImage x (Ok o) s rows =
    (p : Program) × (checked x ≡ accepted p) × (o.loaded.length ≤ length s) × (Opens o (take o.loaded.length s) rows p)

-- of some stream, its parameters alone
pub record Admits (s counts types : List ℕ) (at : ℕ) (p : Program) : Type 0 where
  pub admitted : Admitted s counts at p
  pub typed : types ≡ types_table p.params

abbrev pub Admitting : List ℕ → List ℕ → ℕ → Type 0
Admitting counts types at = (s : List ℕ) × (p : Program) × (Admits s counts types at p)

-- A machine in memory ------------------------------------------------------------------

-- where the steps of its program begin, and its numbers
abbrev pub seat_of : ℕ → Numbers → Seat
seat_of at n = record { at = at; numbers = n }

-- beside the accepted program p, lent memory and the seat's numbers hold the machine m of a run, wherever the schedule is laid flat and
-- whatever the list held before the commands
pub record Seated (s counts : List ℕ) (seat : Seat) (heads cells : List ℕ) (p : Program) (m : Machine) : Type 0 where
  pub admitted : Admitted s counts seat.at p
  pub good : Good p m
  pub tabled : Started p m.instances
  pub kept : Kept (state_of seat.numbers heads cells)
  pub counting : seat.numbers.from ≡ m.from
  pub stands : (list items : List ℕ) → At items 0 (of_items p.schedule) → Stands (listed p list) (At items) m (state_of seat.numbers heads cells)

abbrev pub Seating : List ℕ → List ℕ → Seat → List ℕ → List ℕ → Type 0
Seating s counts seat heads cells = (p : Program) × (m : Machine) × (Seated s counts seat heads cells p m)

-- The machine that a table begins with ---------------------------------------------------

-- under p the table image y is refused with that number, or the machine that its records begin with is seated
abbrev pub SeatedTable : List ℕ → List ℕ → Program → List ℕ → Result Seat ℕ → List ℕ → List ℕ → Type 0
SeatedTable s counts p y (Err n) heads cells = tabled p.params y ≡ no_table n
SeatedTable s counts p y (Ok z) heads cells =
    (rs : List Record) × (tabled p.params y ≡ table rs) × (Seated s counts z heads cells p (begin p rs))

-- whatever program is admitted
abbrev pub SeatsTable : ℕ → List ℕ → List ℕ → List ℕ → Result Seat ℕ → List ℕ → List ℕ → Type 0
SeatsTable at counts types y r heads cells = (s : List ℕ) (p : Program) → Admits s counts types at p → SeatedTable s counts p y r heads cells
