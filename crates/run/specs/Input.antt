-- The conditions of the numbers from the input, and their order (01, 'Numbers from the input'): those of a run, beside those of a program image
-- (`ProgramInput`). Those of 11 and 12 speak of the fields of a table's stream: nothing here speaks of reading.
use Rattle.std.specs.Prelude.{ℕ, ◌*◌, ◌<◌, ◌≤◌, ◌≡◌, List, [], ◌∷◌, ◌++◌, length}
use Rattle.types.specs.Limits.{table_blocks, max_commands, max_turns}
use Rattle.types.specs.Orders.{Order}
use Rattle.block.specs.Block.{block_size}
use Rattle.blocks.specs.Images.{stream}
use Rattle.program.specs.Tree.{Program}
use Rattle.verdict.specs.ProgramInput.{ImageRight, Reads, WrongLength, WrongBlock, ShortList, program_order, AcceptedImage}
use Rattle.table.specs.Table.{Record, TableRight, enc_table}
use Rattle.table.specs.TableFaults.{TableEnds, TableOffends}
use Rattle.run.specs.Entry.{Begun, begun}

-- The conditions ---------------------------------------------------------------------

-- the stream of a table, under that program, ends early or goes on after its end; has an N, a struct byte or a value not allowed
abbrev pub TableWrongEnd : List ℕ → List ℕ → Type 0
TableWrongEnd x y = (p : Program) × (Reads x p) × (TableEnds p.params (stream y))

abbrev pub TableWrongValue : List ℕ → List ℕ → Type 0
TableWrongValue x y = (p : Program) × (Reads x p) × (TableOffends p.params (stream y))

-- the output is under 8,704 bytes; over 65,536 turns are given
abbrev pub ShortOutput : List ℕ → Type 0
ShortOutput out = length out < block_size * table_blocks

abbrev pub ManyTurns : List ℕ → Type 0
ManyTurns es = max_turns < length es

-- Their order ------------------------------------------------------------------------

-- Lowest number first. Within 11 and 12 the first place decides, as within 2 and 3 and within 4 and 5: at most one of the two holds, so that
-- which of them stands before the other says nothing.

-- of a table image, under the program of the image before it
abbrev pub table_order : List ℕ → List ℕ → Order
table_order x y = (9, WrongLength table_blocks y) ∷ (10, WrongBlock y) ∷ (11, TableWrongEnd x y) ∷ (12, TableWrongValue x y) ∷ []

-- of turn bytes, output and list
abbrev pub room_order : List ℕ → List ℕ → List ℕ → Order
room_order es out list = (13, ShortOutput out) ∷ (13, ShortList list) ∷ (14, ManyTurns es) ∷ []

-- of what a run is given: program image, table image, turn bytes, output and list
abbrev pub run_order : List ℕ → List ℕ → List ℕ → List ℕ → List ℕ → Order
run_order x y es out list = program_order x ++ table_order x y ++ room_order es out list

-- What is accepted -----------------------------------------------------------------------

-- a table image that is accepted under a program
pub record TableAccepted (p : Program) (y : List ℕ) (rs : List Record) : Type 0 where
  pub image : ImageRight table_blocks y
  pub right : TableRight p.params rs
  pub bytes : stream y ≡ enc_table rs

-- a run that may begin
pub record Runnable (x y es out list : List ℕ) (p : Program) (rs : List Record) : Type 0 where
  pub program : AcceptedImage x p
  pub table : TableAccepted p y rs
  pub output_room : block_size * table_blocks ≤ length out
  pub list_room : max_commands ≤ length list
  pub turns_few : length es ≤ max_turns

-- the program and the table of an answer, ready to run
abbrev pub Began : List ℕ → List ℕ → List ℕ → List ℕ → List ℕ → Begun → Type 0
Began x y es out list b = (p : Program) × (rs : List Record) × (b ≡ begun p rs) × (Runnable x y es out list p rs)
