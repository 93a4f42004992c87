-- How a machine stands in the memory that a run is lent (01, 'Table and turns'): six numbers for each instance in `heads`, and
-- thirty-two cells, sixteen for its variables and sixteen for its stack, in `cells`. A cell holds a value as the command list holds
-- `push T V`, so that a push copies.
use Rattle.std.specs.Prelude.{ℕ, ◌+◌, ◌*◌, ◌/◌, ◌%◌, Bool, List, [], ◌∷◌, get_or, set, ltb}
use Rattle.types.specs.Limits.{nat_end, variables}
use Rattle.types.specs.Types.{struct_code}
use Rattle.commands.specs.Coding.{coded}

-- the numbers of an instance, two bytes each: its struct, the height of its stack, the place of its next command, the end of its commands;
-- its owner (02, section 12) and its mark of an iterator (02, section 10)
abbrev pub head_size : ℕ
head_size = 6

abbrev pub head_end : ℕ
head_end = 65536

abbrev pub struct_of : ℕ
struct_of = 0

abbrev pub height_of : ℕ
height_of = 1

abbrev pub next_of : ℕ
next_of = 2

abbrev pub end_of : ℕ
end_of = 3

abbrev pub owner_of : ℕ
owner_of = 4

abbrev pub pending_of : ℕ
pending_of = 5

-- number f of instance l
abbrev pub head : ℕ → ℕ → ℕ
head l f = head_size * l + f

-- variable x of instance l, and its stack's value with h below it
abbrev pub row_size : ℕ
row_size = 32

abbrev pub variable : ℕ → ℕ → ℕ
variable l x = row_size * l + x

abbrev pub stacked : ℕ → ℕ → ℕ
stacked l h = row_size * l + variables + h

-- a cell by type byte and word; its parts
abbrev pub cell : ℕ → ℕ → ℕ
cell t w = coded 1 t w

abbrev pub type_byte : ℕ → ℕ
type_byte c = c / 256 % 256

abbrev pub operand : ℕ → ℕ
operand c = c / nat_end

-- the label l of struct k
abbrev pub label_cell : ℕ → ℕ → ℕ
label_cell k l = cell (struct_code + k) l

-- instance l holds commands
abbrev pub holds : List ℕ → ℕ → Bool
holds heads l = ltb (get_or heads (head l next_of) 0) (get_or heads (head l end_of) 0)

-- What is written to the numbers of an instance -------------------------------------

-- those of a new instance of struct k: an empty stack, no commands, no owner, no mark
abbrev pub new_head : ℕ → List ℕ
new_head k = k ∷ 0 ∷ 0 ∷ 0 ∷ 0 ∷ 0 ∷ []

-- instance l goes on at the command n, with h values on its stack
abbrev pub going : List ℕ → ℕ → ℕ → ℕ → List ℕ
going hs l h n = set (set hs (head l height_of) h) (head l next_of) n

-- instance l has an empty stack and the commands from a to e
abbrev pub begun : List ℕ → ℕ → ℕ → ℕ → List ℕ
begun heads l a e = set (set (set heads (head l height_of) 0) (head l next_of) a) (head l end_of) e
