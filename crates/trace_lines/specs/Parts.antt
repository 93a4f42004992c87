-- The parts of a trace's lines as memory holds them (docs/FORMAT.md, 'Traces'): the stack's cells, the stability entries, a parameter that is written,
-- the position of a command, the step that a move starts; and how long each may be.
use Rattle.std.specs.Prelude.{ℕ, zero, suc, ◌+◌, ◌-◌, ◌*◌, ◌/◌, ◌%◌, ◌<◌, ◌≤◌, ◌≡◌, true, false, List, [], ◌∷◌, ◌++◌, eqb, ltb, length, get_or, Option, Some, None}
use Rattle.types.specs.Limits.{max_structs, max_depth, fix_levels, first_local, step_names}
use Rattle.types.specs.Types.{struct_code}
use Rattle.layout.specs.Layout.{head, struct_of, height_of, next_of, end_of, row_size, variable, stacked, type_byte, operand}
use Rattle.layout.specs.State.{state_of}
use Rattle.layout.specs.declared.Numbers.{Numbers}
use Rattle.memory.specs.Fit.{Fit}
use Rattle.layout.specs.Codes.{fix_code}
use Rattle.memory.specs.Plan.{from, to}
use Rattle.text.specs.Listing.{decimal, value_text}
use Rattle.trace_lines.specs.declared.writes.Write.{Write}

-- Values -----------------------------------------------------------------------

-- the type byte t of a cell with the operand w; of a label, that of its instance's struct
unfoldable pub tag_of : List ℕ → ℕ → ℕ → ℕ
tag_of heads t w = elim (ltb t struct_code) [ true ↦ t | false ↦ struct_code + get_or heads (head w struct_of) 0 ]

abbrev pub tag : List ℕ → ℕ → ℕ
tag heads c = tag_of heads (type_byte c) (operand c)

-- what a cell shows
abbrev pub worth : ℕ → List ℕ
worth c = value_text (type_byte c) (operand c)

unfoldable pub cell_text : List ℕ → ℕ → List ℕ
cell_text heads c = (32 ∷ []) ++ (decimal (tag heads c) ++ ((58 ∷ []) ++ worth c))

-- of the h lowest cells of the stack of instance l
unfoldable pub cells_text : List ℕ → List ℕ → ℕ → ℕ → List ℕ
cells_text heads cells l zero = []
cells_text heads cells l (suc h) = cells_text heads cells l h ++ cell_text heads (get_or cells (stacked l h) 0)

-- a label's instance stands in memory
pub record CellFits (heads : List ℕ) (c : ℕ) : Type 0 where
  pub row : struct_code ≤ type_byte c → head (operand c) struct_of < length heads
  pub known : struct_code ≤ type_byte c → get_or heads (head (operand c) struct_of) 0 < max_structs

pub record StackFits (heads cells : List ℕ) (l : ℕ) : Type 0 where
  pub row : head l height_of < length heads
  pub low : get_or heads (head l height_of) 0 ≤ max_depth
  pub wide : row_size * l + row_size ≤ length cells
  pub each : (h : ℕ) → h < get_or heads (head l height_of) 0 → CellFits heads (get_or cells (stacked l h) 0)

-- Stability entries ------------------------------------------------------------

-- the n lowest bits, the lowest first
unfoldable pub bit_text : ℕ → ℕ → List ℕ
bit_text zero s = []
bit_text (suc n) s = (48 + s % 2) ∷ bit_text n (s / 2)

unfoldable pub entries_text : ℕ → ℕ → List ℕ
entries_text n s = (32 ∷ 115 ∷ []) ++ bit_text n s

-- What is written --------------------------------------------------------------

abbrev pub no_write : Option Write
no_write = None

-- `wr`, as a word has it
abbrev pub wr_kind : ℕ
wr_kind = 4

-- by the command's word w and the cell t on top, among s structs
unfoldable pub target_by : ℕ → List ℕ → ℕ → ℕ → Option Write
target_by s cells w t =
    elim (eqb (w % 256) wr_kind) [
      | true ↦
          elim (ltb (operand w) first_local) [
            | true ↦
                elim (ltb (operand t) s) [
                  | true ↦ no_write
                  | false ↦ Some (record { label = operand t; variable = operand w; old = get_or cells (variable (operand t) (operand w)) 0 })
                ]
            | false ↦ no_write
          ]
      | false ↦ no_write
    ]

-- by the next command of instance l
unfoldable pub target : List ℕ → ℕ → List ℕ → List ℕ → ℕ → Option Write
target list s heads cells l =
    target_by s cells (get_or list (get_or heads (head l next_of) 0) 0) (get_or cells (stacked l (get_or heads (head l height_of) 0 - 1)) 0)

-- a parameter's label and number; two cells
unfoldable pub place_text : ℕ → ℕ → List ℕ
place_text q x = (32 ∷ []) ++ (decimal q ++ ((46 ∷ []) ++ decimal x))

unfoldable pub values_text : ℕ → ℕ → List ℕ
values_text c d = (32 ∷ []) ++ (worth c ++ ((32 ∷ []) ++ worth d))

-- the parameter with its values before and now
unfoldable pub write_text : List ℕ → Option Write → List ℕ
write_text cells None = []
write_text cells (Some w) = place_text w.label w.variable ++ values_text w.old (get_or cells (variable w.label w.variable) 0)

-- memory in which the next command of instance l finds what it needs
abbrev pub Fitting : List ℕ → List ℕ → List ℕ → List ℕ → ℕ → Type 0
Fitting list counts heads cells l = (n : Numbers) × Fit list counts l (state_of n heads cells)

abbrev pub WriteFits : List ℕ → Option Write → Type 0
WriteFits cells None = Unit {0}
WriteFits cells (Some w) = variable w.label w.variable < length cells

-- Places -----------------------------------------------------------------------

-- the position of the next command of instance l among those of the step n
unfoldable pub position_of : List ℕ → List ℕ → ℕ → ℕ → ℕ
position_of spans heads l n =
    let k = get_or heads (head l struct_of) 0 in
    (to spans k n - from spans k n) - (get_or heads (head l end_of) 0 - get_or heads (head l next_of) 0)

-- the step that runs behind a move from an item, where n did before
unfoldable pub step_at : ℕ → ℕ → ℕ
step_at n item = elim (ltb item fix_code) [ true ↦ item % step_names | false ↦ n ]

-- Lines ------------------------------------------------------------------------

-- from the stack on
unfoldable pub back_text : List ℕ → List ℕ → ℕ → Option Write → ℕ → ℕ → List ℕ
back_text heads cells l w fixes stable =
    cells_text heads cells l (get_or heads (head l height_of) 0)
    ++ ((32 ∷ 93 ∷ []) ++ (write_text cells w ++ (entries_text fixes stable ++ 10 ∷ [])))

pub record BackFits (heads cells : List ℕ) (l : ℕ) (w : Option Write) (fixes : ℕ) : Type 0 where
  pub stack : StackFits heads cells l
  pub write : WriteFits cells w
  pub few : fixes ≤ fix_levels

-- of a move
unfoldable pub move_text : ℕ → ℕ → List ℕ
move_text fixes stable = (109 ∷ 111 ∷ 118 ∷ 101 ∷ []) ++ (entries_text fixes stable ++ 10 ∷ [])

-- Sizes ------------------------------------------------------------------------

-- a cell: a blank, a number, a colon and a value
abbrev pub cell_most : ℕ
cell_most = 43

-- a blank and a label, a point and a number, a blank and a value twice
abbrev pub write_most : ℕ
write_most = 86

-- six columns, a command and the bracket
abbrev pub front_most : ℕ
front_most = 175

abbrev pub back_most : ℕ
back_most = 787

abbrev pub line_most : ℕ
line_most = 1024
