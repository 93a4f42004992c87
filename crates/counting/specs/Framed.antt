-- What one command changes of memory (02 §14): the rows of its actor and of the instance that it makes, and one variable. Whoever puts these back has the
-- memory from before.
use Rattle.std.specs.Prelude.{ℕ, ◌+◌, ◌-◌, ◌*◌, ◌%◌, ◌<◌, ◌≤◌, ◌≡◌, true, false, List, length, get_or, set, take, drop, eqb, ltb}
use Rattle.std.proofs.lemmas.List.Edits.{sets}
use Rattle.types.specs.Limits.{max_instances}
use Rattle.layout.specs.Layout.{head_size, head, height_of, next_of, row_size, variable, stacked, operand}
use Rattle.layout.specs.declared.Numbers.{Numbers}
use Rattle.layout.specs.State.{State, state_of}
use Rattle.memory.specs.Fit.{Fit}
use Rattle.counting.specs.declared.rows.Saved.{Saved}

-- Places ---------------------------------------------------------------------------------

-- a place in the part of n from i on
abbrev pub InPart : ℕ → ℕ → ℕ → Type 0
InPart i n a = (i ≤ a) × (a < i + n)

-- among the numbers, and among the cells, of instance l
abbrev pub InHead : ℕ → ℕ → Type 0
InHead l a = InPart (head_size * l) head_size a

abbrev pub InRow : ℕ → ℕ → Type 0
InRow l a = InPart (row_size * l) row_size a

-- y is z but for the rows of l and n and the cell at the place r
pub record Framed (z : State) (l n r : ℕ) (y : State) : Type 0 where
  pub heads : (a : ℕ) → (InHead l a → ⊥) → (InHead n a → ⊥) → get_or y.heads a 0 ≡ get_or z.heads a 0
  pub cells : (a : ℕ) → (InRow l a → ⊥) → (InRow n a → ⊥) → (a ≡ r → ⊥) → get_or y.cells a 0 ≡ get_or z.cells a 0
  pub heads_long : length y.heads ≡ length z.heads
  pub cells_long : length y.cells ≡ length z.cells

-- What is kept ---------------------------------------------------------------------------

-- the row that a new instance would get, of so many instances; where there is no label left, that of the actor l
unfoldable pub fresh_row : ℕ → ℕ → ℕ
fresh_row count l = elim (ltb count max_instances) [ true ↦ count | false ↦ l ]

-- the place that a wr of instance l changes; of another command, one in its own row
abbrev pub wr_kind : ℕ
wr_kind = 4

unfoldable pub place_of : ℕ → ℕ → ℕ → ℕ → ℕ
place_of kind q v l = elim (eqb kind wr_kind) [ true ↦ variable q v | false ↦ row_size * l ]

abbrev pub stored_at : List ℕ → List ℕ → List ℕ → ℕ → ℕ
stored_at list heads cells l =
    let w = get_or list (get_or heads (head l next_of) 0) 0 in
    place_of (w % 256) (operand (get_or cells (stacked l (get_or heads (head l height_of) 0 - 1)) 0)) (operand w) l

-- the next command of instance l finds what it needs, whatever the machine's numbers are
abbrev pub Fitting : List ℕ → List ℕ → List ℕ → ℕ → Type 0
Fitting list heads cells l = (counts : List ℕ) × (m : Numbers) × (Fit list counts l (state_of m heads cells))

-- the numbers and the cells of instance l
abbrev pub numbers_of : List ℕ → ℕ → List ℕ
numbers_of heads l = take head_size (drop (head_size * l) heads)

abbrev pub row_of : List ℕ → ℕ → List ℕ
row_of cells l = take row_size (drop (row_size * l) cells)

-- what is kept of memory before a command of l: the rows l and f and the cell at the place r
pub record Saves (heads cells : List ℕ) (l f r : ℕ) (s : Saved) : Type 0 where
  pub actor : s.actor ≡ numbers_of heads l
  pub fresh : s.fresh ≡ numbers_of heads f
  pub row : s.row ≡ row_of cells l
  pub other : s.other ≡ row_of cells f
  pub at : s.at ≡ r
  pub cell : s.cell ≡ get_or cells r 0

-- its arrays have their sizes
pub record Sized (s : Saved) : Type 0 where
  pub actor : length s.actor ≡ head_size
  pub fresh : length s.fresh ≡ head_size
  pub row : length s.row ≡ row_size
  pub other : length s.other ≡ row_size

-- and put back
abbrev pub restored_heads : List ℕ → ℕ → ℕ → Saved → List ℕ
restored_heads heads l f s = sets (sets heads (head_size * f) s.fresh) (head_size * l) s.actor

abbrev pub restored_cells : List ℕ → ℕ → ℕ → Saved → List ℕ
restored_cells cells l f s = set (sets (sets cells (row_size * f) s.other) (row_size * l) s.row) s.at s.cell
