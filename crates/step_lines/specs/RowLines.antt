-- The lines of rows of the step directory, by the words that the list holds at their places (01, 'Bench rows').
use Rattle.std.specs.Prelude.{ℕ, suc, ◌+◌, ◌*◌, ◌≤◌, List, [], ◌∷◌, ◌++◌, length}
use Rattle.program.specs.Encoding.{flat}
use Rattle.program.specs.Counts.{All}
use Rattle.directory.specs.declared.Row.{Row}
use Rattle.directory.specs.Rows.{row_places, rows_from}
use Rattle.directory.specs.Held.{part}
use Rattle.directory.proofs.DirectoryLaws.{RowInRange, sizes}
use Rattle.text.specs.Listing.{line}

-- a line has at most that many bytes
abbrev pub line_most : ℕ
line_most = 111

-- the lines of commands by their words, from position i on, in step n of struct k
unfoldable pub word_lines : ℕ → ℕ → ℕ → List ℕ → List ℕ
word_lines k n i [] = []
word_lines k n i (w ∷ ws) = line k n i w ++ word_lines k n (suc i) ws

-- of a row, and of rows
unfoldable pub row_lines : List ℕ → Row → List ℕ
row_lines list r = word_lines r.structure r.name 0 (part list r)

abbrev pub rows_lines : List ℕ → List Row → List ℕ
rows_lines list rs = flat (row_lines list) rs

-- a row whose commands lie in the list
abbrev pub RowFits : List ℕ → Row → Type 0
RowFits list r = (RowInRange r) × (r.start + r.size ≤ length list)

-- the commands of n rows lie in the list, and there is room for their lines from k on
pub record Listable (rows : List ℕ) (n : ℕ) (list out : List ℕ) (k : ℕ) : Type 0 where
  pub numbers : row_places * n ≤ length rows
  pub fits : All (RowFits list) (rows_from rows 0 n)
  pub room : k + line_most * sizes (rows_from rows 0 n) ≤ length out
