-- How rows of the directory stand in lent memory: four numbers for each, one row behind the other.
use Rattle.std.specs.Prelude.{ℕ, zero, suc, ◌+◌, ◌*◌, ◌≡◌, List, [], ◌∷◌, length, get_or, Option as Maybe, Some, None}
use Rattle.std.proofs.Math.Option.{Option, none, some}
use Rattle.std.proofs.lemmas.List.Edits.{sets}
use Rattle.types.specs.Limits.{max_structs, max_steps}
use Rattle.program.specs.Tree.{Program}
use Rattle.directory.specs.declared.Row.{Row}
use Rattle.directory.specs.Directory.{row, directory}

-- numbers of a row, and of as many rows as a program may have
abbrev pub row_places : ℕ
row_places = 4

abbrev pub directory_places : ℕ
directory_places = row_places * (max_structs * max_steps)

-- rows are written from row i on
unfoldable pub put_row : List ℕ → ℕ → Row → List ℕ
put_row l i r = sets l (row_places * i) (r.structure ∷ r.name ∷ r.start ∷ r.size ∷ [])

unfoldable pub put_rows : List ℕ → ℕ → List Row → List ℕ
put_rows l i [] = l
put_rows l i (r ∷ rs) = put_rows (put_row l i r) (suc i) rs

-- row i, and n rows from it on
unfoldable pub row_at : List ℕ → ℕ → Row
row_at l i = row (get_or l (row_places * i) 0) (get_or l (row_places * i + 1) 0) (get_or l (row_places * i + 2) 0) (get_or l (row_places * i + 3) 0)

unfoldable pub rows_from : List ℕ → ℕ → ℕ → List Row
rows_from l i zero = []
rows_from l i (suc n) = row_at l i ∷ rows_from l (suc i) n

-- the directory of a program stands in front
abbrev pub Listed : List ℕ → Program → Type 0
Listed l p = rows_from l 0 (length (directory p)) ≡ directory p

-- a row that is found, as the code has it
abbrev pub sought : Option Row → Maybe Row
sought none = None
sought (some r) = Some r
