-- How a table lies in memory (01, 'Table and turns'): the null instances and behind them the records, each with its four numbers, and
-- the cells of its parameters. Whatever else stands there, stays.
use Rattle.std.specs.Prelude.{ℕ, suc, ◌*◌, List, [], ◌∷◌, ◌++◌, map, get_or, set}
use Rattle.std.proofs.lemmas.List.Edits.{sets}
use Rattle.types.specs.Limits.{max_params}
use Rattle.types.specs.Types.{Ty}
use Rattle.types.specs.Values.{Val, default, word}
use Rattle.table.specs.Table.{Record}
use Rattle.layout.specs.Layout.{head_size, row_size, cell, new_head}

-- the cell i with a value, under the byte of its type
abbrev pub value_laid : List ℕ → ℕ → ℕ → Val → List ℕ
value_laid c i t v = set c i (cell t (word v))

-- the cells of values, under the bytes that stand from a place on
unfoldable pub cells_of : List ℕ → ℕ → List Val → List ℕ
cells_of ts i [] = []
cells_of ts i (v ∷ vs) = cell (get_or ts i 0) (word v) ∷ cells_of ts (suc i) vs

-- cells with these values from the place a on
abbrev pub values_laid : List ℕ → ℕ → List ℕ → ℕ → List Val → List ℕ
values_laid ts i c a vs = sets c a (cells_of ts i vs)

-- a record as the instance l
abbrev pub head_laid : List ℕ → ℕ → Record → List ℕ
head_laid h l r = sets h (head_size * l) (new_head r.struct)

abbrev pub row_laid : List ℕ → List ℕ → ℕ → Record → List ℕ
row_laid ts c l r = values_laid ts (max_params * r.struct) c (row_size * l) r.values

-- records as the instances from l on
unfoldable pub heads_laid : List ℕ → ℕ → List Record → List ℕ
heads_laid h l [] = h
heads_laid h l (r ∷ rs) = heads_laid (head_laid h l r) (suc l) rs

unfoldable pub rows_laid : List ℕ → List ℕ → ℕ → List Record → List ℕ
rows_laid ts c l [] = c
rows_laid ts c l (r ∷ rs) = rows_laid ts (row_laid ts c l r) (suc l) rs

-- the null instances of the structs from k on, as records
unfoldable pub null_records : ℕ → List (List Ty) → List Record
null_records k [] = []
null_records k (ps ∷ pss) = record { struct = k; values = map default ps } ∷ null_records (suc k) pss

-- every instance that a run begins with, as a record
abbrev pub all_records : List (List Ty) → List Record → List Record
all_records pss rs = null_records 0 pss ++ rs

-- both lists of memory
abbrev pub record_laid : List ℕ → List ℕ → List ℕ → ℕ → Record → List ℕ × List ℕ
record_laid ts h c l r = (head_laid h l r, row_laid ts c l r)

abbrev pub records_laid : List ℕ → List ℕ → List ℕ → ℕ → List Record → List ℕ × List ℕ
records_laid ts h c l rs = (heads_laid h l rs, rows_laid ts c l rs)
