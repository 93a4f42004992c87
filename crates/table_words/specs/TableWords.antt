-- A table stream as numbers (docs/FORMAT.md, 'Tables as text'): for each record its label, its struct and its values, as words of `numbers`: the label
-- marked as the first of a line, a negative Int with the mark of a minus sign. The parameters of the structs stand in two tables of bytes, `cs` how
-- many each has and `ts` eight places with the bytes of their types. A byte that is not there counts as 0: of an accepted table none is missing.
use Rattle.std.specs.Prelude.{ℕ, zero, suc, ◌+◌, ◌*◌, ◌-◌, true, false, List, [], ◌∷◌, ◌++◌, eqb, ltb, get_or}
use Rattle.types.specs.Limits.{int_half, nat_end, max_params}
use Rattle.numbers.specs.Scan.{minus_mark, first_mark}

-- a number of four bytes, the lowest first
abbrev pub quad : List ℕ → ℕ → ℕ
quad s at = get_or s at 0 + 256 * get_or s (at + 1) 0 + 65536 * get_or s (at + 2) 0 + 16777216 * get_or s (at + 3) 0

-- the word of a value with this type byte that stands as this number of four bytes
unfoldable pub value_word : ℕ → ℕ → ℕ
value_word t w = elim (eqb t 0) [
  | true ↦ elim (ltb w int_half) [ true ↦ w | false ↦ minus_mark true + (nat_end - w) ]
  | false ↦ w
]

module _ (ts s : List ℕ) where
  -- n values, the types of which stand from a place on in ts
  unfoldable pub values_words : ℕ → ℕ → ℕ → List ℕ
  values_words i zero at = []
  values_words i (suc n) at = value_word (get_or ts i 0) (quad s at) ∷ values_words (i + 1) n (at + 4)

module _ (cs ts s : List ℕ) where
  -- how many values the record at a place has
  abbrev pub arity_at : ℕ → ℕ
  arity_at at = get_or cs (get_or s at 0) 0

  -- the record at a place, with the label l
  unfoldable pub row_words : ℕ → ℕ → List ℕ
  row_words l at = (first_mark true + l) ∷ get_or s at 0 ∷ values_words ts s (max_params * get_or s at 0) (arity_at at) (at + 1)

  -- n records from a place on, the first of which has the label l
  unfoldable pub rows_words : ℕ → ℕ → ℕ → List ℕ
  rows_words zero l at = []
  rows_words (suc n) l at = row_words l at ++ rows_words n (l + 1) (at + 1 + 4 * arity_at at)

-- the records of a table, behind their number; S null instances stand before them
abbrev pub table_words : List ℕ → List ℕ → ℕ → List ℕ → List ℕ
table_words cs ts S s = rows_words cs ts s (get_or s 0 0 + 256 * get_or s 1 0) S 2
