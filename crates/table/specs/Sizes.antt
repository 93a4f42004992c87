-- How long a table stream is (01, 'Table and turns').
use Rattle.std.specs.Prelude.{ℕ, ◌+◌, ◌*◌, List, [], ◌∷◌, length, get_or}
use Rattle.types.specs.Limits.{max_params, max_instances}
use Rattle.types.specs.Types.{Ty}
use Rattle.table.specs.Table.{Record, value_bytes, count_bytes}

-- what stands before the values of a record: its struct byte
abbrev pub head_bytes : ℕ
head_bytes = 1

-- the longest record, and the longest stream
abbrev pub most_record : ℕ
most_record = head_bytes + value_bytes * max_params

abbrev pub most_stream : ℕ
most_stream = count_bytes + most_record * max_instances

module _ (pss : List (List Ty)) where
  -- what stands before the values, and four bytes for each parameter of the struct
  unfoldable pub record_size : Record → ℕ
  record_size r = head_bytes + value_bytes * length (get_or pss r.struct [])

  unfoldable pub records_size : List Record → ℕ
  records_size [] = 0
  records_size (r ∷ rs) = record_size r + records_size rs

  unfoldable pub table_size : List Record → ℕ
  table_size rs = count_bytes + records_size rs
