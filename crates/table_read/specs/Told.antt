-- What the readers of a table answer for what is read (01, 'Table and turns', and numbers 11 and 12), and what they leave in memory.
use Rattle.std.specs.Prelude.{ℕ, ◌+◌, ◌≤◌, ◌≡◌, List, [], ◌∷◌, length, Result as Answer, Ok, Err}
use Rattle.program.specs.Reader.{Result, Result.ok, Result.bad, many}
use Rattle.types.specs.Limits.{max_instances}
use Rattle.types.specs.Types.{type_of}
use Rattle.table.specs.Table.{count_bytes}
use Rattle.table.specs.TableReader.{read_value, read_values, read_record, table_number}
use Rattle.table_read.specs.Params.{types_from, lists_of}
use Rattle.table_read.specs.Laid.{value_laid, values_laid, record_laid, records_laid}

-- N, or the number of a refusal
abbrev pub count_told : Result ℕ → Answer ℕ ℕ
count_told (ok n m) = Ok n
count_told (bad p n) = Err (table_number n)

-- N has its two bytes, and there is room for so many instances
abbrev pub Counted : List ℕ → ℕ → {E : Type 0} → Answer ℕ E → Type 0
Counted s S (Ok n) = (count_bytes ≤ length s) × (n + S ≤ max_instances)
Counted s S (Err n) = Unit {0}

-- the next place, with memory x as f makes it of what was read; or the number of a refusal, and memory anyhow
abbrev pub Laid : {A M : Type 0} → (A → M) → Result A → Answer ℕ ℕ → M → Type 0
Laid f (ok a m) r x = (r ≡ Ok m) × (x ≡ f a)
Laid f (bad p n) r x = r ≡ Err (table_number n)

-- the next place lies from there on
abbrev pub Within : List ℕ → ℕ → {E : Type 0} → Answer ℕ E → Type 0
Within s at (Ok m) = (at ≤ m) × (m ≤ length s)
Within s at (Err n) = Unit {0}

-- what the value whose type's byte is b comes to, laid in the cell a
abbrev pub ValueLaid : List ℕ → ℕ → ℕ → List ℕ → ℕ → Answer ℕ ℕ → List ℕ → Type 0
ValueLaid s b at c a r x = Laid (value_laid c a b) (read_value s (type_of b) at) r x

-- what the n values whose types stand from i on come to, laid from the cell a on
abbrev pub ValuesLaid : List ℕ → List ℕ → ℕ → ℕ → ℕ → List ℕ → ℕ → Answer ℕ ℕ → List ℕ → Type 0
ValuesLaid s ts i n at c a r x = Laid (values_laid ts i c a) (read_values s (types_from ts i n) at) r x

-- what a record comes to, laid as the instance l of memory's two lists; n records from it on
abbrev pub RecordLaid : List ℕ → List ℕ → List ℕ → ℕ → List ℕ → List ℕ → ℕ → Answer ℕ ℕ → List ℕ → List ℕ → Type 0
RecordLaid cs ts s at h c l r h' c' = Laid (record_laid ts h c l) (read_record (lists_of cs ts) s at) r (h', c')

abbrev pub RecordsLaid : List ℕ → List ℕ → List ℕ → ℕ → ℕ → List ℕ → List ℕ → ℕ → Answer ℕ ℕ → List ℕ → List ℕ → Type 0
RecordsLaid cs ts s n at h c l r h' c' = Laid (records_laid ts h c l) (many [] ◌∷◌ (read_record (lists_of cs ts) s) n at) r (h', c')
