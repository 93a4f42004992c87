-- What the reader of a table answers, and what it leaves in memory (01, 'Table and turns', and numbers 11 and 12).
use Rattle.std.specs.Prelude.{ℕ, ◌+◌, ◌≡◌, List, [], ◌∷◌, length, Result as Answer, Ok, Err}
use Rattle.types.specs.Types.{Ty}
use Rattle.types.specs.Stages.{Stage.went as table, Stage.stopped as no_table}
use Rattle.program.specs.Reader.{then, many, ended}
use Rattle.table.specs.Table.{count_bytes}
use Rattle.table.specs.TableReader.{read_record, TableAnswer, table_answer}
use Rattle.table_read.specs.Params.{lists_of}
use Rattle.table_read.specs.Laid.{heads_laid, rows_laid, all_records}

-- the instances of a table with S null ones, or the number of a refusal
abbrev pub table_told : ℕ → TableAnswer → Answer ℕ ℕ
table_told S (table rs) = Ok (S + length rs)
table_told S (no_table n) = Err n

-- what a stream comes to whose N is n
unfoldable pub behind_count : List (List Ty) → List ℕ → ℕ → TableAnswer
behind_count pss s n = table_answer pss (then (many [] ◌∷◌ (read_record pss s) n count_bytes) (ended s))

-- memory after it, by what it held before: the null instances and the records of an accepted table; after a refusal, anything
abbrev pub TableLaid : List ℕ → List ℕ → List ℕ → List ℕ → TableAnswer → List ℕ → List ℕ → Type 0
TableLaid cs ts h c (table rs) h' c' = (h' ≡ heads_laid h 0 (all_records (lists_of cs ts) rs)) × (c' ≡ rows_laid ts c 0 (all_records (lists_of cs ts) rs))
TableLaid cs ts h c (no_table n) h' c' = Unit {0}
