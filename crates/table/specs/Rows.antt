-- Rows that pin what no law does: table streams and what they come to, by computation (01, 'Table and turns'; 11 and 12 of 'Numbers from
-- the input').
use Rattle.std.specs.Prelude.{ℕ, ◌≡◌, refl, true, false, List, [], ◌∷◌, ◌++◌, map, replicate, pos, negsuc}
use Rattle.types.specs.TypeBytes.{word_end}
use Rattle.types.specs.Types.{Ty, Ty.int, Ty.nat, Ty.bool, Ty.ref}
use Rattle.types.specs.Values.{Val, Val.int_val, Val.nat_val, Val.bool_val, Val.label, word_int, value_of}
use Rattle.types.specs.Stages.{Stage.went as table, Stage.stopped as no_table}
use Rattle.program.specs.Reader.{read_word}
use Rattle.table.specs.Table.{Record, struct_at}
use Rattle.table.specs.TableReader.{read_value, read_values, read_record, read_count, read_table, is_struct, refers, refers_each, references}
use Rattle.table.specs.TableReader.{TableAnswer, table_number, table_answer, table_of_stream}
use Rattle.program.specs.Unfold.{joining}

-- the parameter types of each struct, a stream, and what it comes to
pub record Row : Type 0 where
  pub params : List (List Ty)
  pub stream : List ℕ
  pub answer : TableAnswer

-- The rows -----------------------------------------------------------------------

abbrev row : List (List Ty) → List ℕ → TableAnswer → Row
row ps s a = record { params = ps; stream = s; answer = a }

abbrev rec : ℕ → List Val → Record
rec k vs = record { struct = k; values = vs }

-- a number below 256 as four bytes
abbrev four : ℕ → List ℕ
four n = n ∷ 0 ∷ 0 ∷ 0 ∷ []

-- P's struct: an Int and a reference to itself; a struct with a Bool; one without parameters; one that refers to another
abbrev P : List (List Ty)
P = (int ∷ ref 0 ∷ []) ∷ []

abbrev flag : List (List Ty)
flag = (bool ∷ []) ∷ []

abbrev bare : List (List Ty)
bare = [] ∷ []

abbrev two : List (List Ty)
two = (ref 1 ∷ []) ∷ [] ∷ []

-- a record of P as bytes, and as a record
abbrev bytes_P : ℕ → ℕ → List ℕ
bytes_P n l = 0 ∷ four n ++ four l

abbrev rec_P : ℕ → ℕ → Record
rec_P n l = rec 0 (int_val (pos n) ∷ label l ∷ [])

unfoldable pub rows : List Row
rows =
    -- N
    row P (0 ∷ 0 ∷ []) (table [])
    ∷ row P [] (no_table 11)
    ∷ row P (2 ∷ []) (no_table 11)
    ∷ row bare (255 ∷ 0 ∷ replicate 255 0) (table (replicate 255 (rec 0 [])))
    ∷ row bare (0 ∷ 1 ∷ replicate 256 0) (no_table 12)
    ∷ row bare (0 ∷ 1 ∷ []) (no_table 12)
    ∷ row two (255 ∷ 0 ∷ []) (no_table 12)
    ∷ row P (1 ∷ 0 ∷ []) (no_table 11)
    -- the stream ends in a value, or goes on after its end
    ∷ row P (1 ∷ 0 ∷ 0 ∷ four 5 ++ 0 ∷ 0 ∷ 0 ∷ []) (no_table 11)
    ∷ row flag (1 ∷ 0 ∷ 0 ∷ 7 ∷ []) (no_table 11)
    ∷ row P (1 ∷ 0 ∷ bytes_P 5 0 ++ 0 ∷ []) (no_table 11)
    -- a struct byte
    ∷ row P (1 ∷ 0 ∷ 1 ∷ []) (no_table 12)
    ∷ row P (1 ∷ 0 ∷ 1 ∷ four 5 ++ four 0 ++ 0 ∷ []) (no_table 12)
    -- values
    ∷ row flag (2 ∷ 0 ∷ 0 ∷ four 1 ++ 0 ∷ four 0) (table (rec 0 (bool_val true ∷ []) ∷ rec 0 (bool_val false ∷ []) ∷ []))
    ∷ row flag (1 ∷ 0 ∷ 0 ∷ four 2) (no_table 12)
    ∷ row flag (1 ∷ 0 ∷ 0 ∷ 1 ∷ 1 ∷ 0 ∷ 0 ∷ []) (no_table 12)
    ∷ row flag (2 ∷ 0 ∷ 0 ∷ four 2) (no_table 12)
    ∷ row ((int ∷ nat ∷ []) ∷ []) (1 ∷ 0 ∷ 0 ∷ replicate 8 255) (table (rec 0 (int_val (negsuc 0) ∷ nat_val 4294967295 ∷ []) ∷ []))
    ∷ row ((int ∷ int ∷ []) ∷ []) (1 ∷ 0 ∷ 0 ∷ 0 ∷ 0 ∷ 0 ∷ 128 ∷ 255 ∷ 255 ∷ 255 ∷ 127 ∷ [])
    (table (rec 0 (int_val (negsuc 2147483647) ∷ int_val (pos 2147483647) ∷ []) ∷ []))
    -- a reference to itself, to a later record, to an absent label, to 256 more than itself
    ∷ row P (1 ∷ 0 ∷ bytes_P 5 1) (table (rec_P 5 1 ∷ []))
    ∷ row P (2 ∷ 0 ∷ bytes_P 5 2 ++ bytes_P 7 0) (table (rec_P 5 2 ∷ rec_P 7 0 ∷ []))
    ∷ row P (1 ∷ 0 ∷ bytes_P 5 2) (no_table 12)
    ∷ row P (1 ∷ 0 ∷ 0 ∷ four 5 ++ 1 ∷ 1 ∷ 0 ∷ 0 ∷ []) (no_table 12)
    -- to the null instance and a record of the other struct; to those of its own, which it doesn't refer to
    ∷ row two (1 ∷ 0 ∷ 0 ∷ four 1) (table (rec 0 (label 1 ∷ []) ∷ []))
    ∷ row two (2 ∷ 0 ∷ 0 ∷ four 3 ++ 1 ∷ []) (table (rec 0 (label 3 ∷ []) ∷ rec 1 [] ∷ []))
    ∷ row two (1 ∷ 0 ∷ 0 ∷ four 0) (no_table 12)
    ∷ row two (1 ∷ 0 ∷ 0 ∷ four 2) (no_table 12)
    -- references are judged last
    ∷ row P (2 ∷ 0 ∷ bytes_P 5 3 ++ bytes_P 7 0) (no_table 12)
    ∷ row P (2 ∷ 0 ∷ bytes_P 5 3 ++ bytes_P 7 0 ++ 0 ∷ []) (no_table 11)
    ∷ row P (2 ∷ 0 ∷ bytes_P 5 3 ++ 0 ∷ four 7) (no_table 11)
    ∷ []

-- the reader of a table: what an `unfolding` line opens by one name
reader : Type 0
unfolding joining read_word struct_at read_value read_values read_record read_count read_table is_struct refers refers_each references
reader = Unit {0}

-- every row's stream comes to its answer
pub rows_hold : map (λ r. table_of_stream r.params r.stream) rows ≡ map (λ r. r.answer) rows
unfolding word_end rows word_int value_of reader table_number table_answer table_of_stream
rows_hold = refl
