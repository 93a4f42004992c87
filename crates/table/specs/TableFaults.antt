-- When a table stream is refused (01, 'Table and turns'; 11 and 12 of 'Numbers from the input'): by the first field that is cut or
-- not allowed, by what goes on behind a table, and last by its references. Nothing here speaks of reading.
use Rattle.std.specs.Prelude.{ℕ, ◌+◌, ◌^◌, ◌<◌, ◌≤◌, ◌≡◌, List, [], ◌∷◌, ◌++◌, length, get_or}
use Rattle.types.specs.Limits.{max_instances}
use Rattle.types.specs.Types.{Ty}
use Rattle.types.specs.Values.{Val, word}
use Rattle.program.specs.Encoding.{enc_word, flat}
use Rattle.program.specs.Counts.{All}
use Rattle.table.specs.Table.{Record, value_bytes, count_bytes, enc_value, enc_record, enc_table, Each, Held, HeldRecord, HeldTable, References}

-- the fields of a table stream: N; a record's struct byte; the value of a parameter of a type
pub data Field : Type 0 where
  count struct_byte : Field
  value : Ty → Field

abbrev pub field_bytes : Field → ℕ
field_bytes count = count_bytes
field_bytes struct_byte = 1
field_bytes (value t) = value_bytes

-- a stream is a list of numbers, of which those below this one are bytes
abbrev pub byte_values : ℕ
byte_values = 256

-- some bytes of a field, and not all
abbrev pub Cut : Field → List ℕ → Type 0
Cut f xs = (All (λ b. b < byte_values) xs) × (length xs < field_bytes f)

module _ (pss : List (List Ty)) where
  -- what a field may hold, once it is there whole: S + N at most 256; a struct byte below S; what stands for a value of the type
  abbrev pub Allowed : Field → ℕ → Type 0
  Allowed count n = n + length pss ≤ max_instances
  Allowed struct_byte k = k < length pss
  Allowed (value t) w = (v : Val) × (Held t v) × (word v ≡ w)

  -- whole fields from a stream's beginning on, all allowed, and the field that stands behind them
  pub data Front : List ℕ → Field → Type 0 where
    -- N stands first
    at_count : Front [] count
    -- behind N and fewer records than N: a struct byte
    at_struct : {u : List ℕ} (n : ℕ) (rs : List Record) → Allowed count n → All (HeldRecord pss) rs → length rs < n
        → u ≡ enc_word count_bytes n ++ flat enc_record rs → Front u struct_byte
    -- behind a struct byte and values of its first parameters: the value of the next
    at_value : {s u : List ℕ} (k : ℕ) {t : Ty} (ts us : List Ty) (vs : List Val) → Front s struct_byte → Allowed struct_byte k
        → get_or pss k [] ≡ ts ++ t ∷ us → Each Held ts vs → u ≡ s ++ k ∷ flat enc_value vs → Front u (value t)

  -- 11: the stream ends before a field is whole, whatever there is of it, or goes on behind a table
  pub data TableEnds (s : List ℕ) : Type 0 where
    ends_early : {u : List ℕ} {f : Field} (xs : List ℕ) → Front u f → Cut f xs → s ≡ u ++ xs → TableEnds s
    goes_on : (rs : List Record) (b : ℕ) (bs : List ℕ) → HeldTable pss rs → s ≡ enc_table rs ++ b ∷ bs → TableEnds s

  -- 12: the first field that is not allowed is there whole, or holds a number that is no byte; or all is there and allowed, and a
  -- reference is wrong
  pub data TableOffends (s : List ℕ) : Type 0 where
    not_allowed : {u : List ℕ} {f : Field} (w : ℕ) (ys : List ℕ) → Front u f → w < byte_values ^ field_bytes f → (Allowed f w → ⊥)
        → s ≡ u ++ enc_word (field_bytes f) w ++ ys → TableOffends s
    no_byte : {u : List ℕ} {f : Field} (xs : List ℕ) (b : ℕ) (ys : List ℕ) → Front u f → Cut f xs → byte_values ≤ b
        → s ≡ u ++ xs ++ b ∷ ys → TableOffends s
    wrong_reference : (rs : List Record) → HeldTable pss rs → (References pss rs → ⊥) → s ≡ enc_table rs → TableOffends s
