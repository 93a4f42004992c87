-- Numbers as a table stream (docs/FORMAT.md, 'Tables as text'): each line is a record. The stream is made of structs and values; the numbers are accepted
-- where they are those that the stream has as a table, label by label and value by value.
use Rattle.std.specs.Prelude.{ℕ, ◌+◌, ◌-◌, ◌/◌, ◌%◌, Bool, true, false, List, [], ◌∷◌, ◌++◌, eqb, ltb, leb, length, Result, Ok, Err}
use Rattle.types.specs.Limits.{nat_end}
use Rattle.program.specs.Encoding.{enc_word}
use Rattle.numbers.specs.Scan.{minus_mark, first_mark}
use Rattle.table_words.specs.TableWords.{table_words}
use Rattle.table_stream.specs.declared.NoTable.{NoTable}
use Rattle.table_stream.specs.declared.NoTable.TheVariants.{NoRecord, Short}

-- the number of four bytes of a value: two's complement where it has a minus sign
unfoldable pub value_number : ℕ → ℕ
value_number w = elim (ltb (w % first_mark true) (minus_mark true)) [ true ↦ w % nat_end | false ↦ (nat_end - w % nat_end) % nat_end ]

-- the bytes of a word behind a label: the struct, then values
unfoldable pub word_bytes : Bool → ℕ → List ℕ
word_bytes true w = w % 256 ∷ []
word_bytes false w = enc_word 4 (value_number w)

-- a label begins a line, and has no bytes
abbrev pub begins : ℕ → Bool
begins w = leb (first_mark true) w

unfoldable pub item_bytes : Bool → ℕ → List ℕ
item_bytes struct w = elim (begins w) [ true ↦ [] | false ↦ word_bytes struct w ]

-- the records: a struct stands right behind a label
unfoldable pub records_bytes : Bool → List ℕ → List ℕ
records_bytes struct [] = []
records_bytes struct (w ∷ ws) = item_bytes struct w ++ records_bytes (begins w) ws

-- how many lines there are
unfoldable pub one_line : ℕ → ℕ
one_line w = elim (begins w) [ true ↦ 1 | false ↦ 0 ]

unfoldable pub line_count : List ℕ → ℕ
line_count [] = 0
line_count (w ∷ ws) = one_line w + line_count ws

-- N, and the records
unfoldable pub stream_of : List ℕ → List ℕ
stream_of ws = line_count ws % 256 ∷ line_count ws / 256 % 256 ∷ records_bytes false ws

-- the first place from i on at which two lists differ, where one ends too; the length of both where they are equal
unfoldable pub agreed_from : ℕ → List ℕ → List ℕ → ℕ
agreed_from i [] ys = i
agreed_from i (x ∷ xs) [] = i
agreed_from i (x ∷ xs) (y ∷ ys) = elim (eqb x y) [ true ↦ agreed_from (i + 1) xs ys | false ↦ i ]

-- what is answered: the stream's length, or how many of the numbers are right; an output that is too short before it
unfoldable pub judged : ℕ → ℕ → List ℕ → List ℕ → Result ℕ NoTable
judged room n ws back =
    elim (ltb room n) [
      | true ↦ Err Short
      | false ↦ elim (eqb (agreed_from 0 ws back) (length ws)) [
        | true ↦ elim (eqb (length back) (length ws)) [ true ↦ Ok n | false ↦ Err (NoRecord (length ws)) ]
        | false ↦ Err (NoRecord (agreed_from 0 ws back))
      ]
    ]

abbrev pub made : List ℕ → List ℕ → ℕ → ℕ → List ℕ → Result ℕ NoTable
made cs ts S room ws = judged room (length (stream_of ws)) ws (table_words cs ts S (stream_of ws))
