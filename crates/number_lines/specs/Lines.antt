-- Words of `numbers` as text (docs/FORMAT.md, 'Tables as text'): a word with the mark of a line's first begins a line, the others stand behind a blank.
use Rattle.std.specs.Prelude.{ℕ, ◌%◌, Bool, true, false, List, [], ◌∷◌, ◌++◌, ltb}
use Rattle.text.specs.Listing.{decimal}
use Rattle.numbers.specs.Scan.{minus_mark, first_mark}

-- what stands before a word: nothing at the beginning of the text
unfoldable pub separator : Bool → ℕ → List ℕ
separator true w = []
separator false w = elim (ltb w (first_mark true)) [ true ↦ 32 ∷ [] | false ↦ 10 ∷ [] ]

unfoldable pub sign : ℕ → List ℕ
sign w = elim (ltb (w % first_mark true) (minus_mark true)) [ true ↦ [] | false ↦ 45 ∷ [] ]

unfoldable pub word_text : Bool → ℕ → List ℕ
word_text begin w = separator begin w ++ (sign w ++ decimal (w % minus_mark true))

-- a line feed behind the last word
unfoldable pub last_end : Bool → List ℕ
last_end true = []
last_end false = 10 ∷ []

unfoldable pub words_text : Bool → List ℕ → List ℕ
words_text begin [] = last_end begin
words_text begin (w ∷ ws) = word_text begin w ++ words_text false ws

abbrev pub lines : List ℕ → List ℕ
lines ws = words_text true ws
