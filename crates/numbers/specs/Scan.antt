-- Numbers in decimal from text (docs/FORMAT.md, 'Numbers as text'): what each byte of the text leads to, the words of the numbers, and what a text is
-- answered with.
use Rattle.std.specs.Prelude.{ℕ, ◌+◌, ◌*◌, ◌-◌, ◌%◌, Bool, true, false, List, [], ◌∷◌, ◌++◌, eqb, ltb, set, Option, Some, None, Result, Ok, Err}
use Rattle.types.specs.Limits.{nat_end}
use Rattle.numbers.specs.declared.Char.{Char}
use Rattle.numbers.specs.declared.Char.TheVariants.{Digit, Minus, Line, Blank, Other}
use Rattle.numbers.specs.declared.Number.{Number}
use Rattle.numbers.specs.declared.State.{State}
use Rattle.numbers.specs.declared.State.TheVariants.{Gap, Sign, Open}
use Rattle.numbers.specs.declared.Fault.{Fault}
use Rattle.numbers.specs.declared.Fault.TheVariants.{Strange as StrangeByte, Large as LargeNumber}
use Rattle.numbers.specs.declared.ScanError.{ScanError}
use Rattle.numbers.specs.declared.ScanError.TheVariants.{Strange, Large, Long}
use Rattle.numbers.specs.declared.BytesError.{BytesError}
use Rattle.numbers.specs.declared.BytesError.TheVariants.{Large as LargeByte, Long as LongBytes}

-- a digit, and any other byte
abbrev pub digit_of : ℕ → Char
digit_of c = elim (ltb c 48) [ true ↦ Other | false ↦ elim (ltb c 58) [ true ↦ Digit (c - 48) | false ↦ Other ] ]

-- carriage return and comma part numbers
abbrev pub comma_of : ℕ → Char
comma_of c = elim (eqb c 13) [ true ↦ Blank | false ↦ elim (eqb c 44) [ true ↦ Blank | false ↦ digit_of c ] ]

-- a line feed ends a line; blank, tab, carriage return and comma part numbers; a minus sign; a digit
unfoldable pub char_of : ℕ → Char
char_of c =
    elim (eqb c 10) [
      | true ↦ Line
      | false ↦
          elim (eqb c 45) [
            | true ↦ Minus
            | false ↦ elim (eqb c 32) [ true ↦ Blank | false ↦ elim (eqb c 9) [ true ↦ Blank | false ↦ comma_of c ] ]
          ]
    ]

-- what a byte leads to: the number that ends there, if one does, and the state after it; or why it belongs to none
abbrev pub Step : Type 0
Step = Result (Option Number × State) Fault

-- a number so far
abbrev pub open_at : Bool → Bool → ℕ → State
open_at first minus v = Open (record { first = first; minus = minus; value = v })

-- between numbers: `first` where none was on the line
abbrev pub in_gap : Bool → Char → Step
in_gap first (Digit d) = Ok (None, open_at first false d)
in_gap first Minus = Ok (None, Sign first)
in_gap first Line = Ok (None, Gap true)
in_gap first Blank = Ok (None, Gap first)
in_gap first Other = Err StrangeByte

-- behind a minus sign a digit has to stand
abbrev pub behind_sign : Bool → Char → Step
behind_sign first (Digit d) = Ok (None, open_at first true d)
behind_sign first Minus = Err StrangeByte
behind_sign first Line = Err StrangeByte
behind_sign first Blank = Err StrangeByte
behind_sign first Other = Err StrangeByte

-- one digit more, where the number stays below 4294967296
unfoldable pub longer : Number → ℕ → Step
longer n d = elim (ltb (10 * n.value + d) nat_end) [ true ↦ Ok (None, open_at n.first n.minus (10 * n.value + d)) | false ↦ Err LargeNumber ]

abbrev pub in_number : Number → Char → Step
in_number n (Digit d) = longer n d
in_number n Minus = Err StrangeByte
in_number n Line = Ok (Some n, Gap true)
in_number n Blank = Ok (Some n, Gap false)
in_number n Other = Err StrangeByte

abbrev pub step : State → Char → Step
step (Gap first) c = in_gap first c
step (Sign first) c = behind_sign first c
step (Open n) c = in_number n c

-- the word of a number: its value, 4294967296 more with a minus sign, 8589934592 more where it is the first of its line
abbrev pub minus_mark : Bool → ℕ
minus_mark true = 4294967296
minus_mark false = 0

abbrev pub first_mark : Bool → ℕ
first_mark true = 8589934592
first_mark false = 0

abbrev pub coded : Bool → Bool → ℕ → ℕ
coded first minus v = first_mark first + minus_mark minus + v

-- the words of a step, and of the text behind it by the state that it leads to
unfoldable pub step_words : Step → (State → List ℕ) → List ℕ
step_words (Ok (None, u)) rest = rest u
step_words (Ok (Some n, u)) rest = coded n.first n.minus n.value ∷ rest u
step_words (Err e) rest = []

-- the words of a text from a state on, up to a byte that leads to no number
unfoldable pub words_from : State → List ℕ → List ℕ
words_from s [] = []
words_from s (c ∷ t) = step_words (step s (char_of c)) λ u. words_from u t

-- a text is read with a line end behind it
abbrev pub ended : List ℕ → List ℕ
ended t = t ++ 10 ∷ []

abbrev pub words : List ℕ → List ℕ
words t = words_from (Gap true) (ended t)

-- what the step of the byte at a place comes to where n words stand and there is room for that many
abbrev pub Turn : Type 0
Turn = Result (State × ℕ) ScanError

abbrev pub placed_fault : ℕ → Fault → ScanError
placed_fault at StrangeByte = Strange at
placed_fault at LargeNumber = Large at

unfoldable pub turn_of : ℕ → ℕ → ℕ → Step → Turn
turn_of room at n (Ok (None, u)) = Ok (u, n)
turn_of room at n (Ok (Some w, u)) = elim (ltb n room) [ true ↦ Ok (u, n + 1) | false ↦ Err Long ]
turn_of room at n (Err e) = Err (placed_fault at e)

unfoldable pub turn_into : List ℕ → ℕ → Step → List ℕ
turn_into out n (Ok (None, u)) = out
turn_into out n (Ok (Some w, u)) = set out n (coded w.first w.minus w.value)
turn_into out n (Err e) = out

-- how many numbers a text has, or why it has none
abbrev pub Scanned : Type 0
Scanned = Result ℕ ScanError

-- what a text is answered with after a byte, by what the text behind it is answered with
unfoldable pub go_on : Turn → (State → ℕ → Scanned) → Scanned
go_on (Ok (u, m)) rest = rest u m
go_on (Err e) rest = Err e

-- a text from a place on, where n words stand
unfoldable pub scanned_from : ℕ → ℕ → ℕ → State → List ℕ → Scanned
scanned_from room at n s [] = Ok n
scanned_from room at n s (c ∷ t) = go_on (turn_of room at n (step s (char_of c))) λ u m. scanned_from room (at + 1) m u t

abbrev pub scanned : ℕ → List ℕ → Scanned
scanned room t = scanned_from room 0 0 (Gap true) (ended t)

-- Words as bytes ---------------------------------------------------------------

-- a word's number and sign, without the mark of a line's first
abbrev pub unmarked : ℕ → ℕ
unmarked w = w % first_mark true

-- the bytes of words, up to the first that is none: one over 255 or with a minus sign
unfoldable pub bytes_of : List ℕ → List ℕ
bytes_of [] = []
bytes_of (w ∷ ws) = elim (ltb (unmarked w) 256) [ true ↦ unmarked w ∷ bytes_of ws | false ↦ [] ]

-- what they are answered with, where i bytes stand and there is room for that many
abbrev pub Bytes : Type 0
Bytes = Result ℕ BytesError

unfoldable pub bytes_answer : ℕ → ℕ → List ℕ → Bytes
bytes_answer room i [] = Ok i
bytes_answer room i (w ∷ ws) =
    elim (ltb (unmarked w) 256) [
      | false ↦ Err (LargeByte (i + 1))
      | true ↦ elim (ltb i room) [ true ↦ bytes_answer room (i + 1) ws | false ↦ Err LongBytes ]
    ]
