-- The text of a listing (01, 'Bench rows'): numbers in decimal, the words of commands, lines; and text placed in a lent buffer.
use Rattle.std.specs.Prelude.{ℕ, zero, suc, ◌+◌, ◌-◌, ◌/◌, ◌%◌, ◌≡◌, true, false, List, [], ◌∷◌, ◌++◌, eqb, ltb, length}
use Rattle.std.proofs.lemmas.List.Edits.{sets}
use Rattle.types.specs.Limits.{int_half, nat_end}

-- Numbers ----------------------------------------------------------------------

-- the last w digits of n in decimal, the most significant first, with no zero in front
unfoldable pub digits : ℕ → ℕ → List ℕ
digits zero n = []
digits (suc w) n = elim (ltb n 10) [ true ↦ (48 + n) ∷ [] | false ↦ digits w (n / 10) ++ (48 + n % 10) ∷ [] ]

-- a number of 64 bits, which has at most 20 digits
unfoldable pub decimal : ℕ → List ℕ
decimal n = digits 20 n

-- Commands ---------------------------------------------------------------------

-- the value of a push: an Int from int-half on is negative, in two's complement
unfoldable pub int_text : ℕ → List ℕ
int_text v = elim (ltb v int_half) [ true ↦ decimal v | false ↦ 45 ∷ decimal (nat_end - v) ]

unfoldable pub value_text : ℕ → ℕ → List ℕ
value_text t v = elim (eqb t 0) [ true ↦ int_text v | false ↦ decimal v ]

-- `push T V`
unfoldable pub push_text : ℕ → ℕ → List ℕ
push_text t v = 112 ∷ 117 ∷ 115 ∷ 104 ∷ 32 ∷ (decimal t ++ 32 ∷ value_text t v)

-- a word with its space, and an operand
unfoldable pub keyed : List ℕ → ℕ → List ℕ
keyed key v = key ++ decimal v

-- `rd x`, `wr x`, `cons k`, `if n`, `op o`
unfoldable pub other_text : ℕ → ℕ → List ℕ
other_text k v =
    elim (eqb k 3) [
      | true ↦ keyed (114 ∷ 100 ∷ 32 ∷ []) v
      | false ↦ elim (eqb k 4) [
        | true ↦ keyed (119 ∷ 114 ∷ 32 ∷ []) v
        | false ↦ elim (eqb k 5) [
          | true ↦ keyed (99 ∷ 111 ∷ 110 ∷ 115 ∷ 32 ∷ []) v
          | false ↦ elim (eqb k 6) [
            | true ↦ keyed (105 ∷ 102 ∷ 32 ∷ []) v
            | false ↦ keyed (111 ∷ 112 ∷ 32 ∷ []) v
          ]
        ]
      ]
    ]

-- a command by its kind, type byte and operand: besides these `push this` and `not`
unfoldable pub parts_text : ℕ → ℕ → ℕ → List ℕ
parts_text k t v =
    elim (eqb k 1) [
      | true ↦ push_text t v
      | false ↦ elim (eqb k 2) [
        | true ↦ 112 ∷ 117 ∷ 115 ∷ 104 ∷ 32 ∷ 116 ∷ 104 ∷ 105 ∷ 115 ∷ []
        | false ↦ elim (eqb k 7) [
          | true ↦ 110 ∷ 111 ∷ 116 ∷ []
          | false ↦ other_text k v
        ]
      ]
    ]

-- and by its word
unfoldable pub text : ℕ → List ℕ
text w = parts_text (w % 256) (w / 256 % 256) (w / nat_end)

-- Lines ------------------------------------------------------------------------

unfoldable pub column : ℕ → List ℕ
column n = decimal n ++ 32 ∷ []

-- struct, step name, position, command
unfoldable pub line : ℕ → ℕ → ℕ → ℕ → List ℕ
line k n i w = column k ++ (column n ++ (column i ++ (text w ++ 10 ∷ [])))

-- a word and numbers, a space before each number
unfoldable pub tail : List ℕ → List ℕ
tail [] = 10 ∷ []
tail (n ∷ ns) = 32 ∷ (decimal n ++ tail ns)

unfoldable pub row : List ℕ → List ℕ → List ℕ
row word ns = word ++ tail ns

-- Placed -----------------------------------------------------------------------

-- the text t stands in the buffer from k on and ends before r; the other bytes are as they were
pub record Placed (t out : List ℕ) (k r : ℕ) (out1 : List ℕ) : Type 0 where
  pub end : r ≡ k + length t
  pub list : out1 ≡ sets out k t
