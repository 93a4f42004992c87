-- The tables of what roles do (`compose/specs/Writing.antt`) in a row: a number is the byte of a digit's place above that of 0.
use Rattle.std.specs.Prelude.{ℕ, ◌+◌, List, [], ◌∷◌, ◌++◌}
use Rattle.compose.specs.Writing.{behind_marks, forms, stack_marks, pour_marks}
use Rattle.tokens.specs.Bytes.{zero_byte}

unfoldable pub shifted : List ℕ → List ℕ
shifted [] = []
shifted (b ∷ l) = (zero_byte + b) ∷ shifted l

unfoldable pub in_a_row : List (List ℕ) → List ℕ
unfolding shifted
in_a_row [] = []
in_a_row (l ∷ ls) = shifted l ++ in_a_row ls

-- what a role lets go first, what stands behind its form's byte, the form's byte, what it does to what waits
abbrev pub mark_tables : List (List ℕ)
mark_tables = pour_marks ∷ behind_marks ∷ forms ∷ stack_marks ∷ []

unfoldable pub mark_bytes : List ℕ
unfolding in_a_row
mark_bytes = in_a_row mark_tables
