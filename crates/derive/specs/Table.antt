-- The acts as two tables of bytes, a row of kinds for each code: where an act goes to, and what it opens. And the roles as a third.
use Rattle.std.specs.Prelude.{ℕ, zero, suc, ◌+◌, ◌*◌, ◌/◌, ◌%◌, true, false, List, [], ◌∷◌, eqb}
use Rattle.text_shape.specs.CodeNames.{codes}
use Rattle.text_shape.specs.Shape.{sample, act}
use Rattle.text_shape.specs.RoleMarks.{mark}
use Rattle.text_shape.specs.declared.Act.{Act}
use Rattle.text_shape.specs.declared.Act.TheVariants.{Go, Open, Below, Stop}
use Rattle.tokens.specs.KindNames.{kinds}

-- a row of kinds for each code
abbrev pub entries : ℕ
entries = codes * kinds

-- a number is the byte that is so far above it; the number of `Below` among where acts go to
abbrev pub digits_from : ℕ
digits_from = 48

abbrev pub below_number : ℕ
below_number = 63

unfoldable pub act_at : ℕ → Act
act_at i = act (i / kinds) (sample (i % kinds))

unfoldable pub next_of : Act → ℕ
next_of (Go q) = q
next_of (Open q r) = q
next_of Below = below_number
next_of Stop = 0

unfoldable pub opened_of : Act → ℕ
opened_of (Go q) = 0
opened_of (Open q r) = r
opened_of Below = 0
opened_of Stop = 0

-- an act by its two numbers
unfoldable pub told : ℕ → ℕ → Act
told n o = elim (eqb n 0) [ true ↦ Stop | false ↦ elim (eqb n below_number) [ true ↦ Below | false ↦ elim (eqb o 0) [ true ↦ Go n | false ↦ Open n o ] ] ]

-- n values of f from i on
unfoldable pub values : (ℕ → ℕ) → ℕ → ℕ → List ℕ
values f i zero = []
values f i (suc n) = f i ∷ values f (suc i) n

unfoldable pub next_bytes : List ℕ
next_bytes = values (λ i. digits_from + next_of (act_at i)) 0 entries

unfoldable pub opened_bytes : List ℕ
opened_bytes = values (λ i. digits_from + opened_of (act_at i)) 0 entries

unfoldable pub mark_at : ℕ → ℕ
mark_at i = mark (i / kinds) (sample (i % kinds))

unfoldable pub mark_bytes : List ℕ
mark_bytes = values mark_at 0 entries
