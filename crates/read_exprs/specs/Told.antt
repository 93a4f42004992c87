-- What the readers of expressions answer for what is read (01, 4 and 5 of 'Numbers from the input'): a value goes with what is
-- computed of it, and a refusal with its number. And where the next place lies, with how much was computed on the way.
use Rattle.std.specs.Prelude.{Result as Answered, Ok, Err, ℕ, suc, ◌+◌, ◌-◌, ◌<◌, ◌≤◌, ◌^◌, ◌≡◌, List, [], ◌∷◌, length}
use Rattle.types.specs.Limits.{first_local}
use Rattle.program.specs.Tree.{Var, Exprs}
use Rattle.program.specs.Reader.{Result, Result.ok, Result.bad, pair, many, ranged, read_var}
use Rattle.answers.specs.Answers.{Answer, answer}
use Rattle.judge.specs.declared.Judged.{Judged}
use Rattle.judge.specs.declared.Facts.{Facts}
use Rattle.judge.specs.Facts.{constructed, args_facts}

-- what is computed of what was read, or the number of the refusal
abbrev pub told : {A : Type 0} → (A → Facts) → Result A → Answer Facts
told f r = answer f r

abbrev pub byte_told : Result ℕ → Answered (ℕ × ℕ) ℕ
byte_told (ok b m) = Ok (b, m)
byte_told (bad p n) = Err n

-- a path with the number of its variables; variables behind c others
abbrev pub path_told : (Var → List ℕ → Judged) → Result (Var × List ℕ) → Answered (ℕ × ℕ × Judged) ℕ
path_told f (ok p m) = Ok (m, suc (length p.1), f p.0 p.1)
path_told f (bad p n) = Err n

abbrev pub row_told : (List ℕ → Judged) → ℕ → Result (List ℕ) → Answered (ℕ × ℕ × Judged) ℕ
row_told f c (ok xs m) = Ok (m, c + length xs, f xs)
row_told f c (bad p n) = Err n

-- what stands behind the count of a path's variables
unfoldable pub read_vars : List ℕ → ℕ → ℕ → Result (Var × List ℕ)
read_vars s i at = pair (read_var s at) λ v m. many [] ◌∷◌ (ranged s 0 first_local) (i - 1) m

-- a construct, by its struct and its arguments
abbrev pub made_facts : List ℕ → List ℕ → ℕ → ℕ → ℕ × Exprs → Facts
made_facts ar types own w p = constructed p.0 (args_facts ar types own w p.1 p.0 0)

-- one byte from lo up to below hi was read at its place
abbrev pub ByteSpan : {E : Type 0} → List ℕ → ℕ → ℕ → ℕ → Answered (ℕ × ℕ) E → Type 0
ByteSpan s lo hi at (Ok (b, m)) = (m ≡ at + 1) × (m ≤ length s) × (lo ≤ b) × (b < hi)
ByteSpan s lo hi at (Err k) = Unit {0}

-- a byte was read for each variable behind the first c, and there are at most this many
abbrev pub PathSpan : {E : Type 0} → List ℕ → ℕ → ℕ → ℕ → Answered (ℕ × ℕ × Judged) E → Type 0
PathSpan s c most at (Ok (m, n, j)) = (m + c ≡ at + n) × (m ≤ length s) × (n ≤ most)
PathSpan s c most at (Err k) = Unit {0}

-- the next place lies from lo on, and as many commands at most, and as high a stack, as bytes were read from `from` on and more
abbrev pub Span : {E : Type 0} → List ℕ → ℕ → ℕ → ℕ → Answered (ℕ × Facts) E → Type 0
Span s lo from more (Ok (n, f)) = (lo ≤ n) × (n ≤ length s) × (f.size + from ≤ n + more) × (f.peak + from ≤ n + more)
Span s lo from more (Err k) = Unit {0}

-- of an expression; of what stands behind the byte of one
abbrev pub Ahead : {E : Type 0} → List ℕ → ℕ → Answered (ℕ × Facts) E → Type 0
Ahead s at r = Span s (at + 1) at 0 r

abbrev pub Behind : {E : Type 0} → List ℕ → ℕ → Answered (ℕ × Facts) E → Type 0
Behind s at r = Span s at at 1 r

-- one more of each, and two together, are still numbers of 64 bits
abbrev pub Room : {E : Type 0} → Answered (ℕ × Facts) E → Type 0
Room (Ok (n, f)) = (f.size < 2 ^ 63) × (f.peak < 2 ^ 63)
Room (Err k) = Unit {0}

-- x arguments from a place on, and what is computed of them
pub record ArgsRead (s : List ℕ) (from next x : ℕ) (a : Facts) : Type 0 where
  pub within : (x + from ≤ next) × (next ≤ length s) × (a.size + from ≤ next) × (a.peak + from ≤ next)
  pub high : x ≤ a.peak
  pub untyped : a.typ ≡ 0
