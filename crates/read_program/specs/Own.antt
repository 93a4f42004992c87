-- The rows of a struct's own steps stand behind those of the structs before it (01, 'Names, types, commands'), so that whether it has a step of a name is
-- asked of them alone.
use Rattle.std.specs.Prelude.{Result as Answered, Ok, Err, ℕ, ◌≤◌, ◌≡◌, List, [], ◌∷◌}
use Rattle.program.specs.Counts.{All}
use Rattle.directory.specs.declared.Row.{Row}
use Rattle.directory.specs.Directory.{there}
use Rattle.directory.specs.Rows.{rows_from}
use Rattle.read_program.specs.declared.totals.Totals.{Totals}

-- behind a row of struct k stand rows of struct k
abbrev pub Grouped : ℕ → List Row → Type 0
Grouped k [] = Unit {0}
Grouped k (r ∷ rs) = (r.structure ≡ k → All (λ (q : Row). q.structure ≡ k) rs) × Grouped k rs

-- and no row is of a struct after it
pub record Led (k : ℕ) (rs : List Row) : Type 0 where
  pub low : All (λ (r : Row). r.structure ≤ k) rs
  pub grouped : Grouped k rs

-- so it is after what was read, too
abbrev pub Leads : {E : Type 0} → ℕ → Answered (ℕ × Totals) E → List ℕ → Type 0
Leads k (Ok (m, t)) h = Led k (rows_from h 0 t.steps)
Leads k (Err n) h = Unit {0}

-- of n rows, those from i on are not of the name m
pub record Back (l : List ℕ) (n k m i : ℕ) : Type 0 where
  pub within : i ≤ n
  pub asks : there (rows_from l 0 n) k m ≡ there (rows_from l 0 i) k m
  pub grouped : Grouped k (rows_from l 0 i)
