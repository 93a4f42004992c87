-- A number that was read is within its bound.
use Rattle.std.specs.Prelude.{ℕ, ◌≤◌, Result, IfOk}
use Rattle.audala_cases.specs.declared.Stop.{Stop}

abbrev pub Within : ℕ → Result ℕ Stop → Type 0
Within most r = IfOk r (λ n. n ≤ most)
