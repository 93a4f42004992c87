-- What the pass over names answers, as a place: the end, or where it stopped (02 §1, 17).
use Rattle.std.specs.Prelude.{ℕ, ◌≤◌, ◌≡◌, Result, Ok, Err}
use Rattle.uses.specs.Stopping.{stop_in}
use Rattle.uses.specs.declared.NoProgram.{NoProgram}

module _ (r : Result ℕ NoProgram) (l s : ℕ) (e : (stop_in r l ≡ s) × (stop_in r l ≤ l)) where
  pub end_told : (n : ℕ) → r ≡ Ok n → (l ≡ s) × (l ≤ l)
  unfolding stop_in
  end_told n f = rw f at e

  pub stop_told : (p : NoProgram) → r ≡ Err p → (p.at ≡ s) × (p.at ≤ l)
  unfolding stop_in
  stop_told p f = rw f at e
