-- The bytes of operators behind the comparisons (01, 'Program').
use Rattle.std.specs.Prelude.{ℕ, suc, ◌<◌, ◌≡◌}
use Rattle.std.proofs.Common.{arith}

-- Above 37 and none of the next five, a byte is above 42.
pub past_computing : {o : ℕ} → 37 < o → (o ≡ 38 → ⊥) → (o ≡ 39 → ⊥) → (o ≡ 40 → ⊥) → (o ≡ 41 → ⊥) → (o ≡ 42 → ⊥) → 42 < o
past_computing {o} h a b c d e = step 41 (step 40 (step 39 (step 38 (step 37 h a) b) c) d) e
  where
    step : (k : ℕ) → k < o → (o ≡ suc k → ⊥) → suc k < o
    step k h n = omega arith
