use Rattle.std.proofs.Common.{◌≡◌, ℕ, Bool, ◌<◌, ◌^◌}
use Rattle.resolve.specs.Laws.CheckLaws.{Paired}
use Rattle.resolve.proofs.declarations.between_all.Given as goal

abbrev pub invariant-loop-i : goal.invariant-loop-i
invariant-loop-i g l =
    (t : ℕ → ℕ → Bool) → ((a b : ℕ) (r : Bool) → a < 2 ^ 64 → b < 2 ^ 64 → goal.F-post g l.test a b r → r ≡ t a b) → Paired t l.rows l.i
