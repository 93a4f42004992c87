-- The ways through the code that counts those who hold commands, l of n instances passed (01, 'Table and turns').
use Rattle.std.specs.Prelude.{ℕ, suc, ◌+◌, ◌-◌, ◌<◌, ◌≤◌, ◌≡◌, true, false, List}
use native.Mathlib.Omega.{arith}
use Rattle.std.proofs.Math.Numerals.{add-one}
use Rattle.layout.specs.Layout.{holds}
use Rattle.memory.specs.Choose.{holding}

module _ (heads : List ℕ) (n l : ℕ) where
  -- nobody is left
  pub count_done : n ≤ l → holding heads l (n - l) ≡ 0
  unfolding holding
  count_done h = let z : n - l ≡ 0 = omega arith in rw z

  module _ (h : l < n) where
    one_more : n - l ≡ suc (n - (l + 1))
    one_more = omega arith

    pub count_here : holds heads l ≡ true → holding heads l (n - l) ≡ suc (holding heads (l + 1) (n - (l + 1)))
    unfolding holding
    count_here t = rw (one_more, t, holding, add-one l)

    pub count_past : holds heads l ≡ false → holding heads l (n - l) ≡ holding heads (l + 1) (n - (l + 1))
    unfolding holding
    count_past t = rw (one_more, t, holding, add-one l)
