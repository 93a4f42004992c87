-- A holder among instance records (01, 'Table and turns'; 02, 'Turns that go round').
use Rattle.std.specs.Prelude.{ℕ, zero, suc, ◌-◌, ◌<◌, ◌≤◌, ◌≡◌, true, false, List, length, get_or, eqb, ltb}
use Rattle.types.specs.Limits.{max_instances}
use Rattle.layout.specs.Layout.{holds}
use Rattle.holders.specs.declared.Record.{Record}

-- an instance without commands, or nobody
abbrev pub idle : Record
idle = record { holds = false }

-- rs has the records of n instances, and behind them those of nobody
pub record Recorded (heads : List ℕ) (n : ℕ) (rs : List Record) : Type 0 where
  pub long : length rs ≡ max_instances
  pub each : (k : ℕ) → k < n → (get_or rs k idle).holds ≡ holds heads k
  pub rest : (k : ℕ) → n ≤ k → (get_or rs k idle).holds ≡ false

-- the label l, or label 0 past the highest of n
unfoldable pub wrapped : ℕ → ℕ → ℕ
wrapped n l = elim (ltb l n) [ true ↦ l | false ↦ 0 ]

-- of the records of n instances, m of them looked at from l on and past the highest from 0: the label of the r-th that holds commands, from 0, or
-- the one behind the last
unfoldable pub search : List Record → ℕ → ℕ → ℕ → ℕ → ℕ
search rs n zero l r = l
search rs n (suc m) l r =
    elim (get_or rs (wrapped n l) idle).holds [
      | true ↦ elim (eqb r 0) [ true ↦ wrapped n l | false ↦ search rs n m (suc (wrapped n l)) (r - 1) ]
      | false ↦ search rs n m (suc (wrapped n l)) r
    ]

-- all of them
abbrev pub holder_in : List Record → ℕ → ℕ → ℕ → ℕ
holder_in rs n from r = search rs n n from r
