-- What a command does to the parameters (02 §11), for machines: the deeds that the proof swaps and that an order is looked at by.
use Rattle.std.specs.Prelude.{ℕ, ◌≡◌}

-- what a command touches: no parameter, or parameter v of instance q
pub data Deed : Type 0 where
  nothing : Deed
  reads : ℕ → ℕ → Deed
  writes : ℕ → ℕ → Deed

-- who did what
pub record Act (D : Type 0) : Type 0 where
  pub actor : ℕ
  pub deed : D

-- two deeds on one parameter, of which one writes
abbrev pub Clash : Deed → Deed → Type 0
Clash nothing e = ⊥
Clash (reads q v) nothing = ⊥
Clash (reads q v) (reads r w) = ⊥
Clash (reads q v) (writes r w) = (q ≡ r) × (v ≡ w)
Clash (writes q v) nothing = ⊥
Clash (writes q v) (reads r w) = (q ≡ r) × (v ≡ w)
Clash (writes q v) (writes r w) = (q ≡ r) × (v ≡ w)
