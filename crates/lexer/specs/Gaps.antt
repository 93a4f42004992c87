-- Places at which no token begins (02 §1): 0 stands there among the kinds or roles of a text, and a pass goes over them from token to token.
use Rattle.std.specs.Prelude.{ℕ, ◌≤◌, ◌<◌, ◌≡◌, List, length, get_or}

-- no token begins from i on, up to j
pub record Gap (kinds : List ℕ) (i j : ℕ) : Type 0 where
  pub behind : i ≤ j
  pub inner : j ≤ length kinds
  pub zeros : (p : ℕ) → i ≤ p → p < j → get_or kinds p 0 ≡ 0

-- a token begins at i, if that is a place
abbrev pub Token : List ℕ → ℕ → Type 0
Token kinds i = i < length kinds → get_or kinds i 0 ≡ 0 → ⊥
