-- How many sequences of labels have a property (02 §14: "Each sequence counts once").
use Rattle.std.specs.Prelude.{ℕ, ◌+◌, ◌≡◌, ◌↔◌, length}
use mathlib.Core.List.{List, [], ◌∷◌, Memᴰ}

-- no element is there twice
unfoldable pub Distinct : {A : Type 0} → List A → Type 0
Distinct [] = Unit {0}
Distinct (x ∷ xs) = (Memᴰ x xs → ⊥) × (Distinct xs)

-- exactly n sequences have the property: a list of n has them all, each once
pub record Number (P : List ℕ → Type 0) (n : ℕ) : Type 0 where
  pub all : List (List ℕ)
  pub each : (ls : List ℕ) → Memᴰ ls all ↔ P ls
  pub once : Distinct all
  pub many : length all ≡ n

-- a number for each label, in all
unfoldable pub sum : (ℕ → ℕ) → List ℕ → ℕ
sum f [] = 0
sum f (h ∷ hs) = f h + sum f hs
