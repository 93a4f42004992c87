-- An order of refusals, the first of them, and what an answer tells of an order (01, 'Numbers from the input').
use Rattle.std.specs.Prelude.{ℕ, ◌≡◌, List, [], ◌∷◌, ◌++◌}

-- conditions, each with its number, in the order in which they are asked. A number may stand at several places
abbrev pub Order : Type 1
Order = List (ℕ × Type 0)

-- none of the conditions holds
abbrev pub NoneOf : Order → Type 0
NoneOf [] = Unit {0}
NoneOf (r ∷ l) = (r.1 → ⊥) × NoneOf l

-- n stands at a place of the order whose condition holds, and none before that place does
abbrev pub Foremost : Order → ℕ → Type 1
Foremost l n = (before later : Order) × (C : Type 0) × (l ≡ before ++ (n, C) ∷ later) × C × NoneOf before

-- P holds of every number of the order
abbrev pub Numbered : (ℕ → Type 0) → Order → Type 0
Numbered P [] = Unit {0}
Numbered P (r ∷ l) = (P r.0) × Numbered P l

-- what an answer b tells of an order: it is the refusal `no n` of the foremost n, or none holds and D does
pub data Tells {B : Type 0} (no : ℕ → B) (D : B → Type 0) (l : Order) (b : B) : Type 1 where
  refuses : {n : ℕ} → b ≡ no n → Foremost l n → Tells no D l b
  passes : NoneOf l → D b → Tells no D l b
