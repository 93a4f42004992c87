-- A list with one element for each type has as many elements as there are types.
use Rattle.std.specs.Prelude.{suc, ◌≡◌, refl, List, [], ◌∷◌, length}
use Rattle.std.proofs.Common.{ap}
use Rattle.types.specs.Types.{Ty}
use Rattle.table.specs.Table.{Each}

module _ {A : Type 0} (P : Ty → A → Type 0) where
  pub each_length : (ts : List Ty) (xs : List A) → Each P ts xs → length xs ≡ length ts
  each_length [] [] e = refl
  each_length [] (x ∷ xs) e = absurd e
  each_length (t ∷ ts) [] e = absurd e
  each_length (t ∷ ts) (x ∷ xs) e = ap suc (each_length ts xs e.1)
