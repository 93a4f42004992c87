-- The operators as the code names them: what no arm of a match takes.
use Rattle.std.specs.Prelude.{ℕ, ◌≡◌, refl, Bool}
use Rattle.operators.specs.Apply.{Answer.unfit, on_truths, on_labels}
use Rattle.operators.specs.Named.{meant}
use Rattle.operators.specs.declared.Operator.{Operator}
use Rattle.operators.specs.declared.Operator.TheVariants.{Eq, Ne, Le, Ge, Lt, Gt, Mul, Div, Rem, Add, Sub, And, Or}

-- Order and arithmetic do not take truths.
pub truths_unfit : (s t : Bool) (o : Operator) → (o ≡ Eq → ⊥) → (o ≡ Ne → ⊥) → (o ≡ And → ⊥) → (o ≡ Or → ⊥) → unfit ≡ on_truths (meant o) s t
unfolding on_truths meant
truths_unfit s t Eq a b c d = absurd (a refl)
truths_unfit s t Ne a b c d = absurd (b refl)
truths_unfit s t Le a b c d = refl
truths_unfit s t Ge a b c d = refl
truths_unfit s t Lt a b c d = refl
truths_unfit s t Gt a b c d = refl
truths_unfit s t Mul a b c d = refl
truths_unfit s t Div a b c d = refl
truths_unfit s t Rem a b c d = refl
truths_unfit s t Add a b c d = refl
truths_unfit s t Sub a b c d = refl
truths_unfit s t And a b c d = absurd (c refl)
truths_unfit s t Or a b c d = absurd (d refl)

-- Only = and ≠ take labels.
pub labels_unfit : (l m : ℕ) (o : Operator) → (o ≡ Eq → ⊥) → (o ≡ Ne → ⊥) → unfit ≡ on_labels (meant o) l m
unfolding on_labels meant
labels_unfit l m Eq a b = absurd (a refl)
labels_unfit l m Ne a b = absurd (b refl)
labels_unfit l m Le a b = refl
labels_unfit l m Ge a b = refl
labels_unfit l m Lt a b = refl
labels_unfit l m Gt a b = refl
labels_unfit l m Mul a b = refl
labels_unfit l m Div a b = refl
labels_unfit l m Rem a b = refl
labels_unfit l m Add a b = refl
labels_unfit l m Sub a b = refl
labels_unfit l m And a b = refl
labels_unfit l m Or a b = refl
