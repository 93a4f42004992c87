-- The ways that small steps make (01, 'The words of demand 3'). A step uses no byte of the turns, or one; a turn is a step that uses one.
use Rattle.std.specs.Prelude.{ℕ, suc, List, ◌∷◌}
use Rattle.std.proofs.Math.Option.{Option, none, some}

-- from one place, with these bytes, steps lead to another, after so many turns, with those bytes left
pub data Steps {C : Type 0} (S : C → Option ℕ → C → Type 0) : C → List ℕ → ℕ → C → List ℕ → Type 0 where
  here : {c : C} {es : List ℕ} → Steps S c es 0 c es
  silent : {c d z : C} {es fs : List ℕ} {t : ℕ} → S c none d → Steps S d es t z fs → Steps S c es t z fs
  reads : {c d z : C} {e : ℕ} {es fs : List ℕ} {t : ℕ} → S c (some e) d → Steps S d es t z fs → Steps S c (e ∷ es) (suc t) z fs
