-- One element of a list changed by a function, and when two such changes may be made in either order.
use Rattle.std.specs.Prelude.{ℕ, zero, suc, ◌≡◌, refl, List, [], ◌∷◌, set}
use Rattle.std.proofs.Common.{sym, ap}
use Rattle.std.proofs.Math.Option.{some}
use Rattle.std.proofs.Math.ListN.{get_elem?}
use Rattle.sound.proofs.Laws.ElemLaws.{none_some, some_is}

module _ {A : Type 0} where
  abbrev pub alter : List A → ℕ → (A → A) → List A
  alter [] n f = []
  alter (x ∷ xs) zero f = f x ∷ xs
  alter (x ∷ xs) (suc n) f = x ∷ alter xs n f

  -- an element put back is one changed
  pub set_alter : (xs : List A) (n : ℕ) (f : A → A) (x : A) → get_elem? xs n ≡ some x → set xs n (f x) ≡ alter xs n f
  set_alter [] n f x e = none_some e
  set_alter (y ∷ xs) zero f x e = ap {B = List A} (λ z. f z ∷ xs) (sym (some_is e))
  set_alter (y ∷ xs) (suc n) f x e = ap {B = List A} (λ t. y ∷ t) (set_alter xs n f x e)

  pub at_alter_same : (xs : List A) (n : ℕ) (f : A → A) (x : A) → get_elem? xs n ≡ some x → get_elem? (alter xs n f) n ≡ some (f x)
  at_alter_same [] n f x e = none_some e
  at_alter_same (y ∷ xs) zero f x e = ap (λ z. some (f z)) (some_is e)
  at_alter_same (y ∷ xs) (suc n) f x e = at_alter_same xs n f x e

  pub at_alter_other : (xs : List A) (n k : ℕ) (f : A → A) → (k ≡ n → ⊥) → get_elem? (alter xs n f) k ≡ get_elem? xs k
  at_alter_other [] n k f h = refl
  at_alter_other (y ∷ xs) zero zero f h = absurd (h refl)
  at_alter_other (y ∷ xs) zero (suc k) f h = refl
  at_alter_other (y ∷ xs) (suc n) zero f h = refl
  at_alter_other (y ∷ xs) (suc n) (suc k) f h = at_alter_other xs n k f (λ e. h (ap suc e))

  -- at two places
  pub alter_apart : (xs : List A) (a l : ℕ) (f g : A → A) → (a ≡ l → ⊥) → alter (alter xs a f) l g ≡ alter (alter xs l g) a f
  alter_apart [] a l f g h = refl
  alter_apart (x ∷ xs) zero zero f g h = absurd (h refl)
  alter_apart (x ∷ xs) zero (suc l) f g h = refl
  alter_apart (x ∷ xs) (suc a) zero f g h = refl
  alter_apart (x ∷ xs) (suc a) (suc l) f g h = ap {B = List A} (λ t. x ∷ t) (alter_apart xs a l f g (λ e. h (ap suc e)))

  -- by functions that commute, wherever
  pub alter_commute : (xs : List A) (a l : ℕ) (f g : A → A) → ((x : A) → g (f x) ≡ f (g x)) → alter (alter xs a f) l g ≡ alter (alter xs l g) a f
  alter_commute [] a l f g h = refl
  alter_commute (x ∷ xs) zero zero f g h = ap {B = List A} (λ y. y ∷ xs) (h x)
  alter_commute (x ∷ xs) zero (suc l) f g h = refl
  alter_commute (x ∷ xs) (suc a) zero f g h = refl
  alter_commute (x ∷ xs) (suc a) (suc l) f g h = ap {B = List A} (λ t. x ∷ t) (alter_commute xs a l f g h)
