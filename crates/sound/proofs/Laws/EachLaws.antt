-- Laws of lists that have one element for each type (`Each` of Table): their parts, their lengths and their elements.
use Rattle.std.specs.Prelude.{ℕ, zero, suc, ◌<◌, ◌≡◌, refl, length, get_or, set}
use Rattle.std.proofs.Common.{arith, ap}
use Rattle.std.proofs.Math.Option.{some}
use mathlib.Core.List.{List, [], ◌∷◌, ◌++◌, map, reverse, reverse_aux, reverse-reverse}
use Rattle.std.proofs.Math.ListN.{get_elem?}
use Rattle.types.specs.Types.{Ty}
use Rattle.table.specs.Table.{Each}
pub use Rattle.table.proofs.Laws.EachLaws.{each_length}

-- what holds of each pair and follows from another
pub each_map : {A : Type 0} {P Q : Ty → A → Type 0} → ((t : Ty) (x : A) → P t x → Q t x) → (ts : List Ty) (xs : List A) → Each P ts xs → Each Q ts xs
each_map f [] [] e = tt
each_map f [] (x ∷ xs) e = absurd e
each_map f (t ∷ ts) [] e = absurd e
each_map f (t ∷ ts) (x ∷ xs) e = (f t x e.0, each_map f ts xs e.1)

-- of the elements of a mapped list
pub each_of_map : {A B : Type 0} (P : Ty → B → Type 0) (f : A → B) (ts : List Ty) (xs : List A) → Each (λ t x. P t (f x)) ts xs → Each P ts (map f xs)
each_of_map P f [] [] e = tt
each_of_map P f [] (x ∷ xs) e = absurd e
each_of_map P f (t ∷ ts) [] e = absurd e
each_of_map P f (t ∷ ts) (x ∷ xs) e = (e.0, each_of_map P f ts xs e.1)

module _ {A : Type 0} (P : Ty → A → Type 0) where
  -- the first of them and the others
  pub each_uncons : (t : Ty) (r : List Ty) (xs : List A) → Each P (t ∷ r) xs → (x : A) × (ys : List A) × (xs ≡ x ∷ ys) × (P t x) × (Each P r ys)
  each_uncons t r [] e = absurd e
  each_uncons t r (x ∷ xs) e = (x, xs, refl, e.0, e.1)

  -- those of the first types and those of the others
  pub each_split : (ts r : List Ty) (xs : List A) → Each P (ts ++ r) xs
      → (ys : List A) × (zs : List A) × (xs ≡ ys ++ zs) × (Each P ts ys) × (Each P r zs)
  each_split [] r xs e = ([], xs, refl, tt, e)
  each_split (t ∷ ts) r [] e = absurd e
  each_split (t ∷ ts) r (x ∷ xs) e = let (ys, zs, q, a, b) = each_split ts r xs e.1 in (x ∷ ys, zs, ap (λ s. x ∷ s) q, (e.0, a), b)

  each_onto : (ts us : List Ty) (xs ys : List A) → Each P ts xs → Each P us ys → Each P (reverse_aux ts us) (reverse_aux xs ys)
  each_onto [] us [] ys e h = h
  each_onto [] us (x ∷ xs) ys e h = absurd e
  each_onto (t ∷ ts) us [] ys e h = absurd e
  each_onto (t ∷ ts) us (x ∷ xs) ys e h = each_onto ts (t ∷ us) xs (x ∷ ys) e.1 (e.0, h)

  -- in the reverse order
  pub each_reverse : (ts : List Ty) (xs : List A) → Each P (reverse ts) xs → Each P ts (reverse xs)
  each_reverse ts xs e = rw (reverse-reverse ts) at (each_onto (reverse ts) [] xs [] e tt)

  -- the element at the place of a type
  pub each_at : (d : Ty) (ts : List Ty) (xs : List A) (v : ℕ) → v < length ts → Each P ts xs → (x : A) × (get_elem? xs v ≡ some x) × (P (get_or ts v d) x)
  each_at d [] xs v h e = absurd (omega arith)
  each_at d (t ∷ ts) [] v h e = absurd e
  each_at d (t ∷ ts) (x ∷ xs) zero h e = (x, refl, e.0)
  each_at d (t ∷ ts) (x ∷ xs) (suc v) h e = each_at d ts xs v (omega arith) e.1

  -- one element changed for another of its type
  pub each_set : (d : Ty) (ts : List Ty) (xs : List A) (v : ℕ) (x : A) → P (get_or ts v d) x → Each P ts xs → Each P ts (set xs v x)
  each_set d [] [] v x h e = tt
  each_set d [] (y ∷ xs) v x h e = absurd e
  each_set d (t ∷ ts) [] v x h e = absurd e
  each_set d (t ∷ ts) (y ∷ xs) zero x h e = (h, e.1)
  each_set d (t ∷ ts) (y ∷ xs) (suc v) x h e = (e.0, each_set d ts xs v x h e.1)
