-- Instances never change their struct and never go: what is of a type stays so.
use Rattle.std.specs.Prelude.{ℕ, zero, suc, ◌≡◌, refl, List, [], ◌∷◌, ◌++◌, length, set}
use Rattle.std.proofs.Math.Decide.{ℕ_discrete}
use Rattle.std.proofs.Common.{sym, ap, ◌∙◌}
use Rattle.std.proofs.Math.Option.{some}
use Rattle.std.proofs.Math.ListN.{get_elem?}
use Rattle.types.specs.Types.{Ty}
use Rattle.types.specs.Values.{Val}
use Rattle.types.proofs.Laws.ValueLaws.{value_as}
use Rattle.machine.specs.Published.{Env}
use Rattle.machine.specs.Machine.{Tagged, Instance, with_env, update_env}
use Rattle.sound.specs.Needs.{ValueAmong}
use Rattle.sound.specs.Invariant.{Fits}
use Rattle.sound.proofs.Laws.ElemLaws.{none_some, some_is, at_set_same, at_set_other, at_append}

-- the environment of the instance at a place changed
pub at_env_same : (is : List Instance) (n : ℕ) (ξ : Env) (i : Instance) → get_elem? is n ≡ some i
    → get_elem? (update_env is n ξ) n ≡ some (with_env i ξ)
unfolding update_env
at_env_same [] n ξ i e = none_some e
at_env_same (x ∷ is) zero ξ i e = ap (λ j. some (with_env j ξ)) (some_is e)
at_env_same (x ∷ is) (suc n) ξ i e = at_env_same is n ξ i e

-- at another place
pub at_env_other : (is : List Instance) (n k : ℕ) (ξ : Env) → (k ≡ n → ⊥) → get_elem? (update_env is n ξ) k ≡ get_elem? is k
unfolding update_env
at_env_other [] n k ξ h = refl
at_env_other (x ∷ is) zero zero ξ h = absurd (h refl)
at_env_other (x ∷ is) zero (suc k) ξ h = refl
at_env_other (x ∷ is) (suc n) zero ξ h = refl
at_env_other (x ∷ is) (suc n) (suc k) ξ h = at_env_other is n k ξ (λ e. h (ap suc e))

-- instances stay as many
pub env_length : (is : List Instance) (n : ℕ) (ξ : Env) → length (update_env is n ξ) ≡ length is
unfolding update_env
env_length [] n ξ = refl
env_length (x ∷ is) zero ξ = refl
env_length (x ∷ is) (suc n) ξ = ap suc (env_length is n ξ)

-- of the instance put there
pub env_set : (is : List Instance) (n : ℕ) (ξ : Env) (i : Instance) → update_env (set is n i) n ξ ≡ set is n (with_env i ξ)
unfolding update_env
env_set [] n ξ i = refl
env_set (x ∷ is) zero ξ i = refl
env_set (x ∷ is) (suc n) ξ i = ap (λ js. x ∷ js) (env_set is n ξ i)

-- every instance of the first is in the second, with its struct
pub record Keeps (is js : List Instance) : Type 0 where
  pub at : (l : ℕ) (i : Instance) → get_elem? is l ≡ some i → (j : Instance) × (get_elem? js l ≡ some j) × (j.struct ≡ i.struct)

-- kept in two changes, one after the other
pub keeps_then : {is js ks : List Instance} → Keeps is js → Keeps js ks → Keeps is ks
keeps_then f g = record {
  at = λ l i e.
      let a = f.at l i e in
      let b = g.at l a.0 a.1 in
      (b.0, b.1, b.2 ∙ a.2);
}

-- an instance put back with its struct
pub keeps_set : (is : List Instance) (n : ℕ) (i j : Instance) → get_elem? is n ≡ some i → j.struct ≡ i.struct → Keeps is (set is n j)
keeps_set is n i j e s = record { at = λ l k h. go l k h (ℕ_discrete l n) }
  where
    go : (l : ℕ) (k : Instance) → get_elem? is l ≡ some k → Dec (l ≡ n) → (j' : Instance) × (get_elem? (set is n j) l ≡ some j') × (j'.struct ≡ k.struct)
    go l k h (yes q) = (j, rw q (at_set_same is n j i e), let w : i ≡ k = some_is (sym e ∙ rw q at h) in s ∙ ap (λ x. x.struct) w)
    go l k h (no q) = (k, at_set_other is n l j q ∙ h, refl)

-- an environment changed
pub keeps_env : (is : List Instance) (n : ℕ) (ξ : Env) → Keeps is (update_env is n ξ)
keeps_env is n ξ = record { at = λ l k h. go l k h (ℕ_discrete l n) }
  where
    go : (l : ℕ) (k : Instance) → get_elem? is l ≡ some k → Dec (l ≡ n) → (j : Instance) × (get_elem? (update_env is n ξ) l ≡ some j) × (j.struct ≡ k.struct)
    go l k h (yes q) = (with_env k ξ, rw q (at_env_same is n ξ k (rw q at h)), refl)
    go l k h (no q) = (k, at_env_other is n l ξ q ∙ h, refl)

-- more instances after them
pub keeps_append : (is js : List Instance) → Keeps is (is ++ js)
keeps_append is js = record { at = λ l i h. (i, at_append is js l i h, refl) }

module _ {is js : List Instance} (k : Keeps is js) where
  -- a value stays of its type
  pub of_kept : (t : Ty) (v : Val) → ValueAmong is t v → ValueAmong js t v
  of_kept t v h = value_as t v (λ n l _ _ o. let a = k.at l o.0 o.1 in (a.0, a.1, a.2 ∙ o.2)) h

  -- in both senses
  pub fits_kept : (t : Ty) (x : Tagged) → Fits is t x → Fits js t x
  fits_kept t x f = (f.0, of_kept t x.is f.1)
