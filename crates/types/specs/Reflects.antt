-- A test that computes decides a condition: it is true where the condition holds, and false where it fails.
use Rattle.std.specs.Prelude.{ℕ, suc, ◌<◌, ◌≤◌, ◌≡◌, refl, ◌↔◌, Bool, true, false, not, ◌&&◌, leb, ltb, eqb}
use Rattle.std.proofs.Common.{arith, leb-true, leb-false, eqb-true}
use Rattle.std.proofs.lemmas.Bool.{false≢true, eqb-false}

pub data Reflects (A : Type 0) : Bool → Type 0 where
  holds : A → Reflects A true
  fails : (A → ⊥) → Reflects A false

-- such a test is true exactly where the condition holds
pub reflects_iff : {A : Type 0} {b : Bool} → Reflects A b → (b ≡ true) ↔ A
reflects_iff (holds a) = (λ e. a, λ x. refl)
reflects_iff (fails f) = (λ e. absurd (false≢true e), λ x. absurd (f x))

-- conditions that follow from each other have the same test
pub reflects_map : {A B : Type 0} {b : Bool} → (A → B) → (B → A) → Reflects A b → Reflects B b
reflects_map f g (holds a) = holds (f a)
reflects_map f g (fails n) = fails (λ b. n (g b))

-- the negated test decides the negation
pub reflects_negation : {A : Type 0} {b : Bool} → Reflects A b → Reflects (A → ⊥) (not b)
reflects_negation (holds a) = fails (λ f. f a)
reflects_negation (fails f) = holds f

-- the conjunction of tests decides that of conditions
pub reflects_both : {A B : Type 0} {a b : Bool} → Reflects A a → Reflects B b → Reflects (A × B) (a && b)
reflects_both (holds a) (holds b) = holds (a, b)
reflects_both (holds a) (fails g) = fails (λ p. g p.1)
reflects_both (fails f) s = fails (λ p. f p.0)

-- the comparisons decide ≤, < and equality
pub le_reflects : (a b : ℕ) → Reflects (a ≤ b) (leb a b)
le_reflects a b = go (leb a b) refl
  where
    go : (t : Bool) → leb a b ≡ t → Reflects (a ≤ b) t
    go true e = holds (leb-true a b e)
    go false e = fails (λ h. omega (arith, leb-false a b e))

pub lt_reflects : (a b : ℕ) → Reflects (a < b) (ltb a b)
lt_reflects a b = le_reflects (suc a) b

pub eq_reflects : (a b : ℕ) → Reflects (a ≡ b) (eqb a b)
eq_reflects a b = go (eqb a b) refl
  where
    go : (t : Bool) → eqb a b ≡ t → Reflects (a ≡ b) t
    go true e = holds (eqb-true a b e)
    go false e = fails (eqb-false a b e)
