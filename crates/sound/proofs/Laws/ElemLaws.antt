-- Laws of the element at a place of a list, which get_elem? gives.
use Rattle.std.specs.Prelude.{ℕ, zero, suc, ◌+◌, ◌-◌, ◌<◌, ◌≤◌, ◌≡◌, refl, ◌⊎◌, List, [], ◌∷◌, ◌++◌, map, length, set, drop}
use Rattle.std.proofs.Common.{arith, zero-add, suc-add, ap, sym, inl, inr, ⊎_elim}
use Rattle.std.proofs.Math.Nat.{sub-zero, suc-sub-suc}
use Rattle.std.proofs.Math.Option.{none, some}
use Rattle.std.proofs.Math.ListN.{get_elem?}
use Rattle.program.specs.Counts.{All}

-- nothing is no element
pub none_some {ℓ} : {A : Type 0} {X : Type ℓ} {a : A} → none ≡ some a → X
none_some e = let z : ◌≡◌ {A = ℕ} 0 1 = cc in absurd (omega arith)

-- two elements that stand at one place are one
pub some_is : {A : Type 0} {a b : A} → some a ≡ some b → a ≡ b
some_is e = cc

module _ {A : Type 0} where
  -- the element at a place that was changed
  pub at_set_same : (l : List A) (n : ℕ) (a b : A) → get_elem? l n ≡ some b → get_elem? (set l n a) n ≡ some a
  at_set_same [] n a b e = none_some e
  at_set_same (x ∷ l) zero a b e = refl
  at_set_same (x ∷ l) (suc n) a b e = at_set_same l n a b e

  -- at another place
  pub at_set_other : (l : List A) (n k : ℕ) (a : A) → (k ≡ n → ⊥) → get_elem? (set l n a) k ≡ get_elem? l k
  at_set_other [] n k a h = refl
  at_set_other (x ∷ l) zero zero a h = absurd (h refl)
  at_set_other (x ∷ l) zero (suc k) a h = refl
  at_set_other (x ∷ l) (suc n) zero a h = refl
  at_set_other (x ∷ l) (suc n) (suc k) a h = at_set_other l n k a (λ e. h (ap suc e))

  -- in the first of two lists joined
  pub at_append : (l r : List A) (n : ℕ) (a : A) → get_elem? l n ≡ some a → get_elem? (l ++ r) n ≡ some a
  at_append [] r n a e = none_some e
  at_append (x ∷ l) r zero a e = e
  at_append (x ∷ l) r (suc n) a e = at_append l r n a e

  -- an element of a list with one more after it
  pub at_snoc : (l : List A) (b : A) (n : ℕ) (a : A) → get_elem? (l ++ b ∷ []) n ≡ some a
      → (get_elem? l n ≡ some a) ⊎ ((n ≡ length l) × (b ≡ a))
  at_snoc [] b zero a e = inr (refl, some_is e)
  at_snoc [] b (suc n) a e = none_some e
  at_snoc (x ∷ l) b zero a e = inl e
  at_snoc (x ∷ l) b (suc n) a e = ⊎_elim (λ h. inl h) (λ h. inr (ap suc h.0, h.1)) (at_snoc l b n a e)

  -- an element of two lists joined
  pub at_joined : (l r : List A) (n : ℕ) (a : A) → get_elem? (l ++ r) n ≡ some a
      → (get_elem? l n ≡ some a) ⊎ ((length l ≤ n) × (get_elem? r (n - length l) ≡ some a))
  at_joined [] r n a e = inr (omega arith, rw (sub-zero n) e)
  at_joined (x ∷ l) r zero a e = inl e
  at_joined (x ∷ l) r (suc n) a e = ⊎_elim (λ h. inl h) (λ h. inr (let q = h.0 in omega arith, rw (suc-sub-suc n (length l)) h.1)) (at_joined l r n a e)

  -- in the second
  pub at_behind : (l r : List A) (n : ℕ) → length l ≤ n → get_elem? (l ++ r) n ≡ get_elem? r (n - length l)
  at_behind [] r n h = rw (sub-zero n)
  at_behind (x ∷ l) r zero h = absurd (omega arith)
  at_behind (x ∷ l) r (suc n) h = rw (suc-sub-suc n (length l)) (at_behind l r n (omega arith))

  -- the one more
  pub at_last : (l : List A) (b : A) → get_elem? (l ++ b ∷ []) (length l) ≡ some b
  at_last [] b = refl
  at_last (x ∷ l) b = at_last l b

  -- where there is an element, the list reaches
  pub at_below : (l : List A) (n : ℕ) (a : A) → get_elem? l n ≡ some a → n < length l
  at_below [] n a e = none_some e
  at_below (x ∷ l) zero a e = omega arith
  at_below (x ∷ l) (suc n) a e = omega (arith, at_below l n a e)

  -- after the first n
  pub at_drop : (n : ℕ) (l : List A) (k : ℕ) → get_elem? (drop n l) k ≡ get_elem? l (n + k)
  at_drop zero l k = ap (get_elem? l) (sym (zero-add k))
  at_drop (suc n) [] k = refl
  at_drop (suc n) (x ∷ l) k = rw (suc-add n k) (at_drop n l k)

  module _ (C : A → Type 0) where
    -- what holds of all elements holds of the one at a place
    pub all_elem : (l : List A) (n : ℕ) (a : A) → All C l → get_elem? l n ≡ some a → C a
    all_elem [] n a c e = none_some e
    all_elem (x ∷ l) zero a c e = rw (← some_is e) c.0
    all_elem (x ∷ l) (suc n) a c e = all_elem l n a c.1 e

    -- and what holds of the one at each place holds of all
    pub elem_all : (l : List A) → ((n : ℕ) (a : A) → get_elem? l n ≡ some a → C a) → All C l
    elem_all [] f = tt
    elem_all (x ∷ l) f = (f 0 x refl, elem_all l (λ n a e. f (suc n) a e))

module _ {A B : Type 0} (f : A → B) where
  -- the element at a place of a mapped list
  pub at_map : (l : List A) (n : ℕ) (a : A) → get_elem? l n ≡ some a → get_elem? (map f l) n ≡ some (f a)
  at_map [] n a e = none_some e
  at_map (x ∷ l) zero a e = ap (λ y. some (f y)) (some_is e)
  at_map (x ∷ l) (suc n) a e = at_map l n a e

  -- and where it comes from
  pub map_at : (l : List A) (n : ℕ) (b : B) → get_elem? (map f l) n ≡ some b → (a : A) × (get_elem? l n ≡ some a) × (f a ≡ b)
  map_at [] n b e = none_some e
  map_at (x ∷ l) zero b e = (x, refl, some_is e)
  map_at (x ∷ l) (suc n) b e = map_at l n b e
