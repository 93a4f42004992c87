-- Something is meant or there is a cause why not: one after another, and for names (02 §1, 17).
use Rattle.std.specs.Prelude.{ℕ, suc, ◌≡◌, refl, Bool, true, false, ◌⊎◌, List, [], ◌∷◌, ◌++◌, map, eqb}
use Rattle.std.proofs.Common.{arith, inl, inr}
use Rattle.types.specs.Decides.{Decides, decides_eqb}
use Rattle.tokens.specs.Tokens.{same}
use Rattle.syntax.specs.Syntax.{Id}
use Rattle.meaning.specs.Scope.{Found, Found.here, Found.later, Absent, Distinct, Each, Each.no_more, Each.and_then}
use Rattle.meaning.specs.StepNames.{among, once}
use Rattle.meaning.specs.Finding.{Place, decides_same}
use Rattle.meaning.specs.Unmeant.{Among, Among.first, Among.other, Twice, Twice.again, Twice.later_twice, One, One.this_one, One.later_one}

-- something is meant, or there is a cause why not
pub data Or (A : Type 0) (R : A → Type 0) (C : Type 0) : Type 0 where
  so : (a : A) → R a → Or A R C
  not_so : C → Or A R C

-- one thing after another: the first cause stops
pub after : {A B : Type 0} {R : A → Type 0} {S : B → Type 0} {C D : Type 0} → Or A R C → (C → D) → ((a : A) → R a → Or B S D) → Or B S D
after (so a r) f g = g a r
after (not_so c) f g = not_so (f c)

pub given : {B : Type 0} {S : B → Type 0} {P C D : Type 0} → P ⊎ C → (C → D) → (P → Or B S D) → Or B S D
given (inl p) f g = g p
given (inr c) f g = not_so (f c)

pub each_or : {A B : Type 0} {R : A → B → Type 0} {C : A → Type 0} → ((a : A) → Or B (R a) (C a)) → (l : List A) → Or (List B) (Each R l) (One C l)
each_or h [] = so [] no_more
each_or h (a ∷ l) = after (h a) this_one λ b r. after (each_or h l) later_one λ m e. so (b ∷ m) (and_then r e)

-- Tests ------------------------------------------------------------------------------------------

pub decided : {P : Type 0} (t : Bool) → Decides t P → P ⊎ (P → ⊥)
decided true d = inl (d.holds refl)
decided false d = inr (d.fails refl)

pub equal_or : (a b : ℕ) → (a ≡ b) ⊎ (a ≡ b → ⊥)
equal_or a b = decided (eqb a b) (decides_eqb a b)

pub same_or : (x y : Id) → (x ≡ y) ⊎ (x ≡ y → ⊥)
same_or x y = decided (same x y) (decides_same x y)

pub absent_or : (x : Id) (l : List Id) → (Absent x l) ⊎ (Among x l)
absent_or x [] = inl tt
absent_or x (y ∷ l) = go (same_or y x) (absent_or x l)
  where
    go : (y ≡ x) ⊎ (y ≡ x → ⊥) → (Absent x l) ⊎ (Among x l) → (Absent x (y ∷ l)) ⊎ (Among x (y ∷ l))
    go (inl e) r = inr (first e)
    go (inr n) (inl a) = inl (n, a)
    go (inr n) (inr m) = inr (other m)

pub distinct_or : (l : List Id) → (Distinct l) ⊎ (Twice l)
distinct_or [] = inl tt
distinct_or (x ∷ l) = go (absent_or x l) (distinct_or l)
  where
    go : (Absent x l) ⊎ (Among x l) → (Distinct l) ⊎ (Twice l) → (Distinct (x ∷ l)) ⊎ (Twice (x ∷ l))
    go (inl a) (inl d) = inl (a, d)
    go (inl a) (inr t) = inr (later_twice t)
    go (inr m) r = inr (again m)

module _ {A : Type 0} (key : A → Id) (x : Id) where
  abbrev pub FoundAt : List A → Place A → Type 0
  FoundAt l p = Found key x p.at p.element l

  pub found_or : (l : List A) → Or (Place A) (FoundAt l) (Absent x (map key l))
  found_or [] = not_so tt
  found_or (a ∷ l) = go (same_or (key a) x) (found_or l)
    where
      go : (key a ≡ x) ⊎ (key a ≡ x → ⊥) → Or (Place A) (FoundAt l) (Absent x (map key l)) → Or (Place A) (FoundAt (a ∷ l)) (Absent x (map key (a ∷ l)))
      go (inl e) r = so (record { at = 0; element = a }) (here e)
      go (inr n) (so p f) = so (record { at = suc p.at; element = p.element }) (later n f)
      go (inr n) (not_so b) = not_so (n, b)

-- a name among names: by its test, in a longer row, in a row kept as it is
pub among_test : (x : Id) (l : List Id) → among x l ≡ true → Among x l
unfolding among
among_test x [] e = absurd (let k : ◌≡◌ {A = ℕ} 0 1 = cc in omega (arith, k))
among_test x (y ∷ l) e = go (same y x) refl (among_test x l)
  where
    go : (t : Bool) → same y x ≡ t → (among x l ≡ true → Among x l) → Among x (y ∷ l)
    go true f rec = first ((decides_same y x).holds f)
    go false f rec = other (rec (rw (f, among) at e))

pub among_left : {x : Id} {l : List Id} (m : List Id) → Among x l → Among x (l ++ m)
among_left m (first e) = first e
among_left m (other a) = other (among_left m a)

pub among_right : {x : Id} (l : List Id) {m : List Id} → Among x m → Among x (l ++ m)
among_right [] a = a
among_right (y ∷ l) a = other (among_right l a)

pub same_row : {x : Id} {l : List Id} → Among x l → Among x (map (λ z. z) l)
same_row (first e) = first e
same_row (other a) = other (same_row a)

-- numbers are given to all names, each once
pub once_keeps : (x : Id) (met l : List Id) → Among x l → (Among x met) ⊎ (Among x (once met l))
unfolding once
once_keeps x met [] m = inr m
once_keeps x met (y ∷ l) m = go (among y met) refl m (once_keeps x met l) (once_keeps x (y ∷ met) l)
  where
    met_already : (l : List Id) → among y l ≡ true → y ≡ x → Among x l
    met_already l e f = rw (← f) (among_test y l e)

    kept : (Among x (y ∷ met)) ⊎ (Among x (once (y ∷ met) l)) → (Among x met) ⊎ (Among x (y ∷ once (y ∷ met) l))
    kept (inl (first e)) = inr (first e)
    kept (inl (other m)) = inl m
    kept (inr m) = inr (other m)

    go : (b : Bool) → among y met ≡ b → Among x (y ∷ l) → (Among x l → (Among x met) ⊎ (Among x (once met l)))
        → (Among x l → (Among x (y ∷ met)) ⊎ (Among x (once (y ∷ met) l))) → (Among x met) ⊎ (Among x (once met (y ∷ l)))
    go true e (first f) rec rec' = inl (met_already met e f)
    go true e (other n) rec rec' = rw (e, once) (rec n)
    go false e (first f) rec rec' = inr (rw (e, once) (first f))
    go false e (other n) rec rec' = rw (e, once) (kept (rec' n))
