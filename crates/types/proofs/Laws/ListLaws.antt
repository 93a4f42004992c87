-- Laws of lists and of the test for equal numbers that name nothing of this repository: said once, for every crate.
use Rattle.std.specs.Prelude.{ℕ, zero, suc, ◌+◌, ◌<◌, ◌≡◌, refl, Bool, true, false, List, [], ◌∷◌, ◌++◌, map, length, get_or, take, drop, eqb}
use Rattle.std.proofs.Common.{arith, add-one, sym, ap, ◌∙◌, append-nil, drop_of_length-le, drop-cons, eq-eqb, ne_eqb, eqb-true}
use Rattle.std.proofs.lemmas.List.Edits.{sets, sets-eq}
use Rattle.std.proofs.lemmas.Bool.{eqb-false}

-- Equal numbers ----------------------------------------------------------------

pub eqb_sym : (a b : ℕ) → eqb a b ≡ eqb b a
eqb_sym a b = go (eqb a b) refl
  where
    go : (t : Bool) → eqb a b ≡ t → eqb a b ≡ eqb b a
    go true e = e ∙ sym (eq-eqb b a (sym (eqb-true a b e)))
    go false e = e ∙ sym (ne_eqb b a (λ h. eqb-false a b e (sym h)))

-- Lists ------------------------------------------------------------------------

pub cons_eq : {A : Type 0} {a b : A} {k l : List A} → a ≡ b → k ≡ l → a ∷ k ≡ b ∷ l
cons_eq e f = cc

-- the element at a place and those behind it
pub drop_next : (l : List ℕ) (i : ℕ) → i < length l → drop i l ≡ get_or l i 0 ∷ drop (i + 1) l
drop_next l i h = rw (add-one, drop-cons l i 0)

pub map_take : {A B : Type 0} (f : A → B) (n : ℕ) (l : List A) → map f (take n l) ≡ take n (map f l)
map_take f zero l = refl
map_take f (suc n) [] = refl
map_take f (suc n) (a ∷ l) = ap (λ m. f a ∷ m) (map_take f n l)

pub map_drop : {A B : Type 0} (f : A → B) (n : ℕ) (l : List A) → map f (drop n l) ≡ drop n (map f l)
map_drop f zero l = refl
map_drop f (suc n) [] = refl
map_drop f (suc n) (a ∷ l) = map_drop f n l

pub map_twice : {A B C : Type 0} (f : B → C) (g : A → B) (l : List A) → map f (map g l) ≡ map (λ a. f (g a)) l
map_twice f g [] = refl
map_twice f g (a ∷ l) = ap (λ m. f (g a) ∷ m) (map_twice f g l)

-- Values stored in a row -------------------------------------------------------

-- as many as there are places
pub sets_whole : (l vs : List ℕ) → length vs ≡ length l → sets l 0 vs ≡ vs
sets_whole l vs e =
    sets-eq vs l 0 (omega arith) ∙ ap (λ k. vs ++ k) (drop_of_length-le l {i = 0 + length vs} (omega arith)) ∙ append-nil vs
