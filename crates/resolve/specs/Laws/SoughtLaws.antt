-- Lookups by place: a test of where a name is sought says whether it is found, and what stands where it is found stands there in tables made of the row.
use Prim.Native.Nat.{ℕ, zero, suc}
use Rattle.std.proofs.Common.{arith, sym, ap, ◌∙◌, le-leb, lt-ltb, le-ltb}
use Rattle.std.proofs.Math.Path.{◌≡◌, refl}
use Rattle.std.specs.Prelude.{Bool, length, get_or, drop, leb, ltb}
use Rattle.std.proofs.Math.Bool.{true, false}
use mathlib.Core.List.{List, [], ◌∷◌, map}
use Rattle.std.proofs.Math.Option.{Option, none, some}
use Rattle.std.proofs.lemmas.List.{length-map}
use Rattle.std.proofs.Math.Dec.{leb-suc-suc}
use Rattle.std.proofs.lemmas.Bool.{lt-leb}
use Rattle.tokens.specs.Tokens.{same}
use Rattle.syntax.specs.Syntax.{Id}
use Rattle.meaning.specs.Finding.{Place, find, one_later, absent, decides_absent, is_not, find_sound, found_there}
use Rattle.resolve.specs.Named.{sought}
use Rattle.resolve.specs.Laws.NamedLaws.{found_where_sought, none_where_sought}

module _ {A : Type 0} (key : A → Id) (x : Id) (l : List A) (k : List Id) (e : map key l ≡ k) where
  long : length k ≡ length l
  long = ap length (sym e) ∙ length-map l key

  pub missing : find key x l ≡ none → ltb (sought x k) (length k) ≡ false
  missing f =
      let n : sought x k ≡ length l = ap (sought x) (sym e) ∙ none_where_sought key x l f in
      le-ltb (sought x k) (length k) (omega (arith, n, long))

  pub present : (q : Place A) → find key x l ≡ some q → (ltb (sought x k) (length k) ≡ true) × (sought x k ≡ q.at)
  present q f =
      let h = found_where_sought key x l q f in
      let n : sought x k ≡ q.at = ap (sought x) (sym e) ∙ h.0 in
      (lt-ltb (sought x k) (length k) (omega (arith, n, long, h.1)), n)

-- what stands where a name is found
pub at_place : {A B : Type 0} (key : A → Id) (g : A → B) (d : B) (x : Id) (l : List A) (q : Place A) → find key x l ≡ some q
    → get_or (map g l) q.at d ≡ g q.element
unfolding find one_later
at_place key g d x [] q e = absurd (let z : ◌≡◌ {A = ℕ} 0 1 = cc in omega arith)
at_place {A} key g d x (a ∷ l) q e = go (same (key a) x) refl (find key x l) refl (λ r f. at_place key g d x l r f)
  where
    go : (t : Bool) → same (key a) x ≡ t → (o : Option (Place A)) → find key x l ≡ o
        → ((r : Place A) → find key x l ≡ some r → get_or (map g l) r.at d ≡ g r.element) → get_or (map g (a ∷ l)) q.at d ≡ g q.element
    go true t o f rec =
        let h : some (record { at = 0; element = a }) ≡ some q = rw (t, find) at e in
        let k : record { at = 0; element = a } ≡ q = cc in
        rw (← k) refl
    go false t none f rec = absurd (let h : ◌≡◌ {A = Option (Place A)} none (some q) = rw (t, find, f) at e in let z : ◌≡◌ {A = ℕ} 0 1 = cc in omega arith)
    go false t (some r) f rec =
        let h : some (record { at = suc r.at; element = r.element }) ≡ some q = rw (t, find, f) at e in
        let k : record { at = suc r.at; element = r.element } ≡ q = cc in
        rw (← k) (rec r f)

-- a name is absent where it is not found
module _ {A : Type 0} (key : A → Id) (x : Id) where
  pub absent_not : (l : List A) (q : Place A) → find key x l ≡ some q → absent x (map key l) ≡ false
  absent_not l q f = is_not (decides_absent x (map key l)) (found_there key x (find_sound key x l q f))

  pub absent_so : (l : List A) → find key x l ≡ none → absent x (map key l) ≡ true
  unfolding find one_later absent
  absent_so [] e = refl
  absent_so (a ∷ l) e = go (same (key a) x) refl (find key x l) refl (absent_so l)
    where
      go : (t : Bool) → same (key a) x ≡ t → (o : Option (Place A)) → find key x l ≡ o → (find key x l ≡ none → absent x (map key l) ≡ true)
          → absent x (map key (a ∷ l)) ≡ true
      go true t o f rec = absurd (let g : some (record { at = 0; element = a }) ≡ none = rw (t, find) at e in let z : ◌≡◌ {A = ℕ} 0 1 = cc in omega arith)
      go false t none f rec = rw t (rec f)
      go false t (some q) f rec =
          absurd (let g : some (record { at = suc q.at; element = q.element }) ≡ none = rw (t, find, f) at e in let z : ◌≡◌ {A = ℕ} 0 1 = cc in omega arith)

-- by where it is sought
pub absent_sought : (x : Id) (l : List Id) → absent x l ≡ leb (length l) (sought x l)
unfolding absent sought
absent_sought x [] = sym (le-leb 0 0 (omega arith))
absent_sought x (y ∷ l) = go (same y x) refl (absent_sought x l)
  where
    go : (t : Bool) → same y x ≡ t → absent x l ≡ leb (length l) (sought x l) → absent x (y ∷ l) ≡ leb (length (y ∷ l)) (sought x (y ∷ l))
    go true e rec =
        let f : sought x (y ∷ l) ≡ 0 = rw (sought, e) refl in
        let g : absent x (y ∷ l) ≡ false = rw e refl in
        g ∙ sym (lt-leb (suc (length l)) 0 (omega arith)) ∙ ap (leb (suc (length l))) (sym f)
    go false e rec =
        let f : sought x (y ∷ l) ≡ suc (sought x l) = rw (sought, e) refl in
        let g : absent x (y ∷ l) ≡ absent x l = rw e refl in
        g ∙ rec ∙ sym (leb-suc-suc (length l) (sought x l)) ∙ ap (leb (suc (length l))) (sym f)

-- what stands at a place, by what is left from there on
pub at_front : {A B : Type 0} (g : A → B) (d : B) (k : ℕ) (l : List A) (a : A) (m : List A) → drop k l ≡ a ∷ m → get_or (map g l) k d ≡ g a
at_front g d zero [] a m e = absurd (let z : ◌≡◌ {A = ℕ} 0 1 = cc in omega arith)
at_front g d zero (b ∷ l) a m e = let f : b ≡ a = cc in ap g f
at_front g d (suc k) [] a m e = absurd (let z : ◌≡◌ {A = ℕ} 0 1 = cc in omega arith)
at_front g d (suc k) (b ∷ l) a m e = at_front g d k l a m e
