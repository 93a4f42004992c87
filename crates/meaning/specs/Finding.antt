-- Names are found, and tests of names decided.
use Prim.Native.Nat.{ℕ, suc}
use Rattle.std.proofs.Common.{arith, sym, ap, ◌∙◌, eq-eqb}
use Rattle.std.specs.Prelude.{◌≡◌, Bool, false, ◌&&◌, not}
use Rattle.std.proofs.Math.Path.{refl}
use Rattle.std.proofs.Math.Bool.{true}
use Rattle.std.proofs.lemmas.Bool.{false≢true, not-true, not-false}
use mathlib.Core.List.{List, [], ◌∷◌, map}
use Rattle.std.proofs.Math.Option.{Option, none, some}
use Rattle.types.specs.Decides.{Decides, decides_both}
use Rattle.tokens.specs.Tokens.{same}
use Rattle.tokens.proofs.Laws.ByteLaws.{same_true}
use Rattle.syntax.specs.Syntax.{Id}
use Rattle.meaning.specs.Scope.{Found, Found.here, Found.later, Absent, Distinct}

-- a place and what stands there
pub record Place (A : Type 0) : Type 0 where
  pub at : ℕ
  pub element : A

unfoldable pub one_later : {A : Type 0} → Option (Place A) → Option (Place A)
one_later none = none
one_later (some p) = some (record { at = suc p.at; element = p.element })

unfoldable pub find : {A : Type 0} → (A → Id) → Id → List A → Option (Place A)
find key x [] = none
find key x (a ∷ l) = elim (same (key a) x) [ true ↦ some (record { at = 0; element = a }) | false ↦ one_later (find key x l) ]

unfoldable pub absent : Id → List Id → Bool
absent x [] = true
absent x (y ∷ l) = not (same y x) && absent x l

unfoldable pub distinct : List Id → Bool
distinct [] = true
distinct (x ∷ l) = absent x l && distinct l

-- Laws ---------------------------------------------------------------------------------------

same_refl : (s : List ℕ) → same s s ≡ true
unfolding same
same_refl [] = refl
same_refl (a ∷ s) = rw (eq-eqb a a refl) (same_refl s)

pub decides_same : (s t : List ℕ) → Decides (same s t) (s ≡ t)
decides_same s t = record { holds = same_true s t; fails = λ e q. false≢true (sym e ∙ ap (λ u. same s u) (sym q) ∙ same_refl s) }

decides_not : {P : Type 0} (t : Bool) → Decides t P → Decides (not t) (P → ⊥)
decides_not t d = record { holds = λ e. d.fails (not-true t e); fails = λ e n. n (d.holds (not-false t e)) }

pub decides_absent : (x : Id) (l : List Id) → Decides (absent x l) (Absent x l)
unfolding absent
decides_absent x [] = record { holds = λ e. tt; fails = λ e q. false≢true (sym e) }
decides_absent x (y ∷ l) = decides_both (not (same y x)) (absent x l) (decides_not (same y x) (decides_same y x)) (decides_absent x l)

pub decides_distinct : (l : List Id) → Decides (distinct l) (Distinct l)
unfolding distinct
decides_distinct [] = record { holds = λ e. tt; fails = λ e q. false≢true (sym e) }
decides_distinct (x ∷ l) = decides_both (absent x l) (distinct l) (decides_absent x l) (decides_distinct l)

nothing_found : {A P : Type 0} {b : A} → ◌≡◌ {A = Option A} none (some b) → P
nothing_found e = absurd (let z : ◌≡◌ {A = ℕ} 0 1 = cc in omega arith)

pub is_not : {t : Bool} {P : Type 0} → Decides t P → (P → ⊥) → t ≡ false
is_not {t} d n = go t refl
  where
    go : (u : Bool) → t ≡ u → t ≡ false
    go true e = absurd (n (d.holds e))
    go false e = e

module _ {A : Type 0} (key : A → Id) (x : Id) where
  pub find_sound : (l : List A) (p : Place A) → find key x l ≡ some p → Found key x p.at p.element l
  unfolding find one_later
  find_sound [] p e = nothing_found e
  find_sound (a ∷ l) p e = go (same (key a) x) refl (find key x l) refl (λ q. find_sound l q)
    where
      last : (q : Place A) → some (record { at = suc q.at; element = q.element }) ≡ some p → Found key x q.at q.element l → (key a ≡ x → ⊥)
          → Found key x p.at p.element (a ∷ l)
      last q g f n = let h : record { at = suc q.at; element = q.element } ≡ p = cc in rw (← h) (later n f)

      go : (t : Bool) → same (key a) x ≡ t → (o : Option (Place A)) → find key x l ≡ o
          → ((q : Place A) → find key x l ≡ some q → Found key x q.at q.element l)
          → Found key x p.at p.element (a ∷ l)
      go true t o f rec =
          let g : some (record { at = 0; element = a }) ≡ some p = rw (t, find) at e in
          let h : record { at = 0; element = a } ≡ p = cc in
          rw (← h) (here (same_true (key a) x t))
      go false t none f rec = let g : ◌≡◌ {A = Option (Place A)} none (some p) = rw (t, find, f) at e in nothing_found g
      go false t (some q) f rec = last q (rw (t, find, f) at e) (rec q f) ((decides_same (key a) x).fails t)

  pub find_complete : {l : List A} {i : ℕ} {b : A} → Found key x i b l → find key x l ≡ some (record { at = i; element = b })
  unfolding find one_later
  find_complete (here {a = a} e) = let z : same (key a) x ≡ true = rw e (same_refl x) in rw (z, find) refl
  find_complete (later {b = a} n f) = rw (is_not (decides_same (key a) x) n, find) (rw (find_complete f) refl)

  -- what is found is not absent
  pub found_there : {l : List A} {i : ℕ} {b : A} → Found key x i b l → Absent x (map key l) → ⊥
  found_there (here e) a = a.0 e
  found_there (later n f) a = found_there f a.1
