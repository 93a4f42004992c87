-- Names each once: no two of them are the same, and where each has a number below a bound, there are no more of them than that.
use Rattle.std.specs.Prelude.{ℕ, zero, suc, ◌≤◌, ◌<◌, ◌≡◌, refl, Bool, true, false, List, [], ◌∷◌, ◌++◌, length}
use Rattle.std.proofs.Common.{arith, sym, ap, ◌∙◌}
use Rattle.std.proofs.lemmas.Bool.{false≢true}
use Rattle.types.specs.Decides.{is_true}
use Rattle.program.specs.Counts.{All}
use Rattle.tokens.specs.Tokens.{same}
use Rattle.syntax.specs.Syntax.{Id}
use Rattle.meaning.specs.Scope.{Absent, Distinct}
use Rattle.meaning.specs.StepNames.{among, once}
use Rattle.meaning.specs.Finding.{decides_same, is_not}
use Rattle.resolve.specs.Named.{sought}

-- a name that was met is not left
once_absent : (x : Id) (l met : List Id) → among x met ≡ true → Absent x (once met l)
unfolding once among
once_absent x [] met e = tt
once_absent x (y ∷ l) met e = go (among y met) refl (once_absent x l)
  where
    kept : (t : Bool) → same y x ≡ t → among x (y ∷ met) ≡ true
    kept true f = rw (among, f) refl
    kept false f = rw (among, f) e

    go : (t : Bool) → among y met ≡ t → ((met : List Id) → among x met ≡ true → Absent x (once met l)) → Absent x (once met (y ∷ l))
    go true f rec = rw (once, f) (rec met e)
    go false f rec = rw (once, f) ((λ g. false≢true (sym f ∙ ap (λ z. among z met) g ∙ e)), rec (y ∷ met) (kept (same y x) refl))

-- no name is left twice
pub once_distinct : (l met : List Id) → Distinct (once met l)
unfolding once among
once_distinct [] met = tt
once_distinct (y ∷ l) met = go (among y met) refl (once_distinct l)
  where
    go : (t : Bool) → among y met ≡ t → ((met : List Id) → Distinct (once met l)) → Distinct (once met (y ∷ l))
    go true f rec = rw (once, f) (rec met)
    go false f rec = rw (once, f) (once_absent y l (y ∷ met) (rw (among, is_true (decides_same y y) refl) refl), rec (y ∷ met))

-- what holds of all names holds of those that are left
pub once_all : (P : Id → Type 0) (l met : List Id) → All P l → All P (once met l)
unfolding once
once_all P [] met h = tt
once_all P (y ∷ l) met h = go (among y met) refl (λ m. once_all P l m h.1)
  where
    go : (t : Bool) → among y met ≡ t → ((m : List Id) → All P (once m l)) → All P (once met (y ∷ l))
    go true f rec = rw (once, f) (rec met)
    go false f rec = rw (once, f) (h.0, rec (y ∷ met))

-- names that are all found below n are at most n
pub few_found : (l : List Id) (n : ℕ) → Distinct l → All (λ x. sought x l < n) l → length l ≤ n
unfolding sought
few_found [] n d h = omega arith
few_found (y ∷ l) zero d h = absurd (omega (arith, h.0))
few_found (y ∷ l) (suc n) d h = let k = few_found l n d.1 (below l d.0 h.1) in omega (arith, k)
  where
    below : (m : List Id) → Absent y m → All (λ x. sought x (y ∷ l) < suc n) m → All (λ x. sought x l < n) m
    below [] a g = tt
    below (x ∷ m) a g =
        let f : same y x ≡ false = is_not (decides_same y x) (λ e. a.0 (sym e)) in
        let s : sought x (y ∷ l) ≡ suc (sought x l) = rw (sought, f) refl in
        ((let k = g.0 in omega (arith, s, k)), below m a.1 g.1)

pub all_append : {A : Type 0} (P : A → Type 0) (l m : List A) → All P l → All P m → All P (l ++ m)
all_append P [] m h k = k
all_append P (a ∷ l) m h k = (h.0, all_append P l m h.1 k)
