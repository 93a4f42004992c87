-- The foremost of an order (01, 'Numbers from the input'), orders joined, and what an answer that tells an order says exactly.
use Rattle.std.specs.Prelude.{ℕ, ◌≡◌, refl, ◌↔◌, [], ◌∷◌, ◌++◌}
use Rattle.std.proofs.Common.{sym, ap, subst, ◌∙◌}
use Rattle.types.specs.Orders.{Order, NoneOf, Foremost, Numbered, Tells, Tells.refuses, Tells.passes}

-- The foremost ----------------------------------------------------------------------

-- the first, if its condition holds; else one of those after it
pub at_first : {n : ℕ} {C : Type 0} {l : Order} → C → Foremost ((n, C) ∷ l) n
at_first {C} {l} c = ([], l, C, refl, c, tt)

pub after_first : {r : ℕ × Type 0} {l : Order} {n : ℕ} → (r.1 → ⊥) → Foremost l n → Foremost (r ∷ l) n
after_first {r} f q = (r ∷ q.0, q.1, q.2, ap (λ (k : Order). r ∷ k) q.3, q.4, (f, q.5))

one_of : (a b r s : Order) (n m : ℕ) (C D : Type 0) → a ++ (n, C) ∷ r ≡ b ++ (m, D) ∷ s → C → D → NoneOf a → NoneOf b → n ≡ m
one_of [] [] r s n m C D e c d f g = let q : ◌≡◌ {A = ℕ × Type 0} (n, C) (m, D) = cc in ap (λ (z : ℕ × Type 0). z.0) q
one_of [] (k ∷ b) r s n m C D e c d f g =
    let q : ◌≡◌ {A = ℕ × Type 0} (n, C) k = cc in absurd (g.0 (subst (λ (z : ℕ × Type 0). z.1) q c))
one_of (k ∷ a) [] r s n m C D e c d f g =
    let q : ◌≡◌ {A = ℕ × Type 0} (m, D) k = cc in absurd (f.0 (subst (λ (z : ℕ × Type 0). z.1) q d))
one_of (k ∷ a) (j ∷ b) r s n m C D e c d f g =
    let q : a ++ (n, C) ∷ r ≡ b ++ (m, D) ∷ s = cc in one_of a b r s n m C D q c d f.1 g.1

-- only one is foremost
pub foremost_unique : {l : Order} {n m : ℕ} → Foremost l n → Foremost l m → n ≡ m
foremost_unique {n} {m} p q = one_of p.0 q.0 p.1 q.1 n m p.2 q.2 (sym p.3 ∙ q.3) p.4 q.4 p.5 q.5

none_there : (a r : Order) (n : ℕ) (C : Type 0) → NoneOf (a ++ (n, C) ∷ r) → C → ⊥
none_there [] r n C f c = f.0 c
none_there (k ∷ a) r n C f c = none_there a r n C f.1 c

-- none is where no condition holds
pub foremost_some : {l : Order} {n : ℕ} → Foremost l n → NoneOf l → ⊥
foremost_some {n} q f = none_there q.0 q.1 n q.2 (subst NoneOf q.3 f) q.4

-- what holds of every number holds of the foremost
pub foremost_numbered : (P : ℕ → Type 0) {l : Order} {n : ℕ} → Numbered P l → Foremost l n → P n
foremost_numbered P {n} h q = go q.0 (subst (Numbered P) q.3 h)
  where
    go : (a : Order) → Numbered P (a ++ (n, q.2) ∷ q.1) → P n
    go [] h = h.0
    go (r ∷ a) h = go a h.1

-- Orders joined ---------------------------------------------------------------------

-- what is foremost stays so, whatever the order goes on with
pub foremost_front : {l : Order} {n : ℕ} (t : Order) → Foremost l n → Foremost (l ++ t) n
foremost_front {l} {n} t q = (q.0, q.1 ++ t, q.2, ap (λ (k : Order). k ++ t) q.3 ∙ go q.0, q.4, q.5)
  where
    go : (a : Order) → (a ++ (n, q.2) ∷ q.1) ++ t ≡ a ++ (n, q.2) ∷ (q.1 ++ t)
    go [] = refl
    go (r ∷ a) = ap (λ (k : Order). r ∷ k) (go a)

-- no condition of two orders joined holds where none of either does
pub none_joined : (l t : Order) → NoneOf l → NoneOf t → NoneOf (l ++ t)
none_joined [] t f g = g
none_joined (r ∷ l) t f g = (f.0, none_joined l t f.1 g)

-- Answers ---------------------------------------------------------------------------

module _ {B : Type 0} {no : ℕ → B} {D : B → Type 0} {b : B} where
  -- the first holds; it does not, and those after it tell
  pub here : {n : ℕ} {C : Type 0} {l : Order} → b ≡ no n → C → Tells no D ((n, C) ∷ l) b
  here e c = refuses e (at_first c)

  pub past : {r : ℕ × Type 0} {l : Order} → (r.1 → ⊥) → Tells no D l b → Tells no D (r ∷ l) b
  past f (refuses e q) = refuses e (after_first f q)
  past f (passes q d) = passes (f, q) d

  pub past_all : {t : Order} (l : Order) → NoneOf l → Tells no D t b → Tells no D (l ++ t) b
  past_all [] f u = u
  past_all (r ∷ l) f u = past f.0 (past_all l f.1 u)

  -- the answer is a refusal exactly where its number is foremost; D holds exactly where none does
  module _ {l : Order} (same : (n m : ℕ) → no n ≡ no m → n ≡ m) (apart : (n : ℕ) → D (no n) → ⊥) (t : Tells no D l b) where
    pub tells_number : (n : ℕ) → (b ≡ no n) ↔ Foremost l n
    tells_number n = (forth t, back t)
      where
        forth : Tells no D l b → b ≡ no n → Foremost l n
        forth (refuses {n = m} e q) d = subst (Foremost l) (same m n (sym e ∙ d)) q
        forth (passes f d) e = absurd (apart n (subst D e d))

        back : Tells no D l b → Foremost l n → b ≡ no n
        back (refuses e q) p = e ∙ ap no (foremost_unique q p)
        back (passes f d) p = absurd (foremost_some p f)

    pub tells_none : D b ↔ NoneOf l
    tells_none = (forth t, back t)
      where
        forth : Tells no D l b → D b → NoneOf l
        forth (refuses {n = m} e q) d = absurd (apart m (subst D e d))
        forth (passes f d) c = f

        back : Tells no D l b → NoneOf l → D b
        back (refuses e q) f = absurd (foremost_some q f)
        back (passes f d) g = d
