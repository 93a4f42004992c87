-- Laws of the ways that small steps make, whatever the steps (01, 'The words of demand 3'): of the published rules and of the machine alike.
use Rattle.std.specs.Prelude.{ℕ, suc, ◌+◌, ◌≡◌, refl, ◌⊎◌, List, length, drop}
use Rattle.std.proofs.Common.{subst, inl, inr, arith}
use Rattle.std.proofs.Math.Option.{Option, none, some}
use Rattle.run.specs.Steps.{Steps, Steps.here, Steps.silent, Steps.reads}

module _ {C : Type 0} {S : C → Option ℕ → C → Type 0} where
  -- the bytes left are those after the turns,
  pub steps_left : {c z : C} {es fs : List ℕ} {t : ℕ} → Steps S c es t z fs → drop t es ≡ fs
  steps_left here = refl
  steps_left (silent s v) = steps_left v
  steps_left (reads s v) = steps_left v

  -- and a turn has used each of the others
  pub steps_turns : {c z : C} {es fs : List ℕ} {t : ℕ} → Steps S c es t z fs → t + length fs ≡ length es
  steps_turns here = omega arith
  steps_turns (silent s v) = steps_turns v
  steps_turns (reads s v) = omega (arith, steps_turns v)

  -- one way after another
  pub steps_on : {c z w : C} {es fs gs : List ℕ} {t u : ℕ} → Steps S c es t z fs → Steps S z fs u w gs → (n : ℕ) × Steps S c es n w gs
  steps_on {u = u} here v = (u, v)
  steps_on (silent s x) v = let (n, y) = steps_on x v in (n, silent s y)
  steps_on (reads s x) v = let (n, y) = steps_on x v in (suc n, reads s y)

  -- what every step keeps is kept
  pub steps_keep : (P : C → Type 0) → ((c d : C) (a : Option ℕ) → S c a d → P c → P d)
      → {c z : C} {es fs : List ℕ} {t : ℕ} → Steps S c es t z fs → P c → P z
  steps_keep P k here h = h
  steps_keep P k (silent {c = c} {d = d} s v) h = steps_keep P k v (k c d none s h)
  steps_keep P k (reads {c = c} {d = d} {e = e} s v) h = steps_keep P k v (k c d (some e) s h)

  -- where one step at most leads on, of two places that a way passes through, the first leads to the second or the second to the first
  module _ (one : (c d d' : C) (a : Option ℕ) → S c a d → S c a d' → d ≡ d') (apart : (c d d' : C) (e : ℕ) → S c none d → S c (some e) d' → ⊥) where
    pub steps_one_way : {c z w : C} {es fs gs : List ℕ} {t u : ℕ} → Steps S c es t z fs → Steps S c es u w gs
        → ((n : ℕ) × Steps S z fs n w gs) ⊎ ((n : ℕ) × Steps S w gs n z fs)
    steps_one_way {u = u} here v = inl (u, v)
    steps_one_way {t = t} (silent s x) here = inr (t, silent s x)
    steps_one_way {w = w} {gs = gs} {u = u} (silent {c = c} {d = d} {es = es} s x) (silent {d = d'} r v) =
        steps_one_way x (subst (λ y. Steps S y es u w gs) (one c d' d none r s) v)
    steps_one_way (silent {c = c} {d = d} s x) (reads {d = d'} {e = e} r v) = absurd (apart c d d' e s r)
    steps_one_way {t = t} (reads s x) here = inr (t, reads s x)
    steps_one_way (reads {c = c} {d = d} {e = e} s x) (silent {d = d'} r v) = absurd (apart c d' d e r s)
    steps_one_way {w = w} {gs = gs} (reads {c = c} {d = d} {e = e} {es = es} s x) (reads {d = d'} {t = u} r v) =
        steps_one_way x (subst (λ y. Steps S y es u w gs) (one c d' d (some e) r s) v)

-- where T follows each step of S, it follows every way, by the same bytes
module _ {C D : Type 0} {S : C → Option ℕ → C → Type 0} {T : D → Option ℕ → D → Type 0} (R : C → D → Type 0)
    (follow : (c c' : C) (a : Option ℕ) (d : D) → R c d → S c a c' → (d' : D) × (T d a d') × (R c' d')) where
  pub simulates : {c z : C} {es fs : List ℕ} {t : ℕ} (d : D) → R c d → Steps S c es t z fs → (w : D) × (Steps T d es t w fs) × (R z w)
  simulates d r here = (d, here, r)
  simulates d r (silent {c = c} {d = c'} s v) =
      let (d', k, q) = follow c c' none d r s in let (w, x, y) = simulates d' q v in (w, silent k x, y)
  simulates d r (reads {c = c} {d = c'} {e = e} s v) =
      let (d', k, q) = follow c c' (some e) d r s in let (w, x, y) = simulates d' q v in (w, reads k x, y)
