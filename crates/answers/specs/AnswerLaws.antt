-- Laws of what readers answer (01, 'Program stream'): what was read, from what was answered; and things in a row, which are totalled up
-- from the first on.
use Prim.Native.Nat.{ℕ, zero, suc, ◌-◌}
use Rattle.std.proofs.Common.{sub-one}
use Rattle.std.specs.Prelude.{◌≡◌, Result as Answered, Ok, Err}
use Rattle.std.proofs.Math.Path.{refl, ap}
use Rattle.program.specs.Reader.{Result, Result.ok, Result.bad, then, made, many}
use Rattle.answers.specs.Answers.{answer}

-- the parts of two pairs that are answered alike
pub ok_parts : {A B E : Type 0} (a c : A) (b d : B) → ◌≡◌ {A = Answered (A × B) E} (Ok (a, b)) (Ok (c, d)) → (a ≡ c) × (b ≡ d)
ok_parts {A} {B} a c b d e =
    let p : ◌≡◌ {A = A × B} (a, b) (c, d) = cc in
    (ap (λ q. q.0) p, ap (λ q. q.1) p)

pub ok_three : {A B C E : Type 0} (a x : A) (b y : B) (c z : C) → ◌≡◌ {A = Answered (A × B × C) E} (Ok (a, b, c)) (Ok (x, y, z))
    → (a ≡ x) × (b ≡ y) × (c ≡ z)
ok_three {A} {B} {C} a x b y c z e =
    let p : ◌≡◌ {A = A × B × C} (a, b, c) (x, y, z) = cc in
    (ap (λ q. q.0) p, ap (λ q. q.1) p, ap (λ q. q.2) p)

module _ {A F : Type 0} (f : A → F) where
  -- what was read, from what was answered
  pub answer_is : (r : Result A) (m : ℕ) (g : F) → answer f r ≡ Ok (m, g) → (a : A) × (r ≡ ok a m) × (f a ≡ g)
  answer_is (ok a n) m g e = let h = ok_parts n m (f a) g e in (a, rw h.0 refl, h.1)
  answer_is (bad p n) m g e = cc

  pub answer_stops : (r : Result A) (n : ℕ) → answer f r ≡ Err n → (p : ℕ) × (r ≡ bad p n)
  answer_stops (ok a m) n e = cc
  answer_stops (bad p k) n e = (p, cc)

  -- what is made of what was read is computed of it
  pub answer_made : {B : Type 0} (g : B → A) (r : Result B) → answer f (made g r) ≡ answer (λ b. f (g b)) r
  unfolding made then
  answer_made g (ok b m) = refl
  answer_made g (bad p n) = refl

-- Things in a row, each read by r. What is totalled up of them behind x is `total x`; behind x and the first of them, of which f computes
-- g, it is that of the others behind `step x g`.
module _ {A B F G T : Type 0} (z : B) (c : A → B → B) (r : ℕ → Result A) (f : F → A → G) (step : F → G → F) (total : F → B → T)
    (goes : (x : F) (a : A) (b : B) → total x (c a b) ≡ total (step x (f x a)) b) (x : F) (n at : ℕ) where
  -- none is left
  pub row_none : n ≡ 0 → answer (total x) (many z c r n at) ≡ Ok (at, total x z)
  unfolding many
  row_none e = rw e

  -- the first is not read
  pub row_stop : (n ≡ 0 → ⊥) → (i : ℕ) → answer (f x) (r at) ≡ Err i → answer (total x) (many z c r n at) ≡ Err i
  unfolding many then
  row_stop h i e = go n h
    where
      go : (n : ℕ) → (n ≡ 0 → ⊥) → answer (total x) (many z c r n at) ≡ Err i
      go zero h = absurd (h refl)
      go (suc n) h = rw (answer_stops (f x) (r at) i e).1

  -- or is, with the others behind it
  pub row_more : (n ≡ 0 → ⊥) → (m : ℕ) (g : G) → answer (f x) (r at) ≡ Ok (m, g)
      → answer (total x) (many z c r n at) ≡ answer (total (step x g)) (many z c r (n - 1) m)
  unfolding many then
  row_more h m g e = go n h
    where
      one : (a : A) → f x a ≡ g → (q : Result B) → answer (total x) (then q λ b k. ok (c a b) k) ≡ answer (total (step x g)) q
      one a i (ok b k) = ap (λ t. Ok (k, t)) (rw i at (goes x a b))
      one a i (bad p k) = refl

      go : (n : ℕ) → (n ≡ 0 → ⊥) → answer (total x) (many z c r n at) ≡ answer (total (step x g)) (many z c r (n - 1) m)
      go zero h = absurd (h refl)
      go (suc n) h =
          let i = answer_is (f x) (r at) m g e in
          rw (i.1, sub-one) (one i.0 i.2 (many z c r n m))
