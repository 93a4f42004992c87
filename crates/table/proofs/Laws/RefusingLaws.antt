-- Readers that are put together refuse what their parts refuse (01, 11 and 12 of 'Numbers from the input').
use Prim.Native.Nat.{ℕ, zero, suc, ◌+◌, ◌-◌}
use native.Mathlib.Omega.{arith}
use Rattle.std.specs.Prelude.{◌≡◌, ◌↔◌, Bool, true, false, length, drop}
use Rattle.std.proofs.Math.Path.{refl}
use Rattle.std.proofs.Common.{sym, ◌∙◌}
use mathlib.Core.List.{List, [], ◌∷◌, ◌++◌, append_assoc, append_cancel_left}
use Rattle.program.specs.Encoding.{flat}
use Rattle.program.specs.Reader.{Result, Result.ok, Result.bad, wrong_byte, then, pair, made, many, guard}
use Rattle.program.specs.Exact.{Exact}
use Rattle.program.proofs.Laws.StandsLaws.{stands_drop, stands_of}
use Rattle.program.proofs.Laws.PartLaws.{told_is, then_ok}
use Rattle.table.specs.Refusing.{Faults, Blames, Blames.unblamed, Blames.blamed, Refusing, Joined, Joined.in_first, Joined.in_second, InRow, InRow.in_row}

-- what is said of a refusal gets weaker
blames_weak : {A : Type 0} {P Q : ℕ → Type 0} {r : Result A} → Blames P r → ((k : ℕ) → P k → Q k) → Blames Q r
blames_weak unblamed h = unblamed
blames_weak (blamed {k = k} p) h = blamed (h k p)

-- a refusal is refused with the number that is said of it
pub blames_is : {A : Type 0} {P : ℕ → Type 0} {r : Result A} {p k : ℕ} → Blames P r → r ≡ bad p k → P k
blames_is {A = A} {P = P} {p = p} {k = k} h e = go (rw e at h)
  where
    go : Blames {A = A} P (bad p k) → P k
    go (blamed q) = q

module _ {A : Type 0} {r : List ℕ → ℕ → Result A} {P : Faults} (x : Refusing r P) where
  -- the same in other words
  pub refusing_iff : {Q : Faults} → ((k : ℕ) (t : List ℕ) → P k t ↔ Q k t) → Refusing r Q
  refusing_iff h = record {
    sound = λ s n. blames_weak (x.sound s n) λ k. (h k (drop n s)).0;
    complete = λ s n k q. x.complete s n k ((h k (drop n s)).1 q);
  }

  -- what f makes of a value
  pub made_refusing : {B : Type 0} (f : A → B) → Refusing (λ s n. made f (r s n)) P
  unfolding made then
  made_refusing {B = B} f = record {
    sound = λ s n. sound s n (r s n) (x.sound s n);
    complete = λ s n k p. let q = x.complete s n k p in (q.0, rw q.1);
  }
    where
      sound : (s : List ℕ) (n : ℕ) (q : Result A) → Blames (λ k. P k (drop n s)) q → Blames (λ k. P k (drop n s)) (made f q)
      sound s n q unblamed = unblamed
      sound s n q (blamed p) = blamed p

-- what refuses nothing
pub ok_refusing : {A : Type 0} (a : A) → Refusing (λ s n. ok a n) (λ k t. ⊥)
ok_refusing a = record { sound = λ s n. unblamed; complete = λ s n k p. absurd p }

-- a test that was made refuses as it came out
pub guard_refusing : {A : Type 0} (b : Bool) (a : A) → Refusing (λ s n. guard b (n - 1) a n) (λ k t. (k ≡ wrong_byte) × (b ≡ false))
unfolding guard
guard_refusing true a = record {
  sound = λ s n. unblamed;
  complete = λ s n k p. let e = p.1 in let z : ◌≡◌ {A = ℕ} 0 1 = cc in absurd (omega arith);
}
guard_refusing false a = record {
  sound = λ s n. blamed (refl, refl);
  complete = λ s n k p. (n - 1, rw p.0);
}

module _ {A : Type 0} {C : A → Type 0} {E : A → List ℕ} {r : List ℕ → ℕ → Result A} {P : Faults} (x : Exact C E r) (y : Refusing r P) where
  -- one thing and another behind it
  pub then_refusing : {B : Type 0} {q : A → List ℕ → ℕ → Result B} {R : A → Faults} → ((a : A) → C a → Refusing (q a) (R a))
      → Refusing (λ s n. then (r s n) λ a. q a s) (Joined C E P R)
  unfolding then
  then_refusing {B = B} {q = q} {R = R} z = record {
    sound = λ s n. sound s n (r s n) refl (y.sound s n);
    complete = complete;
  }
    where
      sound : (s : List ℕ) (n : ℕ) (v : Result A) → r s n ≡ v → Blames (λ k. P k (drop n s)) v
          → Blames (λ k. Joined C E P R k (drop n s)) (then v λ a. q a s)
      sound s n v e (blamed p) = blamed (in_first p)
      sound s n v e (unblamed {a = a} {m = m}) =
          let w = told_is (x.sound s n) e in
          blames_weak ((z a w.0).sound s m) λ k h. in_second a (drop m s) w.0 (stands_drop w.1) h

      complete : (s : List ℕ) (n k : ℕ) → Joined C E P R k (drop n s) → (p : ℕ) × (then (r s n) (λ a. q a s) ≡ bad p k)
      complete s n k (in_first p) = let h = y.complete s n k p in (h.0, rw h.1)
      complete s n k (in_second a u c e h) =
          let m = n + length (E a) in
          let w = stands_of s (E a) u n e in
          let d : u ≡ drop m s = append_cancel_left (E a) u (drop m s) (sym e ∙ stands_drop w) in
          let f = (z a c).complete s m k (rw d at h) in
          (f.0, then_ok _ (x.complete s a n m c w) f.1)

  pub pair_refusing : {B : Type 0} {q : A → List ℕ → ℕ → Result B} {R : A → Faults} → ((a : A) → C a → Refusing (q a) (R a))
      → Refusing (λ s n. pair (r s n) λ a. q a s) (Joined C E P R)
  unfolding pair made
  pair_refusing z = then_refusing λ a c. made_refusing (z a c) λ b. (a, b)

  -- i things in a row
  pub row_refusing : {B : Type 0} (z : B) (c : A → B → B) (i : ℕ) → Refusing (λ s. many z c (r s) i) (InRow C E P i)
  unfolding many made flat
  row_refusing z c zero = refusing_iff (ok_refusing z) λ k t. (λ p. absurd p, none k t)
    where
      none : (k : ℕ) (t : List ℕ) → InRow C E P 0 k t → ⊥
      none k t (in_row l u h a e p) = omega arith
  row_refusing z c (suc i) =
      refusing_iff (then_refusing λ a d. made_refusing (row_refusing z c i) (c a)) λ k t. (forth k t, back k t)
    where
      forth : (k : ℕ) (t : List ℕ) → Joined C E P (λ a. InRow C E P i) k t → InRow C E P (suc i) k t
      forth k t (in_first p) = in_row [] t (omega arith) tt refl p
      forth k t (in_second a u d e (in_row l v h f g p)) =
          in_row (a ∷ l) v (omega arith) (d, f) (rw (e, g) (sym (append_assoc (E a) (flat E l) v))) p

      back : (k : ℕ) (t : List ℕ) → InRow C E P (suc i) k t → Joined C E P (λ a. InRow C E P i) k t
      back k t (in_row [] u h f e p) = in_first (rw e p)
      back k t (in_row (a ∷ l) u h f e p) =
          in_second a (flat E l ++ u) f.0 (rw e (append_assoc (E a) (flat E l) u)) (in_row l u (omega arith) f.1 refl p)
