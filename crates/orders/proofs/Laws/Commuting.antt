-- Why the order of a step does not matter, over any machine whose commands commute where their deeds do not clash: an instance's next
-- command can be brought to the front of an order that completes the step.
use Rattle.std.specs.Prelude.{ℕ, suc, ◌+◌, ◌≡◌, refl, ◌⊎◌, length}
use Rattle.std.proofs.Math.Decide.{ℕ_discrete}
use Rattle.std.proofs.Common.{sym, ap, inl, inr, arith}
use mathlib.Core.List.Memᴰ
use mathlib.Core.List.{List, [], ◌∷◌, Memᴰ}
use Rattle.orders.specs.Deeds.{Act}

module _ {M D : Type 0} (Step : ℕ → M → D → M → Type 0) (Holds : ℕ → M → Type 0) (Inv : M → Type 0) (Clash : D → D → Type 0) where
  pub data Traced : M → List (Act D) → M → Type 0 where
    stay : {m : M} → Traced m [] m
    go_on : {m m' z : M} {l : ℕ} {d : D} {ds : List (Act D)} → Step l m d m' → Traced m' ds z → Traced m (record { actor = l; deed = d } ∷ ds) z

  -- two different actors never clash
  abbrev pub Apart : List (Act D) → Type 0
  Apart ds = (x y : Act D) → Memᴰ x ds → Memᴰ y ds → (x.actor ≡ y.actor → ⊥) → Clash x.deed y.deed → ⊥

  -- an order to z with instance l first
  pub record Front (m : M) (l : ℕ) (ds : List (Act D)) (z : M) : Type 0 where
    pub deed : D
    pub next : M
    pub rest : List (Act D)
    pub step : Step l m deed next
    pub traced : Traced next rest z
    pub long : length ds ≡ suc (length rest)
    pub mine : Memᴰ (record { actor = l; deed = deed }) ds
    pub others : (x : Act D) → Memᴰ x rest → Memᴰ x ds

  -- what is asked of the machine's commands
  pub record Commuting : Type 0 where
    -- a's command and then l's, which do not clash, may be taken the other way round
    pub swap : {m m₁ m₂ : M} {a l : ℕ} {d e : D} → Inv m → (a ≡ l → ⊥) → Step a m d m₁ → Step l m₁ e m₂ → (Clash d e → ⊥)
        → (n : M) × (Step l m e n) × (Step a n d m₂)
    -- who holds commands goes on holding them while another acts
    pub holding : {m m₁ : M} {a l : ℕ} {d : D} → Holds l m → (a ≡ l → ⊥) → Step a m d m₁ → Holds l m₁
    pub kept : {m m₁ : M} {a : ℕ} {d : D} → Inv m → Step a m d m₁ → Inv m₁
    -- who acts holds commands, and there is one next machine
    pub acts : {m m₁ : M} {a : ℕ} {d : D} → Step a m d m₁ → Holds a m
    pub one : {m m₁ m₂ : M} {a : ℕ} {d e : D} → Step a m d m₁ → Step a m e m₂ → m₁ ≡ m₂

  module _ (c : Commuting) where
    -- after a command of another instance, which is taken after l's instead
    module _ {m m₁ z : M} {l a : ℕ} {d : D} {ds : List (Act D)} (i : Inv m) (s : Step a m d m₁)
        (apart : Apart (record { actor = a; deed = d } ∷ ds)) where
      swapped : (a ≡ l → ⊥) → Front m₁ l ds z → Front m l (record { actor = a; deed = d } ∷ ds) z
      swapped q f =
          let (n, one, two) =
          c.swap i q s f.step
          (apart (record { actor = a; deed = d }) (record { actor = l; deed = f.deed }) (Memᴰ.head refl)
          (Memᴰ.tail f.mine) q) in
          record {
            deed = f.deed;
            next = n;
            rest = record { actor = a; deed = d } ∷ f.rest;
            step = one;
            traced = go_on two f.traced;
            long = ap suc f.long;
            mine = Memᴰ.tail f.mine;
            others = λ x u. pick x (Memᴰ.cases_cons u);
          }
        where
          pick : (x : Act D) → (x ≡ record { actor = a; deed = d }) ⊎ Memᴰ x f.rest → Memᴰ x (record { actor = a; deed = d } ∷ ds)
          pick x (inl e) = Memᴰ.head e
          pick x (inr u) = Memᴰ.tail (f.others x u)

      by : Traced m₁ ds z → ((a ≡ l → ⊥) → Front m₁ l ds z) → Dec (a ≡ l) → Front m l (record { actor = a; deed = d } ∷ ds) z
      by t later (yes q) = record {
        deed = d;
        next = m₁;
        rest = ds;
        step = rw (sym q) s;
        traced = t;
        long = refl;
        mine = Memᴰ.head (ap (λ k. record { actor = k; deed = d }) (sym q));
        others = λ x u. Memᴰ.tail u;
      }
      by t later (no q) = swapped q (later q)

    pub front : {m z : M} {ds : List (Act D)} (l : ℕ) → Inv m → Holds l m → (Holds l z → ⊥) → Traced m ds z → Apart ds → Front m l ds z
    front l i h idle stay apart = absurd (idle h)
    front l i h idle (go_on {l = a} s t) apart =
        by i s apart t
        (λ q. front l (c.kept i s) (c.holding h q s) idle t (λ x y u v. apart x y (Memᴰ.tail u) (Memᴰ.tail v)))
        (ℕ_discrete a l)

    -- every order leads on to z, by as many commands as are left
    pub record Onward (m : M) (k n : ℕ) (z : M) : Type 0 where
      pub rest : List (Act D)
      pub traced : Traced m rest z
      pub apart : Apart rest
      pub good : Inv m
      pub long : n ≡ k + length rest

    from : {m n z : M} {ds : List (Act D)} → m ≡ n → Traced n ds z → Traced m ds z
    from q t = rw q t

    pub along : {m m' z : M} {ds es : List (Act D)} → Inv m → ((l : ℕ) → Holds l z → ⊥) → Traced m ds z → Apart ds → Traced m es m'
        → Onward m' (length es) (length ds) z
    along {ds = ds} i idle t apart stay = record { rest = ds; traced = t; apart = apart; good = i; long = omega arith }
    along i idle t apart (go_on {l = l} s u) =
        let f = front l i (c.acts s) (idle l) t apart in
        let w = from (c.one s f.step) f.traced in
        let r = along (c.kept i s) idle w (λ x y a b. apart x y (f.others x a) (f.others y b)) u in
        record { rest = r.rest; traced = r.traced; apart = r.apart; good = r.good; long = omega (arith, f.long, r.long) }

    -- whoever holds commands, in any order, can take the next one
    pub next_step : {m m' z : M} {ds es : List (Act D)} (l : ℕ) → Inv m → ((k : ℕ) → Holds k z → ⊥) → Traced m ds z → Apart ds → Traced m es m'
        → Holds l m' → (d : D) × (n : M) × (Step l m' d n)
    next_step l i idle t apart u h =
        let r = along i idle t apart u in
        let f = front l r.good h (idle l) r.traced r.apart in
        (f.deed, f.next, f.step)
