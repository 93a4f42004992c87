-- What follows fronts goes on doing so when it is tested, made into something, joined, counted, repeated or opened by a byte (01, 4 and 5
-- of 'Numbers from the input').
use Prim.Native.Nat.{ℕ, zero, suc, ◌+◌, ◌<◌, ◌≤◌}
use native.Mathlib.Omega.{arith}
use Rattle.std.proofs.Math.Decide.{dec_lt}
use Rattle.std.proofs.Math.Numerals.{add-one}
use Rattle.std.proofs.Math.Path.{◌≡◌, refl, sym}
use Rattle.std.proofs.Common.{ap, ◌∙◌, drop_of_length-le, drop-cons}
use mathlib.Core.List.{List, [], ◌∷◌, ◌++◌}
use Rattle.std.specs.Prelude.{Bool, get_or, drop, T}
use Rattle.std.proofs.Math.Bool.{true, false}
use Rattle.std.proofs.Math.ListN.{length}
use Rattle.program.specs.Encoding.{flat, enc_list}
use Rattle.program.specs.Counts.{Few}
use Rattle.program.specs.Levels.{all_at}
use Rattle.program.specs.Fronts.{Front.front_none, Front.front_byte}
use Rattle.program.specs.Reader.{Result, Result.ok, Result.bad, wrong_end, wrong_byte, then, pair, made, many, guard, between, byte, tested}
use Rattle.program.specs.Reader.{ranged, counted, opened}
use Rattle.program.specs.Exact.{Stands, Exact, Rowed}
use Rattle.program.proofs.Laws.StandsLaws.{split, stands_none, stands_drop, stands_length, stands_in}
use Rattle.program.proofs.Laws.PartLaws.{told_is, then_ok, byte_ok}
use Rattle.program.proofs.Laws.JoinLaws.{Within, between_iff, tested_exact, ranged_exact, flat_row}
use Rattle.program.specs.Follows.{Covers, Covers.covers_none, Covers.covers_byte, Met, Met.met_whole, GoesOn, Follows, FollowsBehind, FormEnds, Opened}
use Rattle.program.proofs.Laws.FrontListLaws.{front_more, front_after, at_both, at_flat}
use Rattle.program.proofs.Laws.MetLaws.{Whence, Whence.here, Whence.later, then_bad, made_bad, met_made, met_after, met_then, met_covers}

module _ (d : ℕ) where
  -- the same condition and levels in other words
  pub follows_as : {A : Type 0} {C D : A → Type 0} {E L M : A → List ℕ} {r : List ℕ → ℕ → Result A} → Follows d C E L r
      → ((a : A) → C a → D a) → ((a : A) → D a → C a) → ((a : A) → L a ≡ M a) → Follows d D E M r
  follows_as x f g l = record {
    fill = x.fill;
    fills = f _ x.fills;
    ends = λ s n h e. let p = x.ends s n h e in (p.0, f _ p.1, rw (← l p.0) p.2);
    meets = λ s a n m c w. rw (← l a) (x.meets s a n m (g a c) w);
  }

  -- what f makes of a value, and g takes apart again
  pub made_follows : {A B : Type 0} {C : A → Type 0} {D : B → Type 0} {E L : A → List ℕ} {F M : B → List ℕ} {r : List ℕ → ℕ → Result A}
      → Follows d C E L r → (f : A → B) (g : B → A)
      → ((a : A) → C a → (D (f a)) × (E a ≡ F (f a)) × (L a ≡ M (f a))) → ((b : B) → D b → (C (g b)) × (f (g b) ≡ b))
      → Follows d D F M (λ s n. made f (r s n))
  made_follows {A = A} {B = B} {C = C} {D = D} {E = E} {L = L} {F = F} {M = M} {r = r} x f g h k = record {
    fill = f x.fill;
    fills = (h _ x.fills).0;
    ends = λ s n l e.
        let p = x.ends s n l (made_bad f (r s n) _ _ e) in
        let q = h p.0 p.1 in
        (f p.0, q.0, rw (← q.1, ← q.2) p.2);
    meets = λ s b n m c w. let p = k b c in rw p.1 at (meets s (g b) n m p.0 (rw p.1 w));
  }
    where
      meets : (s : List ℕ) (a : A) (n m : ℕ) → C a → Stands s n (F (f a)) m → Met d n (F (f a)) (M (f a)) (f a) m (made f (r s n))
      meets s a n m c w = let q = h a c in rw (← q.1, ← q.2) (met_made f (x.meets s a n m c (rw q.1 w)))

  module _ {A : Type 0} {C D : A → Type 0} {E L : A → List ℕ} {r : List ℕ → ℕ → Result A} (x : Exact C E r) (h : (a : A) → C a → D a)
      (y : Follows d D E L r) where
    -- a value that was read, with the place behind it
    was_read : (s : List ℕ) (a : A) (n k : ℕ) → n ≤ length s → r s n ≡ ok a k
        → (D a) × (drop n s ≡ E a ++ drop k s) × (k ≤ length s) × (Covers d (E a) (L a))
    was_read s a n k l e =
        let p = told_is (x.sound s n) e in
        (h a p.0, stands_drop p.1, stands_in p.1 l, met_covers (y.meets s a n k (h a p.0) p.1) e)

    -- a value and another behind it, which it may decide on
    pub pair_follows : {B : Type 0} {G : A → B → Type 0} {F M : B → List ℕ} {q : A → List ℕ → ℕ → Result B}
        → ((a : A) → D a → Follows d (G a) F M (q a))
        → Follows d (λ p. (D p.0) × (G p.0 p.1)) (λ p. E p.0 ++ F p.1) (λ p. L p.0 ++ M p.1) (λ s n. pair (r s n) λ a. q a s)
    unfolding pair made
    pair_follows {B = B} {G = G} {F = F} {M = M} {q = q} z = record {
      fill = (y.fill, (z _ y.fills).fill);
      fills = (y.fills, (z _ y.fills).fills);
      ends = λ s n l e. ends s n l (then_bad (r s n) _ _ _ e);
      meets = λ s p n m c w.
          let k = split (E p.0) w in
          met_then _ (stands_length k.1) (y.meets s p.0 n k.0 c.0 k.1)
          (met_made (λ b. (p.0, b)) ((z p.0 c.0).meets s p.1 k.0 m c.1 k.2));
    }
      where
        ends : (s : List ℕ) (n : ℕ) → n ≤ length s → Whence {B = A × B} (r s n) (λ a k. made (λ b. (a, b)) (q a s k)) (length s) wrong_end
            → GoesOn {A = A × B} d (λ p. (D p.0) × (G p.0 p.1)) (λ p. E p.0 ++ F p.1) (λ p. L p.0 ++ M p.1) (drop n s)
        ends s n l (here e) =
            let p = y.ends s n l e in
            let b = z p.0 p.1 in
            ((p.0, b.fill), (p.1, b.fills), front_more _ _ p.2)
        ends s n l (later a k e o) =
            let p = was_read s a n k l e in
            let u = (z a p.0).ends s k p.2 (made_bad _ (q a s k) _ _ o) in
            ((a, u.0), (p.0, u.1), rw p.1 (front_after p.3 u.2))

    -- a row of i values, whose levels M come element by element
    pub row_follows : {B : Type 0} {z : B} {c : A → B → B} {G : ℕ → B → Type 0} {F : ℕ → B → List ℕ} → Rowed z c D E G F
        → (M : ℕ → B → List ℕ) → M 0 z ≡ [] → ((i : ℕ) (a : A) (b : B) → D a → M (suc i) (c a b) ≡ L a ++ M i b) → (i : ℕ)
        → Follows d (G i) (F i) (M i) (λ s. many z c (r s) i)
    unfolding many made
    row_follows {B = B} {z = z} {c = c} {G = G} {F = F} w M none more i = record {
      fill = fill i;
      fills = fills i;
      ends = λ s. ends s i;
      meets = λ s. meets s i;
    }
      where
        fill : ℕ → B
        fill zero = z
        fill (suc i) = c y.fill (fill i)

        fills : (i : ℕ) → G i (fill i)
        fills zero = w.nil
        fills (suc i) = w.cons i _ _ y.fills (fills i)

        after : (s : List ℕ) (i n : ℕ) → n ≤ length s
            → ((k : ℕ) → k ≤ length s → many z c (r s) i k ≡ bad (length s) wrong_end → GoesOn d (G i) (F i) (M i) (drop k s))
            → Whence (r s n) (λ a k. made (c a) (many z c (r s) i k)) (length s) wrong_end
            → GoesOn d (G (suc i)) (F (suc i)) (M (suc i)) (drop n s)
        after s i n l h (here e) =
            let p = y.ends s n l e in (
              c p.0 (fill i),
              w.cons i _ _ p.1 (fills i),
              rw (w.cons_bytes i p.0 (fill i) p.1, more i p.0 (fill i) p.1) (front_more _ _ p.2),
            )
        after s i n l h (later a k e o) =
            let p = was_read s a n k l e in
            let u = h k p.2 (made_bad _ (many z c (r s) i k) _ _ o) in (
              c a u.0,
              w.cons i _ _ p.0 u.1,
              rw (p.1, w.cons_bytes i a u.0 p.0, more i a u.0 p.0) (front_after p.3 u.2),
            )

        ends : (s : List ℕ) (i n : ℕ) → n ≤ length s → many z c (r s) i n ≡ bad (length s) wrong_end → GoesOn d (G i) (F i) (M i) (drop n s)
        ends s zero n l e = let u : ◌≡◌ {A = ℕ} 0 1 = cc in absurd (omega arith)
        ends s (suc i) n l e = after s i n l (ends s i) (then_bad (r s n) _ _ _ e)

        meets : (s : List ℕ) (i : ℕ) (b : B) (n m : ℕ) → G i b → Stands s n (F i b) m → Met d n (F i b) (M i b) b m (many z c (r s) i n)
        meets s zero b n m g v =
            let e = w.nil_only b g in
            let o = stands_none (rw (← e, w.nil_bytes) at v) in
            rw (← e, ← o, w.nil_bytes, none) (met_whole covers_none)
        meets s (suc i) b n m g v =
            let p = w.cons_only i b g in
            let k = split (E p.0) (rw (← p.4, w.cons_bytes i p.0 p.1 p.2) at v) in
            rw (← p.4, w.cons_bytes i p.0 p.1 p.2, more i p.0 p.1 p.2)
            (met_then _ (stands_length k.1) (y.meets s p.0 n k.0 p.2 k.1)
            (met_made (c p.0) (meets s i p.1 k.0 m p.3 k.2)))

  -- a row of values that all stand at level l
  pub row_at : {A B : Type 0} {C : A → Type 0} {E : A → List ℕ} {r : List ℕ → ℕ → Result A} {z : B} {c : A → B → B} {G : ℕ → B → Type 0}
      {F : ℕ → B → List ℕ} (l : ℕ) → Exact C E r → Follows d C E (λ a. all_at l (E a)) r → Rowed z c C E G F → (i : ℕ)
      → Follows d (G i) (F i) (λ b. all_at l (F i b)) (λ s. many z c (r s) i)
  row_at {E = E} {F = F} l x y w i =
      row_follows x (λ a c. c) y w (λ i b. all_at l (F i b)) (ap (all_at l) w.nil_bytes)
      (λ i a b c. ap (all_at l) (w.cons_bytes i a b c) ∙ at_both l (E a) (F i b)) i

  -- behind a byte
  pub follows_behind : {A : Type 0} {C : A → Type 0} {E L : A → List ℕ} {r : List ℕ → ℕ → Result A} → Follows d C E L r
      → FollowsBehind d C E L (λ s n. r s (n + 1))
  follows_behind x = record { ends = λ s n l e. x.ends s (n + 1) (omega arith) e; meets = λ s a n m. x.meets s a (n + 1) m }

  -- what no value is read behind
  pub shut_follows : {A : Type 0} {C : A → Type 0} {E L : A → List ℕ} → ((a : A) → C a → ⊥) → FollowsBehind d C E L (λ s n. bad n wrong_byte)
  shut_follows h = record {
    ends = λ s n l e. let z : ◌≡◌ {A = ℕ} 5 4 = cc in absurd (omega arith);
    meets = λ s a n m c w. absurd (h a c);
  }

  -- what a byte opens, where each form follows and each tree is met
  pub opened_follows : {I A : Type 0} {C : A → Type 0} {E L : A → List ℕ} {key : ℕ → I} (rule : List ℕ → ℕ → ℕ → I → Result A)
      (Opens : ℕ → I → Type 0) → ((b : ℕ) → Opens b (key b)) → (fill : A) → C fill
      → ((f : I) → FormEnds d C E L (λ b. Opens b f) (λ s n. rule s n (n + 1) f))
      → ((s : List ℕ) (a : A) (n m : ℕ) → C a → Stands s n (E a) m → Opened d s (λ b. rule s n (n + 1) (key b)) E L a n m)
      → Follows d C E L (λ s. opened s key (rule s))
  unfolding opened
  opened_follows {C = C} {E = E} {L = L} {key = key} rule Opens o a c x y = record {
    fill = a;
    fills = c;
    ends = λ s n k e. ends s n (dec_lt n (length s)) k e;
    meets = λ s b n m h w. let p = y s b n m h w in rw (then_ok (λ b k. rule s n k (key b)) (byte_ok s p.1 p.2) refl) p.3;
  }
    where
      ends : (s : List ℕ) (n : ℕ) → Dec (n < length s) → n ≤ length s
          → then (byte s n) (λ b k. rule s n k (key b)) ≡ bad (length s) wrong_end → GoesOn d C E L (drop n s)
      ends s n (yes j) k e =
          let q = sym (then_ok (λ b k. rule s n k (key b)) (byte_ok s j refl) refl) ∙ e in
          rw (drop-cons s n 0 j, ← add-one n) ((x (key (get_or s n 0))).ends s n (get_or s n 0) j (o _) q)
      ends s n (no j) k e = (a, c, rw (drop_of_length-le s {i = n} (omega arith)) front_none)

  -- a byte, where l is a level within d
  module _ {l : ℕ} (i : l ≤ d) where
    -- one that passes a test, of which b is one
    pub tested_follows : (t : ℕ → Bool) (b : ℕ) → T (t b) → Follows d (λ b. T (t b)) (λ b. b ∷ []) (λ b. l ∷ []) (λ s. tested s t)
    unfolding tested guard
    tested_follows t b h = record {
      fill = b;
      fills = h;
      ends = λ s n k e. ends s n k (dec_lt n (length s)) e;
      meets = λ s b n m c w. rw ((tested_exact t).complete s b n m c w) (met_whole (covers_byte i covers_none));
    }
      where
        refused : (n b m p : ℕ) (v : Bool) → guard v n b m ≡ bad p wrong_end → ⊥
        refused n b m p true e = let z : ◌≡◌ {A = ℕ} 0 1 = cc in omega arith
        refused n b m p false e = let z : ◌≡◌ {A = ℕ} 5 4 = cc in omega arith

        ends : (s : List ℕ) (n : ℕ) → n ≤ length s → Dec (n < length s) → tested s t n ≡ bad (length s) wrong_end
            → GoesOn d (λ b. T (t b)) (λ b. b ∷ []) (λ b. l ∷ []) (drop n s)
        ends s n k (yes j) e =
            let q = sym (then_ok (λ b k. guard (t b) n b k) (byte_ok s j refl) refl) ∙ e in
            absurd (refused n (get_or s n 0) (n + 1) (length s) (t (get_or s n 0)) q)
        ends s n k (no j) e = (b, h, rw (drop_of_length-le s {i = n} (omega arith)) front_none)

    -- one of a range
    pub ranged_follows : (lo hi : ℕ) → lo < hi → Follows d (Within lo hi) (λ b. b ∷ []) (λ b. l ∷ []) (λ s. ranged s lo hi)
    unfolding ranged
    ranged_follows lo hi h =
        follows_as (tested_follows (between lo hi) lo ((between_iff lo hi lo).1 (omega arith)))
        (λ b. (between_iff lo hi b).0) (λ b. (between_iff lo hi b).1) (λ b. refl)

    -- a count and what it counts
    pub counted_follows : {B : Type 0} {D : ℕ → B → Type 0} {F M : B → List ℕ} {q : ℕ → List ℕ → ℕ → Result B} (lo hi : ℕ) (count : B → ℕ)
        → lo ≤ hi → ((i : ℕ) (b : B) → lo ≤ i → D i b → count b ≡ i) → ((i : ℕ) → Within lo (suc hi) i → Follows d (D i) F M (q i))
        → Follows d (λ b. (lo ≤ count b) × (count b ≤ hi) × (D (count b) b)) (λ b. count b ∷ F b) (λ b. l ∷ M b) (λ s. counted s lo hi (λ i. q i s))
    unfolding counted
    counted_follows {B = B} {D = D} {F = F} {M = M} {q = q} lo hi count o h y = record {
      fill = (y lo (omega arith)).fill;
      fills = counts lo (omega arith) (y lo (omega arith)).fill (y lo (omega arith)).fills;
      ends = λ s n k e. ends s n k (then_bad (ranged s lo (suc hi) n) _ _ _ e);
      meets = λ s b n m c w.
          let k = split (count b ∷ []) w in
          met_then _ (stands_length k.1) (R.meets s (count b) n k.0 (omega arith) k.1)
          ((y (count b) (omega arith)).meets s b k.0 m c.2 k.2);
    }
      where
        R : Follows d (Within lo (suc hi)) (λ b. b ∷ []) (λ b. l ∷ []) (λ s. ranged s lo (suc hi))
        R = ranged_follows lo (suc hi) (omega arith)

        counts : (j : ℕ) → Within lo (suc hi) j → (b : B) → D j b → (lo ≤ count b) × (count b ≤ hi) × (D (count b) b)
        counts j u b c = let e = h j b u.0 c in (omega arith, omega arith, rw e c)

        ends : (s : List ℕ) (n : ℕ) → n ≤ length s → Whence (ranged s lo (suc hi) n) (λ i. q i s) (length s) wrong_end
            → GoesOn d (λ b. (lo ≤ count b) × (count b ≤ hi) × (D (count b) b)) (λ b. count b ∷ F b) (λ b. l ∷ M b) (drop n s)
        ends s n k (here e) =
            let p = R.ends s n k e in
            let b = y p.0 p.1 in
            let c = h p.0 b.fill p.1.0 b.fills in
            (b.fill, counts p.0 p.1 b.fill b.fills, rw c (front_more (F b.fill) (M b.fill) p.2))
        ends s n k (later j m e o) =
            let p = was_read (ranged_exact lo (suc hi)) (λ b c. c) R s j n m k e in
            let u = (y j p.0).ends s m p.2 o in
            let c = h j u.0 p.0.0 u.1 in
            (u.0, counts j p.0 u.0 u.1, rw (p.1, c) (front_after p.3 u.2))

    -- a count and so many values, whose condition may know the count
    pub list_follows : {A : Type 0} {C D : ℕ → A → Type 0} {E L : A → List ℕ} {r : ℕ → List ℕ → ℕ → Result A} (lo hi : ℕ) → lo ≤ hi
        → ((i : ℕ) → Exact (C i) E (r i)) → ((i : ℕ) (a : A) → C i a → D i a) → ((i : ℕ) → Follows d (D i) E L (r i))
        → Follows d (λ xs. Few lo hi (D (length xs)) xs) (enc_list E) (λ xs. l ∷ flat L xs) (λ s. counted s lo hi (λ i. many [] ◌∷◌ (r i s) i))
    unfolding flat
    list_follows {D = D} {E = E} {L = L} lo hi o x h y =
        follows_as
        (counted_follows lo hi length o (λ i xs u c. c.0)
        λ i u. row_follows (x i) (h i) (y i) (flat_row (D i) E) (λ i. flat L) refl (λ i a xs c. refl) i)
        (λ xs c. (c.0, c.1, c.2.1)) (λ xs c. (c.0, c.1, (refl, c.2))) (λ xs. refl)

    -- the same at one level
    pub list_at : {A : Type 0} {C : ℕ → A → Type 0} {E : A → List ℕ} {r : ℕ → List ℕ → ℕ → Result A} (lo hi : ℕ) → lo ≤ hi
        → ((i : ℕ) → Exact (C i) E (r i)) → ((i : ℕ) → Follows d (C i) E (λ a. all_at l (E a)) (r i))
        → Follows d (λ xs. Few lo hi (C (length xs)) xs) (enc_list E) (λ xs. all_at l (enc_list E xs)) (λ s. counted s lo hi (λ i. many [] ◌∷◌ (r i s) i))
    list_at {E = E} lo hi o x y =
        follows_as (list_follows lo hi o x (λ i a c. c) y) (λ xs c. c) (λ xs c. c) (λ xs. ap (λ ls. l ∷ ls) (sym (at_flat l E xs)))

    -- what f makes of a value read behind a byte
    pub formed_ends : {A P : Type 0} {C : A → Type 0} {E L : A → List ℕ} {B : ℕ → Type 0} {D : P → Type 0} {F M : P → List ℕ}
        {r : List ℕ → ℕ → Result P} → FollowsBehind d D F M r → (f : P → A) → ((p : P) → D p → C (f p))
        → ((b : ℕ) (p : P) → B b → b ∷ F p ≡ E (f p)) → ((p : P) → l ∷ M p ≡ L (f p))
        → FormEnds d C E L B (λ s n. made f (r s n))
    formed_ends {r = r} x f h g k = record {
      ends = λ s n b j o e.
          let p = x.ends s n j (made_bad f (r s n) _ _ e) in
          (f p.0, h p.0 p.1, rw (← g b p.0 o, ← k p.0) (front_byte i p.2));
    }

    -- what is read behind a byte of a value
    pub met_byte : {A : Type 0} {n m x : ℕ} {es ls : List ℕ} {a : A} {r : Result A} → Met d (n + 1) es ls a m r → Met d n (x ∷ es) (l ∷ ls) a m r
    met_byte {x = x} w = met_after {es = x ∷ []} (covers_byte i covers_none) refl w

-- a byte that opens no form is never asked to go on
pub no_form_ends : {A : Type 0} {d : ℕ} {C : A → Type 0} {E L : A → List ℕ} {B : ℕ → Type 0} → FormEnds d C E L B (λ s n. bad n wrong_byte)
no_form_ends = record { ends = λ s n b l o e. let z : ◌≡◌ {A = ℕ} 5 4 = cc in absurd (omega arith) }
