-- What is exact stays exact when it is tested, made into something, joined, counted, repeated or opened by a byte (01, 'Program stream').
use Prim.Native.Nat.{ℕ, zero, suc, ◌+◌, ◌<◌, ◌≤◌}
use Rattle.std.proofs.Common.{arith, ap, ◌∙◌, leb→le, ltb→lt, le→leb, lt→ltb, eqb-true}
use Rattle.std.specs.Prelude.{◌≡◌, refl, ◌↔◌, Bool, true, false, ◌&&◌, length, get_or, ltb, leb, eqb, T}
use mathlib.Core.List.{List, [], ◌∷◌, ◌++◌}
use Rattle.program.specs.Encoding.{flat, enc_list}
use Rattle.program.specs.Counts.{All, Few}
use Rattle.program.specs.Reader.{Result, Result.ok, Result.bad, wrong_byte, pair, made, many, guard, Row, Row.row, lookup, between, tested}
use Rattle.program.specs.Reader.{ranged, counted, opened}
use Rattle.program.specs.Exact.{Stands, Stands.done, Stands.letter, Told, Told.told, Told.silent, Cut, Cut.same, Cut.stop, Cuts, At, Exact}
use Rattle.program.specs.Exact.{Behind, Formed, Rowed}
use Rattle.program.proofs.Laws.StandsLaws.{both, split, stands_none}
use Rattle.program.proofs.Laws.PartLaws.{told_then, told_weak, told_made, then_ok, made_ok, cuts_ok, cuts_then, cut_made, byte_ok, told_byte, cuts_byte}

module _ {A : Type 0} {C : A → Type 0} {E : A → List ℕ} {r : List ℕ → ℕ → Result A} (x : Exact C E r) where
  -- the same condition in other words
  pub exact_iff : {D : A → Type 0} → ((a : A) → C a ↔ D a) → Exact D E r
  exact_iff h = record {
    sound = λ s n. told_weak (x.sound s n) λ a m p. ((h a).0 p.0, p.1);
    complete = λ s a n m c w. x.complete s a n m ((h a).1 c) w;
    cut = x.cut;
  }

  -- what f makes of a value, and g takes apart again
  pub made_exact : {B : Type 0} {D : B → Type 0} {F : B → List ℕ} (f : A → B) (g : B → A)
      → ((a : A) → C a → (D (f a)) × (E a ≡ F (f a))) → ((b : B) → D b → (C (g b)) × (f (g b) ≡ b))
      → Exact D F (λ s n. made f (r s n))
  made_exact {D = D} {F = F} f g h k = record {
    sound = λ s n. told_made f (x.sound s n) λ a m p. let q = h a p.0 in (q.0, rw q.1 at p.1);
    complete = λ s b n m c w.
        let q = k b c in
        made_ok f (x.complete s (g b) n m q.0 (rw ((h (g b) q.0).1, q.1) w)) ∙ rw q.1;
    cut = λ s t n l. cut_made f (x.cut s t n l);
  }

  -- a value and another behind it, which it may decide on
  pub pair_exact : {B : Type 0} {D : A → B → Type 0} {F : B → List ℕ} {q : A → List ℕ → ℕ → Result B} → ((a : A) → Exact (D a) F (q a))
      → Exact (λ p. (C p.0) × (D p.0 p.1)) (λ p. E p.0 ++ F p.1) (λ s n. pair (r s n) λ a. q a s)
  unfolding pair
  pair_exact y = record {
    sound = λ s n. told_then (x.sound s n) λ a k p. told_then ((y a).sound s k) λ b m u. told ((p.0, u.0), both p.1 u.1);
    complete = λ s p n m c w.
        let k = split (E p.0) w in
        then_ok _ (x.complete s p.0 n k.0 c.0 k.1) (then_ok _ ((y p.0).complete s p.1 k.0 m c.1 k.2) refl);
    cut = cuts_then x.cut λ a. cuts_then (y a).cut λ b. cuts_ok (a, b);
  }

  -- a row of i values
  pub row_exact : {B : Type 0} {z : B} {c : A → B → B} {D : ℕ → B → Type 0} {F : ℕ → B → List ℕ} → Rowed z c C E D F → (i : ℕ)
      → Exact (D i) (F i) (λ s. many z c (r s) i)
  unfolding many
  row_exact {B} {z} {c} {D} {F} w i =
      record { sound = λ s. sound s i; complete = λ s. complete s i; cut = cut i }
    where
      sound : (s : List ℕ) (i n : ℕ) → Told (At (D i) (F i) s n) (many z c (r s) i n)
      sound s zero n = told {m = n} (w.nil, rw w.nil_bytes done)
      sound s (suc i) n =
          told_then (x.sound s n) λ a k p.
          told_then (sound s i k) λ b m q.
          told {m = m} (w.cons i a b p.0 q.0, rw (w.cons_bytes i a b p.0) (both p.1 q.1))

      complete : (s : List ℕ) (i : ℕ) (b : B) (n m : ℕ) → D i b → Stands s n (F i b) m → many z c (r s) i n ≡ ok b m
      complete s zero b n m d v =
          let e = w.nil_only b d in
          rw (e, stands_none (rw (← e, w.nil_bytes) at v))
      complete s (suc i) b n m d v =
          let p = w.cons_only i b d in
          let k = split (E p.0) (rw (← p.4, w.cons_bytes i p.0 p.1 p.2) at v) in
          then_ok _ (x.complete s p.0 n k.0 p.2 k.1)
          (then_ok _ (complete s i p.1 k.0 m p.3 k.2) (rw p.4))

      cut : (i : ℕ) → Cuts (λ s n. many z c (r s) i n)
      cut zero = cuts_ok z
      cut (suc i) = cuts_then x.cut λ a. cuts_then (cut i) λ b. cuts_ok (c a b)

  -- behind a byte
  pub behind : Behind C E (λ s n. r s (n + 1))
  behind = record {
    sound = λ s n. x.sound s (n + 1);
    complete = λ s a n m. x.complete s a (n + 1) m;
    cut = λ s t n l. x.cut s t (n + 1) (omega arith);
  }

-- a byte that passes a test
pub tested_exact : (t : ℕ → Bool) → Exact (λ b. T (t b)) (λ b. b ∷ []) (λ s. tested s t)
unfolding tested guard
tested_exact t = record {
  sound = λ s n. told_byte _ s n λ b l e. sound s n b (t b) refl (letter l e done);
  complete = complete;
  cut = cuts_byte _ λ b s u n l. cut n b (t b) l;
}
  where
    sound : (s : List ℕ) (n b : ℕ) (v : Bool) → t b ≡ v → Stands s n (b ∷ []) (n + 1)
        → Told (At (λ b. T (t b)) (λ b. b ∷ []) s n) (guard v n b (n + 1))
    sound s n b true e w = told {a = b} (rw e tt, w)
    sound s n b false e w = silent

    passed : (n b m : ℕ) (v : Bool) → T v → guard v n b m ≡ ok b m
    passed n b m true c = refl
    passed n b m false c = elim c [ ]

    complete : (s : List ℕ) (b n m : ℕ) → T (t b) → Stands s n (b ∷ []) m → tested s t n ≡ ok b m
    complete s b n m c (letter l e done) = then_ok _ (byte_ok s l e) (passed n b m (t b) c)

    cut : {N M : ℕ} (n b : ℕ) (v : Bool) → n < N → Cut (n + 1) N M (guard v n b (n + 1)) (guard v n b (n + 1))
    cut n b true l = same {m = n + 1} (omega arith) (omega arith)
    cut n b false l = stop {p = n} (omega arith) l

-- from lo up to below hi
abbrev pub Within : ℕ → ℕ → ℕ → Type 0
Within lo hi b = (lo ≤ b) × (b < hi)

-- the test of a range says what it should
pub between_iff : (lo hi b : ℕ) → T (between lo hi b) ↔ Within lo hi b
unfolding between
between_iff lo hi b = (
  λ h. let p = apart (leb lo b) (ltb b hi) h in (leb→le lo b p.0, ltb→lt b hi p.1),
  λ h. joined (leb lo b) (ltb b hi) (le→leb lo b h.0) (lt→ltb b hi h.1),
)
  where
    apart : (x y : Bool) → T (x && y) → (T x) × (T y)
    apart true y h = (tt, h)
    apart false y h = elim h [ ]

    joined : (x y : Bool) → T x → T y → T (x && y)
    joined true y h k = k
    joined false y h k = elim h [ ]

-- a byte of a range
pub ranged_exact : (lo hi : ℕ) → Exact (Within lo hi) (λ b. b ∷ []) (λ s. ranged s lo hi)
unfolding ranged
ranged_exact lo hi = exact_iff (tested_exact (between lo hi)) (between_iff lo hi)

-- a count and what it counts: `count` tells it again from the value
pub counted_exact : {B : Type 0} {D : ℕ → B → Type 0} {F : B → List ℕ} {q : ℕ → List ℕ → ℕ → Result B} (lo hi : ℕ) (count : B → ℕ)
    → ((i : ℕ) (b : B) → lo ≤ i → D i b → count b ≡ i) → ((i : ℕ) → Exact (D i) F (q i))
    → Exact (λ b. (lo ≤ count b) × (count b ≤ hi) × (D (count b) b)) (λ b. count b ∷ F b) (λ s. counted s lo hi (λ i. q i s))
unfolding counted
counted_exact lo hi count h y = record {
  sound = λ s n.
      told_then ((ranged_exact lo (suc hi)).sound s n) λ i k p.
      told_weak ((y i).sound s k) λ b m u.
      let e = h i b p.0.0 u.0 in
      ((omega arith, omega arith, rw e u.0), rw e (both p.1 u.1));
  complete = λ s b n m c w.
      let k = split (count b ∷ []) w in
      then_ok _ ((ranged_exact lo (suc hi)).complete s (count b) n k.0 (omega arith) k.1) ((y (count b)).complete s b k.0 m c.2 k.2);
  cut = cuts_then (ranged_exact lo (suc hi)).cut λ i. (y i).cut;
}

-- what no value is read behind: the byte itself is refused
pub shut : {A : Type 0} {C : A → Type 0} {E : A → List ℕ} → ((a : A) → C a → ⊥) → Behind C E (λ s n. bad n wrong_byte)
shut h = record {
  sound = λ s n. silent;
  complete = λ s a n m c w. absurd (h a c);
  cut = λ s t n l. stop {p = n} (omega arith) l;
}

-- what f makes of a value read behind a byte
pub formed : {A P : Type 0} {C : A → Type 0} {E : A → List ℕ} {B : ℕ → Type 0} {D : P → Type 0} {F : P → List ℕ} {r : List ℕ → ℕ → Result P}
    → Behind D F r → (f : P → A) → ((p : P) → D p → C (f p)) → ((b : ℕ) (p : P) → B b → b ∷ F p ≡ E (f p))
    → Formed C E B (λ s n. made f (r s n))
formed x f h g = record {
  sound = λ s n b l e o. told_made f (x.sound s n) λ p m q. (h p q.0, rw (g b p o) at (letter l e q.1));
  cut = λ s t n l. cut_made f (x.cut s t n l);
}

-- what holds of each row holds of the row found
abbrev pub EachRow : {A : Type 0} → (ℕ → A → Type 0) → List (Row A) → Type 0
EachRow P [] = Unit {0}
EachRow P (row k f ∷ rs) = (P k f) × (EachRow P rs)

pub lookup_is : {A : Type 0} (P : ℕ → A → Type 0) (rs : List (Row A)) (z : A) (b : ℕ) → P b z → EachRow P rs → P b (lookup rs z b)
unfolding lookup
lookup_is P [] z b p h = p
lookup_is P (row k f ∷ rs) z b p h = go (eqb b k) refl (lookup_is P rs z b p h.1)
  where
    go : (t : Bool) → eqb b k ≡ t → P b (lookup rs z b) → P b (lookup (row k f ∷ rs) z b)
    go true e q = rw (e, lookup) (rw (eqb-true b k e) h.0)
    go false e q = rw (e, lookup) q

-- a byte that opens no form
pub no_form : {A : Type 0} {C : A → Type 0} {E : A → List ℕ} {B : ℕ → Type 0} → Formed C E B (λ s n. bad n wrong_byte)
no_form = record { sound = λ s n b l e o. silent; cut = λ s t n l. stop {p = n} (omega arith) l }

-- the byte at n opens what q reads behind it as a
abbrev pub Reads : {A : Type 0} → List ℕ → (ℕ → Result A) → A → ℕ → ℕ → Type 0
Reads s q a n m = (b : ℕ) × (n < length s) × (get_or s n 0 ≡ b) × (q b ≡ ok a m)

-- what a byte opens is read exactly, where each form is: `Opens` tells a form's bytes
pub opened_exact : {I A : Type 0} {C : A → Type 0} {E : A → List ℕ} {key : ℕ → I} (rule : List ℕ → ℕ → ℕ → I → Result A)
    (Opens : ℕ → I → Type 0) → ((b : ℕ) → Opens b (key b))
    → ((f : I) → Formed C E (λ b. Opens b f) (λ s n. rule s n (n + 1) f))
    → ((s : List ℕ) (a : A) (n m : ℕ) → C a → Stands s n (E a) m → Reads s (λ b. rule s n (n + 1) (key b)) a n m)
    → Exact C E (λ s. opened s key (rule s))
unfolding opened
opened_exact {key = key} rule Opens o x complete = record {
  sound = λ s n. told_byte _ s n λ b l e. (x (key b)).sound s n b l e (o b);
  complete = λ s a n m c w. let p = complete s a n m c w in then_ok _ (byte_ok s p.1 p.2) p.3;
  cut = cuts_byte _ λ b. (x (key b)).cut;
}

-- lists are rows, by any bytes that go with them element by element
abbrev pub AllOf : {A : Type 0} → (A → Type 0) → ℕ → List A → Type 0
AllOf C i l = (length l ≡ i) × (All C l)

pub list_row : {A : Type 0} (C : A → Type 0) (E : A → List ℕ) (F : List A → List ℕ)
    → F [] ≡ [] → ((a : A) (l : List A) → F (a ∷ l) ≡ E a ++ F l)
    → Rowed [] ◌∷◌ C E (AllOf C) (λ i. F)
list_row {A} C E F none more = record {
  nil = (refl, tt);
  cons = λ i a l c d. (ap suc d.0, (c, d.1));
  nil_only = nil_only;
  cons_only = cons_only;
  nil_bytes = none;
  cons_bytes = λ i a l c. more a l;
}
  where
    nil_only : (l : List A) → AllOf C 0 l → [] ≡ l
    nil_only [] h = refl
    nil_only (a ∷ l) h = absurd (omega arith)

    cons_only : (i : ℕ) (l : List A) → AllOf C (suc i) l → (a : A) × (b : List A) × (C a) × (AllOf C i b) × (a ∷ b ≡ l)
    cons_only i [] h = absurd (omega arith)
    cons_only i (a ∷ l) h = (a, l, h.1.0, (omega arith, h.1.1), refl)

-- a list's elements in a row
pub flat_row : {A : Type 0} (C : A → Type 0) (E : A → List ℕ) → Rowed [] ◌∷◌ C E (AllOf C) (λ i. flat E)
unfolding flat
flat_row C E = list_row C E (flat E) refl (λ a l. refl)

-- a count and so many values, whose condition may know the count
pub list_exact : {A : Type 0} {C : ℕ → A → Type 0} {E : A → List ℕ} {r : ℕ → List ℕ → ℕ → Result A} (lo hi : ℕ)
    → ((i : ℕ) → Exact (C i) E (r i))
    → Exact (λ l. Few lo hi (C (length l)) l) (enc_list E) (λ s. counted s lo hi (λ i. many [] ◌∷◌ (r i s) i))
list_exact {C = C} {E = E} lo hi y =
    exact_iff (counted_exact lo hi length (λ i l h d. d.0) (λ i. row_exact (y i) (flat_row (C i) E) i))
    λ l. (λ h. (h.0, h.1, h.2.1), λ h. (h.0, h.1, (refl, h.2)))
