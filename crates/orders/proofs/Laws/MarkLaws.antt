-- Marks say exactly what has been touched (02 §11): a touch passes where it clashes with none before, and meets one where it does.
use Rattle.std.specs.Prelude.{ℕ, ◌≡◌, Bool, ◌&&◌, ◌⊎◌}
use Rattle.std.proofs.Common.{arith, ◌∙◌}
use Rattle.std.proofs.Math.Path.{refl, sym, ap, subst}
use Rattle.std.proofs.Math.Bool.{true, false}
use Rattle.std.proofs.Math.Logic.{inl, inr, ⊎_elim}
use Rattle.std.proofs.Math.Dec.{eqb}
use borrow.Author.Tests.{eqb-true, eqb-false}
use Rattle.orders.specs.Deeds.{Deed, Deed.nothing, Deed.reads, Deed.writes, Act, Clash}
use Rattle.orders.specs.Marks.{Mark, Mark.untouched, Mark.read_by, Mark.read_by_two, Mark.written_by, Met, Met.passes, Met.meets, read_at, write_at}
use Rattle.orders.specs.Marks.{Marks, marked, clean, Noted.noted, Noted.met, placed, note}

abbrev pub by : ℕ → Deed → Act Deed
by l d = record { actor = l; deed = d }

-- a deed on parameter v of instance q
abbrev pub On : ℕ → ℕ → Deed → Type 0
On q v d = (d ≡ reads q v) ⊎ (d ≡ writes q v)

-- what has been done, and one act more
abbrev pub Past : Type 1
Past = Act Deed → Type 0

abbrev pub also : Past → Act Deed → Past
also T y x = (T x) ⊎ (x ≡ y)

-- what a mark says of the past
abbrev pub Says : Past → ℕ → ℕ → Mark → Type 0
Says T q v untouched = (x : Act Deed) → T x → On q v x.deed → ⊥
Says T q v (read_by a) = ((x : Act Deed) → T x → On q v x.deed → (x.actor ≡ a) × (x.deed ≡ reads q v)) × (T (by a (reads q v)))
Says T q v (read_by_two a b) =
    ((x : Act Deed) → T x → On q v x.deed → x.deed ≡ reads q v) × (T (by a (reads q v))) × (T (by b (reads q v))) × (a ≡ b → ⊥)
Says T q v (written_by a) = ((x : Act Deed) → T x → On q v x.deed → x.actor ≡ a) × (T (by a (writes q v)))

abbrev pub Tell : Past → Marks → Type 0
Tell T ms = (q v : ℕ) → Says T q v (ms q v)

reads_writes {ℓ} : {X : Type ℓ} {q v r w : ℕ} → reads q v ≡ writes r w → X
reads_writes e = let z : ◌≡◌ {A = ℕ} 0 1 = cc in absurd (omega arith)

passes_meets {ℓ} : {X : Type ℓ} {k : Mark} {a : ℕ} → passes k ≡ meets a → X
passes_meets e = let z : ◌≡◌ {A = ℕ} 0 1 = cc in absurd (omega arith)

passes_is : {k k' : Mark} → passes k ≡ passes k' → k ≡ k'
passes_is e = cc

meets_is : {a b : ℕ} → meets a ≡ meets b → a ≡ b
meets_is e = cc

-- a touch that passes only as the same instance's leaves the mark that it passes with
own_mark : (l a : ℕ) (k k' : Mark) (S : Mark → Type 0) → (l ≡ a → S k) → elim (eqb l a) [ true ↦ passes k | false ↦ meets a ] ≡ passes k' → S k'
own_mark l a k k' S h e = go (eqb l a) refl e
  where
    go : (t : Bool) → eqb l a ≡ t → elim t [ true ↦ passes k | false ↦ meets a ] ≡ passes k' → S k'
    go true q e = subst S (passes_is e) (h (eqb-true l a q))
    go false q e = passes_meets (sym e)

-- and one that does not pass meets another instance
other_met : (l b a : ℕ) (k : Mark) (S : ℕ → Type 0) → S b → elim (eqb l b) [ true ↦ passes k | false ↦ meets b ] ≡ meets a → (S a) × (l ≡ a → ⊥)
other_met l b a k S s e = go (eqb l b) refl e
  where
    go : (t : Bool) → eqb l b ≡ t → elim t [ true ↦ passes k | false ↦ meets b ] ≡ meets a → (S a) × (l ≡ a → ⊥)
    go true h e = passes_meets e
    go false h e = let same = meets_is e in (subst S same s, λ f. eqb-false l b h (f ∙ sym same))

module _ (T : Past) (q v : ℕ) where
  -- an act that does not touch the parameter
  pub elsewhere : (k : Mark) (y : Act Deed) → (On q v y.deed → ⊥) → Says T q v k → Says (also T y) q v k
  elsewhere untouched y h s = λ x t o. ⊎_elim (λ t. s x t o) (λ e. h (subst (λ z. On q v z.deed) e o)) t
  elsewhere (read_by a) y h s = (λ x t o. ⊎_elim (λ t. s.0 x t o) (λ e. absurd (h (subst (λ z. On q v z.deed) e o))) t, inl s.1)
  elsewhere (read_by_two a b) y h s =
      (λ x t o. ⊎_elim (λ t. s.0 x t o) (λ e. absurd (h (subst (λ z. On q v z.deed) e o))) t, inl s.1, inl s.2, s.3)
  elsewhere (written_by a) y h s = (λ x t o. ⊎_elim (λ t. s.0 x t o) (λ e. absurd (h (subst (λ z. On q v z.deed) e o))) t, inl s.1)

  module _ (l : ℕ) where
    -- instance l reads it
    pub after_read : (k k' : Mark) → Says T q v k → read_at l k ≡ passes k' → Says (also T (by l (reads q v))) q v k'
    unfolding read_at
    after_read untouched k' s e =
        subst (Says (also T (by l (reads q v))) q v) (passes_is e)
        (λ x t o. ⊎_elim (λ t. absurd (s x t o)) (λ f. (ap (λ z. z.actor) f, ap (λ z. z.deed) f)) t, inr refl)
    after_read (read_by a) k' s e = go (eqb l a) refl e
      where
        go : (t : Bool) → eqb l a ≡ t → passes (elim t [ true ↦ read_by a | false ↦ read_by_two a l ]) ≡ passes k'
            → Says (also T (by l (reads q v))) q v k'
        go true h e =
            let same = eqb-true l a h in
            subst (Says (also T (by l (reads q v))) q v) (passes_is e)
            (λ x t o. ⊎_elim (λ t. s.0 x t o) (λ f. (ap (λ z. z.actor) f ∙ same, ap (λ z. z.deed) f)) t, inl s.1)
        go false h e =
            subst (Says (also T (by l (reads q v))) q v) (passes_is e)
            (λ x t o. ⊎_elim (λ t. (s.0 x t o).1) (λ f. ap (λ z. z.deed) f) t, inl s.1, inr refl, λ f. eqb-false l a h (sym f))
    after_read (read_by_two a b) k' s e =
        subst (Says (also T (by l (reads q v))) q v) (passes_is e)
        (λ x t o. ⊎_elim (λ t. s.0 x t o) (λ f. ap (λ z. z.deed) f) t, inl s.1, inl s.2, s.3)
    after_read (written_by a) k' s e =
        own_mark l a (written_by a) k' (Says (also T (by l (reads q v))) q v)
        (λ same. (λ x t o. ⊎_elim (λ t. s.0 x t o) (λ f. ap (λ z. z.actor) f ∙ same) t, inl s.1)) e

    -- writes it
    pub after_write : (k k' : Mark) → Says T q v k → write_at l k ≡ passes k' → Says (also T (by l (writes q v))) q v k'
    unfolding write_at
    after_write untouched k' s e =
        subst (Says (also T (by l (writes q v))) q v) (passes_is e)
        (λ x t o. ⊎_elim (λ t. absurd (s x t o)) (λ f. ap (λ z. z.actor) f) t, inr refl)
    after_write (read_by a) k' s e =
        own_mark l a (written_by a) k' (Says (also T (by l (writes q v))) q v)
        (λ same. (
          λ x t o. ⊎_elim (λ t. (s.0 x t o).0) (λ f. ap (λ z. z.actor) f ∙ same) t,
          inr (ap (λ z. by z (writes q v)) (sym same)),
        )) e
    after_write (read_by_two a b) k' s e = passes_meets (sym e)
    after_write (written_by a) k' s e =
        own_mark l a (written_by a) k' (Says (also T (by l (writes q v))) q v)
        (λ same. (λ x t o. ⊎_elim (λ t. s.0 x t o) (λ f. ap (λ z. z.actor) f ∙ same) t, inl s.1)) e

    -- whom a read meets wrote it; whom a write meets touched it
    pub met_read : (k : Mark) (a : ℕ) → Says T q v k → read_at l k ≡ meets a → (T (by a (writes q v))) × (l ≡ a → ⊥)
    unfolding read_at
    met_read untouched a s e = passes_meets e
    met_read (read_by b) a s e = passes_meets e
    met_read (read_by_two b c) a s e = passes_meets e
    met_read (written_by b) a s e = other_met l b a (written_by b) (λ z. T (by z (writes q v))) s.1 e

    pub met_write : (k : Mark) (a : ℕ) → Says T q v k → write_at l k ≡ meets a → (d : Deed) × (T (by a d)) × (On q v d) × (l ≡ a → ⊥)
    unfolding write_at
    met_write untouched a s e = passes_meets e
    met_write (read_by b) a s e =
        let (t, n) = other_met l b a (written_by b) (λ z. T (by z (reads q v))) s.1 e in
        (reads q v, t, inl refl, n)
    met_write (read_by_two b c) a s e = go (eqb l b) refl e
      where
        go : (t : Bool) → eqb l b ≡ t → meets (elim t [ true ↦ c | false ↦ b ]) ≡ meets a
            → (d : Deed) × (T (by a d)) × (On q v d) × (l ≡ a → ⊥)
        go true h e =
            let same = meets_is e in
            (reads q v, subst (λ z. T (by z (reads q v))) same s.2, inl refl, λ f. s.3 (sym (eqb-true l b h) ∙ f ∙ sym same))
        go false h e =
            let same = meets_is e in
            (reads q v, subst (λ z. T (by z (reads q v))) same s.1, inl refl, λ f. eqb-false l b h (f ∙ sym same))
    met_write (written_by b) a s e =
        let (t, n) = other_met l b a (written_by b) (λ z. T (by z (writes q v))) s.1 e in
        (writes q v, t, inr refl, n)

-- All marks ---------------------------------------------------------------------------------------

on_one : {q v r w : ℕ} {d : Deed} → On q v d → On r w d → (q ≡ r) × (v ≡ w)
on_one (inl e) (inl f) = let h : reads _ _ ≡ reads _ _ = sym e ∙ f in (cc, cc)
on_one (inl e) (inr f) = reads_writes (sym e ∙ f)
on_one (inr e) (inl f) = reads_writes (sym f ∙ e)
on_one (inr e) (inr f) = let h : writes _ _ ≡ writes _ _ = sym e ∙ f in (cc, cc)

nothing_on : {q v : ℕ} → On q v nothing → ⊥
nothing_on (inl e) = let z : ◌≡◌ {A = ℕ} 0 1 = cc in omega arith
nothing_on (inr e) = let z : ◌≡◌ {A = ℕ} 0 1 = cc in omega arith

-- one mark changed by a deed on its parameter, the others as they were
tell_marked : (T : Past) (ms : Marks) (q v : ℕ) (k : Mark) (y : Act Deed) → Tell T ms → On q v y.deed → Says (also T y) q v k
    → Tell (also T y) (marked ms q v k)
unfolding marked
tell_marked T ms q v k y tell o s r w = go (eqb q r) (eqb v w) refl refl
  where
    other : ((q ≡ r) × (v ≡ w) → ⊥) → Says (also T y) r w (ms r w)
    other n = elsewhere T r w (ms r w) y (λ h. n (on_one o h)) (tell r w)

    go : (a b : Bool) → eqb q r ≡ a → eqb v w ≡ b → Says (also T y) r w (elim (a && b) [ true ↦ k | false ↦ ms r w ])
    go true true e f = subst (λ z. Says (also T y) r z k) (eqb-true v w f) (subst (λ z. Says (also T y) z v k) (eqb-true q r e) s)
    go true false e f = other (λ h. eqb-false v w f h.1)
    go false b e f = other (λ h. eqb-false q r e h.0)

noted_met {ℓ} : {X : Type ℓ} {ms : Marks} {a q v : ℕ} → noted ms ≡ met a q v → X
noted_met e = let z : ◌≡◌ {A = ℕ} 0 1 = cc in absurd (omega arith)

noted_is : {ms ns : Marks} → noted ms ≡ noted ns → ms ≡ ns
noted_is e = cc

module _ (T : Past) (ms : Marks) (tell : Tell T ms) (l : ℕ) where
  -- where a touch lands
  landed : (q v : ℕ) (d : Deed) → On q v d → (o : Met) (ns : Marks) → ((k : Mark) → o ≡ passes k → Says (also T (by l d)) q v k) → placed ms q v o ≡ noted ns
      → Tell (also T (by l d)) ns
  unfolding placed
  landed q v d on (passes k) ns h e = subst (Tell (also T (by l d))) (noted_is e) (tell_marked T ms q v k (by l d) tell on (h k refl))
  landed q v d on (meets a) ns h e = noted_met (sym e)

  -- the marks after a deed tell of it too
  pub note_tells : (d : Deed) (ns : Marks) → note ms l d ≡ noted ns → Tell (also T (by l d)) ns
  unfolding note
  note_tells nothing ns e =
      subst (Tell (also T (by l nothing))) (noted_is e) (λ q v. elsewhere T q v (ms q v) (by l nothing) (λ h. nothing_on h) (tell q v))
  note_tells (reads q v) ns e =
      landed q v (reads q v) (inl refl) (read_at l (ms q v)) ns (λ k h. after_read T q v l (ms q v) k (tell q v) h) e
  note_tells (writes q v) ns e =
      landed q v (writes q v) (inr refl) (write_at l (ms q v)) ns (λ k h. after_write T q v l (ms q v) k (tell q v) h) e

  placed_met : (q v : ℕ) (o : Met) {a r w : ℕ} → placed ms q v o ≡ met a r w → (o ≡ meets a) × (q ≡ r) × (v ≡ w)
  unfolding placed
  placed_met q v (passes k) e = noted_met e
  placed_met q v (meets b) e = (ap meets cc, cc, cc)

  -- whom a deed meets did one that it clashes with
  pub note_meets : (d : Deed) {a q v : ℕ} → note ms l d ≡ met a q v → (e : Deed) × (T (by a e)) × (On q v e) × (On q v d) × (Clash d e) × (l ≡ a → ⊥)
  unfolding note
  note_meets nothing e = noted_met e
  note_meets (reads r w) {a} {q} {v} e =
      let (f, g, h) = placed_met r w (read_at l (ms r w)) e in
      let (t, n) = met_read T r w l (ms r w) a (tell r w) f in
      let same : writes r w ≡ writes q v = ap (λ z. writes z w) g ∙ ap (writes q) h in
      let same' : reads r w ≡ reads q v = ap (λ z. reads z w) g ∙ ap (reads q) h in
      (writes r w, t, inr same, inl same', (refl, refl), n)
  note_meets (writes r w) {a} {q} {v} e =
      let (f, g, h) = placed_met r w (write_at l (ms r w)) e in
      let (d, t, o, n) = met_write T r w l (ms r w) a (tell r w) f in
      let same : writes r w ≡ writes q v = ap (λ z. writes z w) g ∙ ap (writes q) h in
      (d, t, subst (λ z. On q z d) h (subst (λ z. On z w d) g o), inr same, clash_on r w d o, n)
    where
      clash_on : (q v : ℕ) (d : Deed) → On q v d → Clash (writes q v) d
      clash_on q v d (inl e) = subst (Clash (writes q v)) (sym e) (refl, refl)
      clash_on q v d (inr e) = subst (Clash (writes q v)) (sym e) (refl, refl)

-- two deeds of a past that marks tell of do not clash, or are of one instance
pub tell_apart : (T : Past) (ms : Marks) → Tell T ms → (x y : Act Deed) → T x → T y → Clash x.deed y.deed → x.actor ≡ y.actor
tell_apart T ms tell x y s t c = go x.deed y.deed refl refl c
  where
    -- the one writes parameter v of q, and the other touches it
    writer : (q v : ℕ) (x y : Act Deed) → T x → T y → x.deed ≡ writes q v → On q v y.deed → (k : Mark) → Says T q v k → x.actor ≡ y.actor
    writer q v x y s t e o untouched m = absurd (m x s (inr e))
    writer q v x y s t e o (read_by a) m = reads_writes (sym (m.0 x s (inr e)).1 ∙ e)
    writer q v x y s t e o (read_by_two a b) m = reads_writes (sym (m.0 x s (inr e)) ∙ e)
    writer q v x y s t e o (written_by a) m = m.0 x s (inr e) ∙ sym (m.0 y t o)

    moved : {q v r w : ℕ} (f : ℕ → ℕ → Deed) {d : Deed} → (q ≡ r) × (v ≡ w) → d ≡ f r w → d ≡ f q v
    moved {q} {v} {r} {w} f (g, h) e = e ∙ sym (ap (λ z. f z w) g) ∙ sym (ap (f q) h)

    go : (d e : Deed) → x.deed ≡ d → y.deed ≡ e → Clash d e → x.actor ≡ y.actor
    go nothing e f g c = absurd c
    go (reads q v) nothing f g c = absurd c
    go (reads q v) (reads r w) f g c = absurd c
    go (reads q v) (writes r w) f g (h, i) = sym (writer q v y x t s (moved writes (h, i) g) (inl f) (ms q v) (tell q v))
    go (writes q v) nothing f g c = absurd c
    go (writes q v) (reads r w) f g c = writer q v x y s t f (inl (moved reads c g)) (ms q v) (tell q v)
    go (writes q v) (writes r w) f g c = writer q v x y s t f (inr (moved writes c g)) (ms q v) (tell q v)

-- nothing has been done
pub clean_tells : Tell (λ x. ⊥) clean
clean_tells q v x t o = t
