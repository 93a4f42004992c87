-- What does not fit does not fit later: bytes only grow, and no count is mended. And what is kept alike is kept alike by what a role does.
use Rattle.std.specs.Prelude.{ℕ, zero, suc, ◌≤◌, ◌<◌, ◌+◌, ◌≡◌, Bool, true, false, ◌&&◌, List, [], ◌∷◌, length, get_or, eqb, leb, ltb}
use Rattle.std.proofs.Common.{arith, le_trans, sym, ap, ◌∙◌}
use Rattle.std.proofs.Math.Path.{refl}
use Rattle.std.proofs.Math.Bool.{and-false}
use Rattle.std.proofs.lemmas.Bool.{false≢true}
use borrow.Author.Tests.{eq-eqb, ne_eqb, leb-true, le-leb, lt-leb}
use Rattle.types.specs.Limits.{max_statements, max_steps}
use Rattle.program.specs.Encoding.{enc_word}
use Rattle.tokens.proofs.Laws.ByteLaws.{both_true}
use Rattle.resolve.specs.Digits.{nat_at, int_at}
use Rattle.compose.specs.Writing.{op_shift, Writing, Writing.writing, wrote, numbered, lengthened, pathed, worded, more, opened, counted, behinds}
use Rattle.compose.specs.Writing.{tightness, pour, poured, passed, begun, pourings, pour_marks, spelt}
use Rattle.compose.specs.Writing.{stackings, behind_marks, forms, stack_marks, formed, put, max_later}
use Rattle.compose.specs.Fits.{word_value, value_at, fits, kept, within}
use Rattle.tokens.specs.KindNames.{int_kind, nat_kind}

unfoldable good : Writing → Bool
good (writing s w n l f) = f

unfoldable size : Writing → ℕ
size (writing s w n l f) = length s

-- of a writing and a later one
record Grows (x y : Writing) : Type 0 where
  mended : good y ≡ true → good x ≡ true
  longer : size x ≤ size y

grows_on : (x y z : Writing) → Grows x y → Grows y z → Grows x z
grows_on x y z a b = record { mended = λ e. a.mended (b.mended e); longer = le_trans a.longer b.longer }

no_mending : {f : Bool} → false ≡ true → f ≡ true
no_mending e = absurd (false≢true e)

-- What each part of a role does -----------------------------------------------------------------------

abbrev Later : (Writing → Writing) → Type 0
Later h = (x : Writing) → Grows x (h x)

same_later : Later (λ x. x)
unfolding good size
same_later (writing s w n l f) = record { mended = λ e. e; longer = omega arith }

wrote_later : (b : ℕ) → Later (wrote b)
unfolding good size wrote
wrote_later b (writing s w n l f) = record { mended = λ e. e; longer = omega arith }

numbered_later : Later numbered
unfolding good size numbered
numbered_later (writing s w [] l f) = record { mended = no_mending; longer = omega arith }
numbered_later (writing s w (b ∷ n) l f) = record { mended = λ e. e; longer = omega arith }

lengthened_later : Later lengthened
unfolding good size lengthened
lengthened_later (writing s w n l f) = record { mended = λ e. e; longer = omega arith }

pathed_later : Later pathed
unfolding good size pathed
pathed_later (writing s w n l f) = record { mended = λ e. (both_true f (leb l max_later) e).0; longer = omega arith }

worded_later : (v : ℕ) → Later (worded v)
unfolding good size worded enc_word
worded_later v (writing s w n l f) = record { mended = λ e. e; longer = omega arith }

more_later : (limit : ℕ) → Later (more limit)
unfolding good size more
more_later limit (writing s [] n l f) = record { mended = no_mending; longer = omega arith }
more_later limit (writing s (c ∷ w) n l f) = record { mended = λ e. (both_true f (ltb c limit) e).0; longer = omega arith }

opened_later : (c : ℕ) → Later (opened c)
unfolding good size opened
opened_later c (writing s w n l f) = record { mended = λ e. e; longer = omega arith }

counted_later : Later counted
unfolding good size counted
counted_later (writing s [] n l f) = record { mended = no_mending; longer = omega arith }
counted_later (writing s (c ∷ w) n l f) = record { mended = λ e. e; longer = omega arith }

pour_later : (t : ℕ) (s₀ w₀ s w n : List ℕ) (l : ℕ) (f : Bool) → length s₀ ≤ length s → Grows (writing s₀ w₀ n l f) (pour t s w n l f)
unfolding good size pour
pour_later t s₀ w₀ s [] n l f h = record { mended = λ e. e; longer = h }
pour_later t s₀ w₀ s (c ∷ w) n l f h = go (ltb t (tightness c)) refl (pour_later t s₀ w₀ (c ∷ s) w n l f (omega arith))
  where
    go : (b : Bool) → ltb t (tightness c) ≡ b → Grows (writing s₀ w₀ n l f) (pour t (c ∷ s) w n l f) → Grows (writing s₀ w₀ n l f) (pour t s (c ∷ w) n l f)
    go true e g = rw (pour, e) g
    go false e g = rw (pour, e) (record { mended = λ e. e; longer = h })

poured_later : (t : ℕ) → Later (poured t)
unfolding poured
poured_later t (writing s w n l f) = pour_later t s w s w n l f (omega arith)

passed_later : Later passed
unfolding good size passed
passed_later (writing s [] n l f) = record { mended = no_mending; longer = omega arith }
passed_later (writing s (c ∷ w) n l f) = record { mended = λ e. e; longer = omega arith }

formed_later : (b : ℕ) → Later (formed b)
unfolding formed
formed_later b x = go (eqb b 0) refl
  where
    go : (t : Bool) → eqb b 0 ≡ t → Grows x (formed b x)
    go true e = rw (formed, e) (same_later x)
    go false e = rw (formed, e) (wrote_later b x)

then_later : (g h : Writing → Writing) → Later g → Later h → Later (λ x. h (g x))
then_later g h p q x = grows_on x (g x) (h (g x)) (p x) (q (g x))

-- One role ---------------------------------------------------------------------------------------------

data AllLater : List (Writing → Writing) → Type 0 where
  none_later : AllLater []
  and_later : {h : Writing → Writing} {l : List (Writing → Writing)} → Later h → AllLater l → AllLater (h ∷ l)

picked_later : (l : List (Writing → Writing)) → AllLater l → (i : ℕ) → Later (get_or l i (λ x. x))
picked_later [] none_later i = same_later
picked_later (h ∷ l) (and_later p q) zero = p
picked_later (h ∷ l) (and_later p q) (suc i) = picked_later l q i

behinds_later : (v : ℕ) → AllLater (behinds v)
unfolding behinds
behinds_later v =
    and_later same_later
    (and_later numbered_later
    (and_later (then_later numbered lengthened numbered_later lengthened_later)
    (and_later (then_later numbered pathed numbered_later pathed_later)
    (and_later (worded_later v) (and_later (wrote_later 1) (and_later (wrote_later 0) none_later))))))

stackings_later : (o : ℕ) → AllLater (stackings o)
unfolding stackings
stackings_later o =
    and_later same_later
    (and_later (more_later max_statements)
    (and_later (more_later max_steps)
    (and_later (opened_later 0)
    (and_later counted_later
    (and_later (opened_later o) (and_later (then_later counted (opened 0) counted_later (opened_later 0)) none_later))))))

pourings_later : (o : ℕ) → AllLater (pourings o)
unfolding pourings begun
pourings_later o =
    and_later same_later
    (and_later (then_later (poured 0) passed (poured_later 0) passed_later) (and_later (poured_later (tightness o)) none_later))

spelt_later : (c v : ℕ) → Later (spelt c v)
unfolding spelt
spelt_later c v x =
    let b : Writing → Writing = get_or (behinds v) (get_or behind_marks c 0) (λ w. w) in
    let m : Writing → Writing = formed (get_or forms c 0) in
    then_later (λ y. m (b y)) (get_or (stackings (c + op_shift)) (get_or stack_marks c 0) (λ w. w))
    (then_later b m (picked_later (behinds v) (behinds_later v) (get_or behind_marks c 0)) (formed_later (get_or forms c 0)))
    (picked_later (stackings (c + op_shift)) (stackings_later (c + op_shift)) (get_or stack_marks c 0)) x

put_later : (c v : ℕ) → Later (put c v)
unfolding put
put_later c v x =
    then_later (get_or (pourings (c + op_shift)) (get_or pour_marks c 0) (λ w. w)) (spelt c v)
    (picked_later (pourings (c + op_shift)) (pourings_later (c + op_shift)) (get_or pour_marks c 0)) (spelt_later c v) x

-- Two that are kept alike ------------------------------------------------------------------------------

stays_bad : (h : Writing → Writing) → Later h → (x : Writing) → good x ≡ false → good (h x) ≡ false
stays_bad h p x e = go (good (h x)) refl
  where
    go : (t : Bool) → good (h x) ≡ t → good (h x) ≡ false
    go true f = absurd (false≢true (sym e ∙ (p x).mended f))
    go false f = f

kept_bad : (x : Writing) → good x ≡ false → kept x ≡ writing [] [] [] 0 false
unfolding good kept
kept_bad (writing s w n l true) e = absurd (false≢true (sym e))
kept_bad (writing s w n l false) e = refl

alike_later : (h : Writing → Writing) → Later h → (x y : Writing) → kept x ≡ kept y → kept (h x) ≡ kept (h y)
unfolding good kept
alike_later h p (writing s w n l true) (writing s' w' n' l' true) k = ap (λ z. kept (h z)) k
alike_later h p (writing s w n l true) (writing s' w' n' l' false) k = absurd (false≢true (cc k))
alike_later h p (writing s w n l false) (writing s' w' n' l' true) k = absurd (false≢true (cc k))
alike_later h p (writing s w n l false) (writing s' w' n' l' false) k =
    kept_bad (h (writing s w n l false)) (stays_bad h p (writing s w n l false) refl)
    ∙ sym (kept_bad (h (writing s' w' n' l' false)) (stays_bad h p (writing s' w' n' l' false) refl))

pub formed_alike : (b : ℕ) (x y : Writing) → kept x ≡ kept y → kept (formed b x) ≡ kept (formed b y)
formed_alike b x y k = alike_later (formed b) (formed_later b) x y k

pub stacked_alike : (o m : ℕ) (x y : Writing) → kept x ≡ kept y → kept (get_or (stackings o) m (λ w. w) x) ≡ kept (get_or (stackings o) m (λ w. w) y)
stacked_alike o m x y k = alike_later (get_or (stackings o) m (λ w. w)) (picked_later (stackings o) (stackings_later o) m) x y k

-- What does not fit -------------------------------------------------------------------------------------

grown_unfit : (room : ℕ) (x y : Writing) → Grows x y → fits room x ≡ false → fits room y ≡ false
unfolding fits good size
grown_unfit room (writing s w n l f) (writing s' w' n' l' f') g e = go f' (leb (length s') room) refl refl
  where
    go : (t u : Bool) → f' ≡ t → leb (length s') room ≡ u → (f' && leb (length s') room) ≡ false
    go false u p q = rw p refl
    go true false p q = rw (p, q) refl
    go true true p q =
        let h : leb (length s) room ≡ true = le-leb (length s) room (le_trans g.longer (leb-true (length s') room q)) in
        let b : f ≡ true = g.mended p in
        absurd (false≢true (sym (rw (b, h) at e)))

pub put_unfit : (room c v : ℕ) (x : Writing) → fits room x ≡ false → fits room (put c v x) ≡ false
put_unfit room c v x e = grown_unfit room x (put c v x) (put_later c v x) e

-- two that are alike as far as there is room, what each role's own bytes make of them is
within_fit : (room : ℕ) (x : Writing) → fits room x ≡ true → within room x ≡ x
unfolding within fits kept
within_fit room (writing s w n l true) e = rw e refl
within_fit room (writing s w n l false) e = absurd (false≢true e)

pub within_unfit : (room : ℕ) (x : Writing) → fits room x ≡ false → within room x ≡ writing [] [] [] 0 false
unfolding fits within kept
within_unfit room (writing s w n l f) e = rw e refl

good_within : (room : ℕ) (x : Writing) → good (within room x) ≡ fits room x
unfolding good within fits kept
good_within room (writing s w n l f) = go (f && leb (length s) room) refl
  where
    go : (t : Bool) → (f && leb (length s) room) ≡ t → good (kept (writing s w n l (f && leb (length s) room))) ≡ (f && leb (length s) room)
    go true e = rw e refl
    go false e = rw e refl

pub fits_within : (room : ℕ) (x y : Writing) → within room x ≡ within room y → fits room x ≡ fits room y
fits_within room x y e = sym (good_within room x) ∙ ap good e ∙ good_within room y

-- and where one fits, they are one
pub within_one : (room : ℕ) (x y : Writing) → fits room x ≡ true → within room x ≡ within room y → x ≡ y
within_one room x y e k = sym (within_fit room x e) ∙ k ∙ within_fit room y (sym (fits_within room x y k) ∙ e)

within_kept : (room : ℕ) (x : Writing) → within room (kept x) ≡ within room x
unfolding within kept
within_kept room (writing s w n l true) = refl
within_kept room (writing s w n l false) = refl

pub kept_within : (room : ℕ) (x y : Writing) → kept x ≡ kept y → within room x ≡ within room y
kept_within room x y e = sym (within_kept room x) ∙ ap (within room) e ∙ within_kept room y

within_later : (h : Writing → Writing) → Later h → (room : ℕ) (x y : Writing) → within room x ≡ within room y → within room (h x) ≡ within room (h y)
within_later h p room x y k = go (fits room x) refl
  where
    go : (t : Bool) → fits room x ≡ t → within room (h x) ≡ within room (h y)
    go true e = ap (λ z. within room (h z)) (within_one room x y e k)
    go false e =
        within_unfit room (h x) (grown_unfit room x (h x) (p x) e)
        ∙ sym (within_unfit room (h y) (grown_unfit room y (h y) (p y) (sym (fits_within room x y k) ∙ e)))

pub passed_within : (room : ℕ) (x y : Writing) → within room x ≡ within room y → within room (passed x) ≡ within room (passed y)
passed_within room x y k = within_later passed passed_later room x y k

pub spelt_within : (room c v : ℕ) (x y : Writing) → within room x ≡ within room y → within room (spelt c v x) ≡ within room (spelt c v y)
spelt_within room c v x y k = within_later (spelt c v) (spelt_later c v) room x y k

-- what is poured over more bytes than there is room for is more
pub pour_unfit : (room t : ℕ) (s w n : List ℕ) (l : ℕ) (f : Bool) → room < length s → fits room (pour t s w n l f) ≡ false
unfolding fits
pour_unfit room t s w n l f h =
    grown_unfit room (writing s w n l f) (pour t s w n l f) (pour_later t s w s w n l f (omega arith))
    (rw (lt-leb (length s) room h) (and-false f))

-- The number of a literal -------------------------------------------------------------------------------

module _ (text : List ℕ) (i c : ℕ) where
  pub value_int : c ≡ int_kind → word_value (int_at text i) ≡ value_at text i c
  unfolding value_at
  value_int e = rw (value_at, eq-eqb c int_kind e) refl

  module _ (n : c ≡ int_kind → ⊥) where
    pub value_nat : c ≡ nat_kind → word_value (nat_at text i) ≡ value_at text i c
    unfolding value_at
    value_nat e = rw (value_at, ne_eqb c int_kind n, eq-eqb c nat_kind e) refl

    pub value_none : (c ≡ nat_kind → ⊥) → 0 ≡ value_at text i c
    unfolding value_at
    value_none m = rw (value_at, ne_eqb c int_kind n, ne_eqb c nat_kind m) refl
