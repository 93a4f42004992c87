-- Operators that waited and are written in memory (02 §2): how tight a byte binds, the loop over what waits, and where an expression begins.
use Rattle.std.specs.Prelude.{ℕ, ◌-◌, ◌<◌, ◌≤◌, ◌≡◌, Bool, List, ◌∷◌, get_or, set}
use Rattle.std.proofs.Common.{arith, ◌∙◌, length-set}
use Rattle.std.proofs.Math.Path.{refl, sym, ap}
use Rattle.std.proofs.Math.ListN.{length, drop, length-drop}
use borrow.Author.Tests.{eq-eqb, ne_eqb, lt-ltb, le-ltb}
use Rattle.derive.specs.Held.{held}
use Rattle.compose.specs.Writing.{Writing.writing, tightness, pour, poured, passed, begun}
use Rattle.compose.specs.Fits.{kept, within}
use Rattle.compose.proofs.Laws.FitsLaws.{within_unfit, passed_within, pour_unfit}
use Rattle.composing.specs.Pens.{stands, Spoilt, Popped, Near, Poured}
use Rattle.composing.specs.PenLaws.{drop_front, held_top, held_none, spoilt_stands, popped_stands}
use Rattle.composing.specs.declared.Pen.{Pen}
use Rattle.composing.specs.Sizes.{margin}
use Rattle.program.specs.Forms.{mul_form, add_form, and_form, or_form}

-- How tight a byte binds ---------------------------------------------------------------------------

module _ (c : ℕ) where
  pub tight_none : c ≡ 0 → 0 ≡ tightness c
  unfolding tightness
  tight_none e = rw (eq-eqb c 0 e, tightness) refl

  module _ (n : c ≡ 0 → ⊥) where
    pub tight_comparison : c < mul_form → 3 ≡ tightness c
    unfolding tightness
    tight_comparison h = rw (ne_eqb c 0 n, lt-ltb c mul_form h, tightness) refl

    pub tight_product : mul_form ≤ c → c < add_form → 5 ≡ tightness c
    unfolding tightness
    tight_product a h = rw (ne_eqb c 0 n, le-ltb c mul_form a, lt-ltb c add_form h, tightness) refl

    pub tight_sum : add_form ≤ c → c < and_form → 4 ≡ tightness c
    unfolding tightness
    tight_sum a h = rw (ne_eqb c 0 n, le-ltb c mul_form (omega arith), le-ltb c add_form a, lt-ltb c and_form h, tightness) refl

    pub tight_and : and_form ≤ c → c < or_form → 2 ≡ tightness c
    unfolding tightness
    tight_and a h = rw (ne_eqb c 0 n, le-ltb c mul_form (omega arith), le-ltb c add_form (omega arith), le-ltb c and_form a, lt-ltb c or_form h, tightness) refl

    pub tight_or : or_form ≤ c → 1 ≡ tightness c
    unfolding tightness
    tight_or a =
        rw (ne_eqb c 0 n, le-ltb c mul_form (omega arith), le-ltb c add_form (omega arith), le-ltb c and_form (omega arith), le-ltb c or_form a, tightness) refl

-- One that waits -----------------------------------------------------------------------------------

module _ (t c : ℕ) (s w n : List ℕ) (l : ℕ) (f : Bool) where
  pour_tighter : t < tightness c → pour t s (c ∷ w) n l f ≡ pour t (c ∷ s) w n l f
  unfolding pour
  pour_tighter h = rw (lt-ltb t (tightness c) h, pour) refl

  pour_stops : tightness c ≤ t → pour t s (c ∷ w) n l f ≡ writing s (c ∷ w) n l f
  unfolding pour
  pour_stops h = rw (le-ltb t (tightness c) h, pour) refl

-- The loop -----------------------------------------------------------------------------------------

-- from the pen p, with the output before the loop and now, the next place and how many still wait
pub record Pouring (out₀ stack : List ℕ) (p : Pen) (t : ℕ) (out : List ℕ) (at h : ℕ) : Type 0 where
  pub front : margin ≤ at
  pub behind : at ≤ p.place
  pub low : h ≤ p.height
  pub tall : p.height ≤ length stack
  pub inner : p.place ≤ length out₀
  pub same : length out ≡ length out₀
  pub state : (n : List ℕ) → pour t (drop at out) (held stack h) n p.later p.fits
      ≡ pour t (drop p.place out₀) (held stack p.height) n p.later p.fits

pub pouring_start : (out stack : List ℕ) (p : Pen) (t : ℕ) → margin ≤ p.place → p.place ≤ length out → p.height ≤ length stack
    → Pouring out stack p t out p.place p.height
pouring_start out stack p t a b c =
    record { front = a; behind = omega arith; low = omega arith; tall = c; inner = b; same = refl; state = λ n. refl }

-- where it stands
abbrev pub pen_at : Pen → ℕ → ℕ → Pen
pen_at p at h = record { place = at; height = h; left = p.left; later = p.later; fits = p.fits }

module _ {out₀ stack : List ℕ} {p : Pen} {t : ℕ} {out : List ℕ} {at h : ℕ} (r : Pouring out₀ stack p t out at h) where
  abbrev room : ℕ
  room = length out₀ - margin

  abbrev top : ℕ
  top = get_or stack (h - 1) 0

  pub poured_at : Poured p (pen_at p at h)
  poured_at = record { front = r.front; behind = r.behind; height = r.low; left = refl; later = refl }

  pub poured_spoilt : (q : Pen) → Spoilt p q → Poured p q
  poured_spoilt q e =
      record {
        front = omega (arith, e.0, r.front, r.behind);
        behind = omega (arith, e.0);
        height = omega (arith, e.1);
        left = e.2;
        later = e.3;
      }

  -- nothing waits any more
  pub pouring_end : h ≡ 0 → (n : List ℕ) → within room (stands out stack n (pen_at p at h)) ≡ within room (poured t (stands out₀ stack n p))
  unfolding stands poured pour
  pouring_end e n =
      let here : pour t (drop at out) (held stack h) (held n p.left) p.later p.fits
      ≡ writing (drop at out) (held stack h) (held n p.left) p.later p.fits = rw (held_none stack h e) refl in
      ap (within room) (sym here ∙ r.state (held n p.left))

  module _ (some : 0 < h) where
    above : held stack h ≡ top ∷ held stack (h - 1)
    above = held_top stack h (λ e. absurd (omega arith))

    -- one that is not tighter
    pub pouring_stops : tightness top ≤ t → (n : List ℕ)
        → within room (stands out stack n (pen_at p at h)) ≡ within room (poured t (stands out₀ stack n p))
    unfolding stands poured
    pouring_stops l n =
        let here : pour t (drop at out) (held stack h) (held n p.left) p.later p.fits
        ≡ writing (drop at out) (held stack h) (held n p.left) p.later p.fits =
        rw above (pour_stops t top (drop at out) (held stack (h - 1)) (held n p.left) p.later p.fits l) in
        ap (within room) (sym here ∙ r.state (held n p.left))

    module _ (l : t < tightness top) where
      taken : (n : List ℕ) → pour t (top ∷ drop at out) (held stack (h - 1)) n p.later p.fits
          ≡ pour t (drop p.place out₀) (held stack p.height) n p.later p.fits
      taken n =
          let here : pour t (drop at out) (held stack h) n p.later p.fits
          ≡ pour t (top ∷ drop at out) (held stack (h - 1)) n p.later p.fits =
          rw above (pour_tighter t top (drop at out) (held stack (h - 1)) n p.later p.fits l) in
          sym here ∙ r.state n

      pub pouring_next : margin < at → Pouring out₀ stack p t (set out (at - 1) top) (at - 1) (h - 1)
      pouring_next a =
          record {
            front = omega arith;
            behind = omega (arith, r.behind);
            low = omega (arith, r.low);
            tall = r.tall;
            inner = r.inner;
            same = length-set out (at - 1) top ∙ r.same;
            state = λ n. rw (drop_front out at top (omega arith) (omega (arith, r.behind, r.inner, r.same))) (taken n);
          }

      -- one more than there is room for
      pub pouring_over : at ≤ margin → (q : Pen) → Spoilt p q → (n : List ℕ)
          → within room (stands out stack n q) ≡ within room (poured t (stands out₀ stack n p))
      unfolding stands poured within kept
      pouring_over a q e n =
          let bytes : room < length (top ∷ drop at out) = omega (arith, length-drop at out, r.front, r.same, r.behind, r.inner) in
          let long = pour_unfit room t (top ∷ drop at out) (held stack (h - 1)) (held n p.left) p.later p.fits bytes in
          ap (within room) (spoilt_stands out stack n p q e)
          ∙ sym (within_unfit room _ long)
          ∙ ap (within room) (taken (held n p.left))

-- Where an expression begins -------------------------------------------------------------------------

module _ (out₀ out stack n : List ℕ) (room : ℕ) (p q : Pen)
    (k : within room (stands out stack n q) ≡ within room (poured 0 (stands out₀ stack n p))) where
  pub begun_none : q.height ≡ 0 → (r : Pen) → Spoilt q r → within room (stands out stack n r) ≡ within room (begun (stands out₀ stack n p))
  unfolding begun stands passed
  begun_none e r s =
      let here : stands out stack n r ≡ passed (stands out stack n q) = spoilt_stands out stack n q r s ∙ rw (held_none stack q.height e) refl in
      ap (within room) here ∙ passed_within room (stands out stack n q) (poured 0 (stands out₀ stack n p)) k

  pub begun_some : (q.height ≡ 0 → ⊥) → (r : Pen) → Popped q r → within room (stands out stack n r) ≡ within room (begun (stands out₀ stack n p))
  unfolding begun stands passed
  begun_some e r s =
      let here : stands out stack n r ≡ passed (stands out stack n q) = popped_stands out stack n q r s ∙ rw (held_top stack q.height e) refl in
      ap (within room) here ∙ passed_within room (stands out stack n q) (poured 0 (stands out₀ stack n p)) k

-- and then what leaves the bytes and no more that wait
pub poured_then : (p q r : Pen) → Poured p q → r.place ≡ q.place → r.height ≤ q.height → r.left ≡ q.left → r.later ≡ q.later → Poured p r
poured_then p q r a e h f g =
    record {
      front = omega (arith, a.front, e);
      behind = omega (arith, a.behind, e);
      height = omega (arith, a.height, h);
      left = f ∙ a.left;
      later = g ∙ a.later;
    }

pub near_poured : {b h l : ℕ} {p q r : Pen} → Poured p q → Near b h l q r → Near p.place h l p r
near_poured a n =
    record {
      front = omega arith;
      behind = omega (arith, a.behind, n.behind);
      height = omega (arith, a.height, n.height);
      left = omega (arith, a.left, n.left);
      later = omega (arith, a.later, n.later);
    }

-- what is not poured
pub poured_same : (p : Pen) → margin ≤ p.place → Poured p p
poured_same p h = record { front = h; behind = omega arith; height = omega arith; left = refl; later = refl }
