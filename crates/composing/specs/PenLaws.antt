-- Laws of writing in memory: one for each way through the code.
use Rattle.std.specs.Prelude.{ℕ, zero, suc, ◌+◌, ◌-◌, ◌/◌, ◌%◌, ◌<◌, ◌≤◌, ◌≡◌, Bool, false, List, [], ◌∷◌, length, get_or, set, drop}
use Rattle.std.proofs.Common.{arith, sub-one, ap, ◌∙◌, get_or-set_same, drop-cons, drop-set-lt, lt-length-set}
use Rattle.std.proofs.Math.Numerals.{add-one}
use Rattle.std.proofs.Math.Path.{refl}
use Rattle.std.proofs.Math.Bool.{and-true, and-false}
use borrow.Author.Tests.{eq-eqb, ne_eqb, lt-ltb, le-ltb, le-leb, lt-leb}
use Rattle.program.specs.Encoding.{enc_word}
use Rattle.derive.specs.Held.{held}
use Rattle.derive.specs.HeldLaws.{held_push}
use Rattle.compose.specs.Writing.{Writing, Writing.writing, wrote, numbered, pathed, worded, more, opened, counted, formed, max_later}
use Rattle.composing.specs.Pens.{stands, Spoilt, Popped, Near}
use Rattle.compose.specs.Fits.{kept}
use Rattle.composing.specs.declared.Pen.{Pen}

-- a byte in front of those from a place on
pub drop_front : (out : List ℕ) (k b : ℕ) → 0 < k → k ≤ length out → drop (k - 1) (set out (k - 1) b) ≡ b ∷ drop k out
drop_front out zero b l h = absurd (omega arith)
drop_front out (suc j) b l h =
    rw (
      sub-one,
      drop-cons (set out j b) j 0 (lt-length-set out j b (omega arith)),
      get_or-set_same out j b 0 (omega arith),
      drop-set-lt (suc j) out j b (omega arith),
    ) refl

-- what is held has its last one on top; another one there
pub held_top : (s : List ℕ) (h : ℕ) → (h ≡ 0 → ⊥) → held s h ≡ get_or s (h - 1) 0 ∷ held s (h - 1)
unfolding held
held_top s zero n = absurd (n refl)
held_top s (suc h) n = rw sub-one refl

pub held_none : (s : List ℕ) (h : ℕ) → h ≡ 0 → held s h ≡ []
unfolding held
held_none s h e = rw e refl

pub held_changed : (s : List ℕ) (h v : ℕ) → (h ≡ 0 → ⊥) → h ≤ length s → held (set s (h - 1) v) h ≡ v ∷ held s (h - 1)
held_changed s zero v n l = absurd (n refl)
held_changed s (suc h) v n l = rw (sub-one, ← add-one h) (held_push s h v (omega arith))

-- Pens --------------------------------------------------------------------------------------------------

pub spoilt_stands : (out w n : List ℕ) (p r : Pen) → Spoilt p r
    → stands out w n r ≡ writing (drop p.place out) (held w p.height) (held n p.left) p.later false
unfolding stands
spoilt_stands out w n p r e = rw (e.0, e.1, e.2, e.3, e.4) refl

pub popped_stands : (out w n : List ℕ) (p q : Pen) → Popped p q
    → stands out w n q ≡ writing (drop p.place out) (held w (p.height - 1)) (held n p.left) p.later p.fits
unfolding stands
popped_stands out w n p q e = let h : q.height ≡ p.height - 1 = omega (arith, e.1) in rw (e.0, h, e.2, e.3, e.4) refl

pub near_same : (p : Pen) → Near 0 0 0 p p
near_same p = record { front = omega arith; behind = omega arith; height = omega arith; left = omega arith; later = omega arith }

pub near_spoilt : (p r : Pen) → Spoilt p r → Near 0 0 0 p r
near_spoilt p r e =
    record { front = omega (arith, e.0); behind = omega (arith, e.0); height = omega (arith, e.1); left = omega (arith, e.2); later = omega (arith, e.3) }

pub near_popped : (p q : Pen) → Popped p q → Near 0 0 0 p q
near_popped p q e =
    record { front = omega (arith, e.0); behind = omega (arith, e.0); height = omega (arith, e.1); left = omega (arith, e.2); later = omega (arith, e.3) }

-- at most so near; of two in a row
pub near_within : {a h l : ℕ} (b i m : ℕ) {p q : Pen} → Near a h l p q → a ≤ b → h ≤ i → l ≤ m → Near b i m p q
near_within b i m x c d e =
    record {
      front = omega (arith, x.front);
      behind = x.behind;
      height = omega (arith, x.height);
      left = x.left;
      later = omega (arith, x.later);
    }

pub near_then : {a h l b i m : ℕ} (d j k : ℕ) {p q r : Pen} → Near a h l p q → Near b i m q r → a + b ≤ d → h + i ≤ j → l + m ≤ k → Near d j k p r
near_then d j k x y e f g =
    record {
      front = omega (arith, x.front, y.front);
      behind = omega (arith, x.behind, y.behind);
      height = omega (arith, x.height, y.height);
      left = omega (arith, x.left, y.left);
      later = omega (arith, x.later, y.later);
    }

-- Forms and words ----------------------------------------------------------------------------------------

pub formed_none : (b : ℕ) (x : Writing) → b ≡ 0 → x ≡ formed b x
unfolding formed
formed_none b x e = rw (formed, eq-eqb b 0 e) refl

pub formed_some : (b : ℕ) (x : Writing) → (b ≡ 0 → ⊥) → wrote b x ≡ formed b x
unfolding formed
formed_some b x n = rw (formed, ne_eqb b 0 n) refl

-- four bytes, the last one first
pub worded_by : (v b₁ b₂ b₃ b₄ : ℕ) (s w n : List ℕ) (l : ℕ) (f : Bool) (x₁ x₂ x₃ x₄ : Writing)
    → b₁ ≡ (v / 256 / 256 / 256) % 256 → b₂ ≡ (v / 256 / 256) % 256 → b₃ ≡ (v / 256) % 256 → b₄ ≡ v % 256
    → x₁ ≡ wrote b₁ (writing s w n l f) → x₂ ≡ wrote b₂ x₁ → x₃ ≡ wrote b₃ x₂ → x₄ ≡ wrote b₄ x₃ → x₄ ≡ worded v (writing s w n l f)
unfolding worded wrote enc_word
worded_by v b₁ b₂ b₃ b₄ s w n l f x₁ x₂ x₃ x₄ p₁ p₂ p₃ p₄ e₁ e₂ e₃ e₄ =
    let all : wrote b₄ (wrote b₃ (wrote b₂ (wrote b₁ (writing s w n l f)))) ≡ worded v (writing s w n l f) = rw (p₁, p₂, p₃, p₄) refl in
    e₄ ∙ ap (wrote b₄) (e₃ ∙ ap (wrote b₃) (e₂ ∙ ap (wrote b₂) e₁)) ∙ all

-- Numbers and paths ----------------------------------------------------------------------------------

pub numbered_none : (s w numbers : List ℕ) (n l : ℕ) (f : Bool) → n ≡ 0 → writing s w (held numbers n) l false ≡ numbered (writing s w (held numbers n) l f)
unfolding numbered
numbered_none s w numbers n l f e = rw (held_none numbers n e) refl

pub numbered_some : (out w numbers : List ℕ) (k n l : ℕ) (f : Bool) → 0 < k → k ≤ length out → (n ≡ 0 → ⊥)
    → writing (drop (k - 1) (set out (k - 1) (get_or numbers (n - 1) 0))) w (held numbers (n - 1)) l f ≡ numbered (writing (drop k out) w (held numbers n) l f)
unfolding numbered
numbered_some out w numbers k n l f a b c = rw (held_top numbers n c, drop_front out k (get_or numbers (n - 1) 0) a b) refl

-- the path at hand ends
unfoldable pub unlengthened : Writing → Writing
unlengthened (writing s w n l f) = writing s w n 0 f

pub pathed_over : (s w n s' w' n' : List ℕ) (l l' : ℕ) (f : Bool) → max_later < l
    → kept (writing s' w' n' l' false) ≡ kept (pathed (writing s w n l f))
unfolding pathed kept
pathed_over s w n s' w' n' l l' f h = rw (lt-leb l max_later h, and-false f) refl

pub pathed_within : (s w n : List ℕ) (l : ℕ) (f : Bool) (x : Writing) → l ≤ max_later → x ≡ wrote (l + 1) (writing s w n l f)
    → kept (unlengthened x) ≡ kept (pathed (writing s w n l f))
unfolding pathed unlengthened wrote
pathed_within s w n l f x h e = rw (e, le-leb l max_later h, and-true f, add-one l) refl

-- What waits -------------------------------------------------------------------------------------------

module _ (s stack n : List ℕ) (h l : ℕ) (f : Bool) where
  pub more_none : (limit : ℕ) → h ≡ 0 → writing s (held stack h) n l false ≡ more limit (writing s (held stack h) n l f)
  unfolding more
  more_none limit e = rw (held_none stack h e) refl

  pub counted_none : h ≡ 0 → writing s (held stack h) n l false ≡ counted (writing s (held stack h) n l f)
  unfolding counted
  counted_none e = rw (held_none stack h e) refl

  pub opened_on : (c : ℕ) → h < length stack → writing s (held (set stack h c) (h + 1)) n l f ≡ opened c (writing s (held stack h) n l f)
  unfolding opened
  opened_on c a = rw (held_push stack h c a) refl

  module _ (c : h ≡ 0 → ⊥) where
    pub more_over : (limit : ℕ) → limit ≤ get_or stack (h - 1) 0 → kept (writing s (held stack h) n l false) ≡ kept (more limit (writing s (held stack h) n l f))
    unfolding more kept
    more_over limit a = rw (held_top stack h c, le-ltb (get_or stack (h - 1) 0) limit a, and-false f) refl

    pub more_within : (limit : ℕ) → h ≤ length stack → get_or stack (h - 1) 0 < limit
        → writing s (held (set stack (h - 1) (get_or stack (h - 1) 0 + 1)) h) n l f ≡ more limit (writing s (held stack h) n l f)
    unfolding more
    more_within limit a b =
        rw (
          held_changed stack h (get_or stack (h - 1) 0 + 1) c a,
          held_top stack h c,
          lt-ltb (get_or stack (h - 1) 0) limit b,
          and-true f,
          add-one (get_or stack (h - 1) 0),
        ) refl

    pub counted_on : wrote (get_or stack (h - 1) 0) (writing s (held stack (h - 1)) n l f) ≡ counted (writing s (held stack h) n l f)
    unfolding counted wrote
    counted_on = rw (held_top stack h c) refl
