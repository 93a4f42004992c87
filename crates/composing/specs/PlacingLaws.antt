-- The whole stream in memory: one law for each way through `stream`. The output has `front_most` bytes more than a stream at the most, so every test is exact.
use Rattle.std.specs.Prelude.{ℕ, ◌-◌, ◌<◌, ◌≤◌, ◌≡◌, Bool, false, List, [], ◌∷◌, ◌++◌, length}
use Rattle.std.proofs.Common.{arith, ◌∙◌, length-append}
use Rattle.std.proofs.Math.Path.{refl, sym, ap}
use Rattle.std.proofs.Math.Bool.{true}
use Rattle.std.proofs.lemmas.Bool.{false≢true}
use Rattle.std.proofs.Math.Option.{none, some}
use Rattle.std.proofs.Math.ListN.{drop, length-drop}
use Rattle.std.proofs.Math.Dec.{leb}
use borrow.Author.Tests.{leb-false, le-leb, lt-leb}
use Rattle.meaning.specs.Holds.{max_stream}
use Rattle.meaning.specs.Meant.{provided}
use Rattle.derive.specs.Held.{held}
use Rattle.compose.specs.Writing.{Writing, Writing.writing, counted}
use Rattle.compose.specs.Fits.{kept, within}
use Rattle.compose.specs.Composed.{of_writing}
use Rattle.composing.specs.Pens.{stands}
use Rattle.composing.specs.declared.Pen.{Pen}
use Rattle.composing.specs.Sizes.{margin, front_most, output_size}

-- what is written is more than a stream holds
long_none : (head s w n : List ℕ) (l : ℕ) (f : Bool) → max_stream < length (head ++ s) → none ≡ of_writing head (writing s w n l f)
unfolding of_writing provided
long_none head s w n l true h = rw (lt-leb (length (head ++ s)) max_stream h) refl
long_none head s w n l false h = refl

bad_none : (head s w n : List ℕ) (l : ℕ) (f : Bool) → f ≡ false → none ≡ of_writing head (writing s w n l f)
unfolding of_writing provided
bad_none head s w n l f e = rw e refl

-- and no less with the count that waits in front
long_counted : (head s w n : List ℕ) (l : ℕ) (f : Bool) → max_stream ≤ length s → none ≡ of_writing head (counted (writing s w n l f))
unfolding counted
long_counted head s [] n l f h = bad_none head s [] n l false refl
long_counted head s (c ∷ w) n l f h = long_none head (c ∷ s) w n l f (omega (arith, length-append head (c ∷ s)))

bad_counted : (head s w n : List ℕ) (l : ℕ) (f : Bool) → f ≡ false → none ≡ of_writing head (counted (writing s w n l f))
unfolding counted
bad_counted head s [] n l f e = bad_none head s [] n l false refl
bad_counted head s (c ∷ w) n l f e = bad_none head (c ∷ s) w n l f e

-- not written, or more than the room
unfit_none : (head : List ℕ) (room : ℕ) (x : Writing) → max_stream ≤ room → within room x ≡ writing [] [] [] 0 false → none ≡ of_writing head (counted x)
unfolding within kept
unfit_none head room (writing s w n l f) m e = go f (leb (length s) room) refl refl
  where
    go : (t u : Bool) → f ≡ t → leb (length s) room ≡ u → none ≡ of_writing head (counted (writing s w n l f))
    go false u p q = bad_counted head s w n l f p
    go true false p q = long_counted head s w n l f (omega (arith, leb-false (length s) room q))
    go true true p q = absurd (false≢true (cc (rw (p, q) at e)))

-- what fits is what was written
fit_is : (s w n : List ℕ) (l room : ℕ) (x : Writing) → within room x ≡ writing s w n l true → x ≡ writing s w n l true
unfolding within kept
fit_is s w n l room (writing s' w' n' l' f) e = go f (leb (length s') room) refl refl
  where
    go : (t u : Bool) → f ≡ t → leb (length s') room ≡ u → writing s' w' n' l' f ≡ writing s w n l true
    go false u p q = absurd (false≢true (cc (rw p at e)))
    go true false p q = absurd (false≢true (cc (rw (p, q) at e)))
    go true true p q = rw p (rw (p, q) at e)

-- what is written as far as it fits, by a pen in an output as it was and as it is
module _ (head out₀ out stack numbers : List ℕ) (p : Pen) (x : Writing) (size : length out₀ ≡ output_size) (same : length out ≡ length out₀)
    (state : kept (stands out stack numbers p) ≡ within (length out₀ - margin) x) where
  pub placed_unfit : p.fits ≡ false → none ≡ of_writing head (counted x)
  unfolding stands kept
  placed_unfit e = unfit_none head (length out₀ - margin) x (omega (arith, size)) (sym state ∙ rw e refl)

  module _ (fit : p.fits ≡ true) where
    pub fit_stands : x ≡ stands out stack numbers p
    unfolding stands kept
    fit_stands =
        let whole : kept (stands out stack numbers p) ≡ stands out stack numbers p = rw fit refl in
        let as_it_is : stands out stack numbers p
        ≡ writing (drop p.place out) (held stack p.height) (held numbers p.left) p.later true = rw fit refl in
        let found : within (length out₀ - margin) x ≡ writing (drop p.place out) (held stack p.height) (held numbers p.left) p.later true =
        sym state ∙ whole ∙ as_it_is in
        fit_is (drop p.place out) (held stack p.height) (held numbers p.left) p.later (length out₀ - margin) x found ∙ sym as_it_is

    pub placed_long : p.place ≤ length out → p.place ≤ front_most → none ≡ of_writing head (counted x)
    unfolding stands
    placed_long inner h =
        long_counted head (drop p.place out) (held stack p.height) (held numbers p.left) p.later p.fits
        (omega (arith, h, size, same, inner, length-drop p.place out))
        ∙ ap (λ y. of_writing head (counted y)) (sym fit_stands)

-- what is written with the count that waited, by a pen in an output
module _ (head out stack numbers : List ℕ) (p : Pen) (y : Writing) (state : stands out stack numbers p ≡ y) where
  pub placed_bad : p.fits ≡ false → none ≡ of_writing head y
  unfolding stands
  placed_bad e =
      bad_none head (drop p.place out) (held stack p.height) (held numbers p.left) p.later p.fits e ∙ ap (of_writing head) state

  -- with the header in front
  module _ (out₁ : List ℕ) (at : ℕ) (size : length out₁ ≡ output_size) (bytes : drop at out₁ ≡ head ++ drop p.place out) where
    in_all : length (head ++ drop p.place out) ≡ output_size - at
    in_all = ap length (sym bytes) ∙ length-drop at out₁ ∙ ap (λ n. n - at) size

    pub placed_over : at < front_most → none ≡ of_writing head y
    unfolding stands
    placed_over h =
        long_none head (drop p.place out) (held stack p.height) (held numbers p.left) p.later p.fits (omega (arith, h, in_all))
        ∙ ap (of_writing head) state

    pub placed_at : p.fits ≡ true → front_most ≤ at → some (drop at out₁) ≡ of_writing head y
    unfolding stands of_writing provided
    placed_at fit h =
        let l : leb (length (head ++ drop p.place out)) max_stream ≡ true =
        le-leb (length (head ++ drop p.place out)) max_stream (omega (arith, h, in_all)) in
        let w : of_writing head (stands out stack numbers p) ≡ some (head ++ drop p.place out) = rw (fit, l) refl in
        ap some bytes ∙ sym w ∙ ap (of_writing head) state
