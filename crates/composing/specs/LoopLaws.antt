-- The loop over the places of a text from its end: memory stands as the fold over what stands there, as long as that fits.
use Rattle.std.specs.Prelude.{ℕ, zero, suc, ◌+◌, ◌-◌, ◌<◌, ◌≤◌, ◌≡◌, Bool, ◌&&◌, List, [], length, get_or, set, drop, leb}
use Rattle.std.proofs.Common.{arith, add-one, sym, ap, ◌∙◌, length-drop, length-set, drop-cons, get_or-set_same}
use Rattle.std.proofs.Math.Path.{refl}
use Rattle.std.proofs.Math.Bool.{true, false}
use Rattle.std.proofs.Math.Seq.{drop-length}
use Rattle.std.proofs.Math.Dec.{eqb}
use borrow.Author.Tests.{eqb-true, leb-true, leb-false, le-leb, lt-leb}
use Rattle.tokens.proofs.Laws.ByteLaws.{both_true}
use Rattle.derive.specs.Held.{held}
use Rattle.lexer.specs.Gaps.{Gap}
use Rattle.lexer.specs.GapLaws.{gap_back}
use Rattle.compose.specs.Writing.{Writing, Writing.writing, behinds, pourings, stackings, formed, spelt, put, start}
use Rattle.composing.specs.Pens.{stands, Near}
use Rattle.compose.specs.Fits.{kept, value_at, writes_at, fits, within}
use Rattle.compose.proofs.Laws.FitsLaws.{put_unfit, within_unfit, fits_within, within_one}
use Rattle.composing.specs.declared.Pen.{Pen}
use Rattle.composing.specs.Sizes.{margin}

-- Whether it fits ---------------------------------------------------------------------------------

within_fits : (room : ℕ) (x : Writing) → fits room x ≡ true → within room x ≡ kept x
unfolding fits within kept
within_fits room (writing s w n l true) e = rw e refl
within_fits room (writing s w n l false) e = refl

kept_spoilt : (out stack numbers : List ℕ) (p : Pen) → p.fits ≡ false → kept (stands out stack numbers p) ≡ writing [] [] [] 0 false
unfolding stands kept
kept_spoilt out stack numbers p e = rw e refl

-- the room is six bytes less than there are, since a role writes so many at the most, but for operators that waited
room_left : (out : List ℕ) (k : ℕ) → margin ≤ length out → k ≤ length out → leb margin k ≡ leb (length (drop k out)) (length out - margin)
room_left out k a b = go (leb margin k) refl
  where
    go : (t : Bool) → leb margin k ≡ t → t ≡ leb (length (drop k out)) (length out - margin)
    go true e = let h = leb-true margin k e in sym (le-leb (length (drop k out)) (length out - margin) (rw (length-drop k out) (omega (arith, h))))
    go false e = let h = leb-false margin k e in sym (lt-leb (length (drop k out)) (length out - margin) (rw (length-drop k out) (omega (arith, h))))

-- what is tested of a pen is whether what it stands for fits
pub tested : (out stack numbers : List ℕ) (p : Pen) (x : Writing) → margin ≤ length out → p.place ≤ length out
    → within (length out - margin) (stands out stack numbers p) ≡ within (length out - margin) x
    → (p.fits && leb margin p.place) ≡ fits (length out - margin) x
unfolding stands fits
tested out stack numbers p x a b e =
    rw (room_left out p.place a b) (fits_within (length out - margin) (stands out stack numbers p) x e)

-- One place -----------------------------------------------------------------------------------------

put_nothing : (v : ℕ) (x : Writing) → put 0 v x ≡ x
unfolding put spelt pourings behinds formed stackings
put_nothing v x = refl

module _ (text roles : List ℕ) (z : Writing) where
  abbrev from : ℕ → Writing
  from i = writes_at text i (drop i roles) z

  module _ (i : ℕ) (l : i < length roles) where
    pub from_past : get_or roles i 0 ≡ 0 → from i ≡ from (suc i)
    unfolding writes_at
    from_past e = rw (drop-cons roles i 0 l, e) refl

    -- 0 is no role's byte, and does nothing
    pub from_next : from i ≡ put (get_or roles i 0) (value_at text i (get_or roles i 0)) (from (suc i))
    unfolding writes_at
    from_next = go (eqb (get_or roles i 0) 0) refl
      where
        go : (t : Bool) → eqb (get_or roles i 0) 0 ≡ t → from i ≡ put (get_or roles i 0) (value_at text i (get_or roles i 0)) (from (suc i))
        go true f = let e = eqb-true (get_or roles i 0) 0 f in from_past e ∙ rw e (sym (put_nothing (value_at text i 0) (from (suc i))))
        go false f = rw (drop-cons roles i 0 l, writes_at, f) refl

    unfit_next : (room : ℕ) → fits room (from (suc i)) ≡ false → fits room (from i) ≡ false
    unfit_next room e =
        ap (fits room) from_next ∙ put_unfit room (get_or roles i 0) (value_at text i (get_or roles i 0)) (from (suc i)) e

  pub unfit_all : (room i : ℕ) → i ≤ length roles → fits room (from i) ≡ false → fits room (from 0) ≡ false
  unfit_all room zero l e = e
  unfit_all room (suc i) l e = unfit_all room i (omega arith) (unfit_next i (omega arith) room e)

-- The loop ------------------------------------------------------------------------------------------

-- of the roles, from place i on, with the numbers, and the memory before the loop and now
pub record Reached (text roles numbers out₀ stack₀ out stack : List ℕ) (p : Pen) (i : ℕ) : Type 0 where
  pub inner : i ≤ length roles
  pub state : stands out stack numbers p ≡ writes_at text i (drop i roles) (start (held numbers (length numbers)))
  pub good : p.fits ≡ true
  pub front : margin ≤ p.place
  pub behind : p.place ≤ length out
  pub low : p.height + i ≤ length roles + 1
  pub high : length roles < length stack
  pub rest : p.left ≤ length numbers
  pub short : p.later + i ≤ length roles
  pub room : length out ≡ length out₀
  pub tall : length stack ≡ length stack₀

-- before the first place: nothing is written, the schedule's count waits
abbrev pub first_pen : List ℕ → List ℕ → Pen
first_pen out numbers = record { place = length out; height = 1; left = length numbers; later = 0; fits = true }

pub reached_start : (text roles numbers out stack : List ℕ) → length roles < length stack → margin ≤ length out
    → Reached text roles numbers out (set stack 0 0) out (set stack 0 0) (first_pen out numbers) (length roles)
unfolding stands writes_at held
reached_start text roles numbers out stack l m =
    let e : stands out (set stack 0 0) numbers (first_pen out numbers)
    ≡ writing (drop (length out) out) (held (set stack 0 0) 1) (held numbers (length numbers)) 0 true = refl in
    record {
      inner = omega arith;
      state = e ∙ rw (drop-length out, drop-length roles, get_or-set_same stack 0 0 0 (omega arith)) refl;
      good = refl;
      front = m;
      behind = omega arith;
      low = omega arith;
      high = rw (length-set stack 0 0) l;
      rest = omega arith;
      short = omega arith;
      room = refl;
      tall = refl;
    }

abbrev pub at_end : List ℕ → Writing
at_end numbers = start (held numbers (length numbers))

module _ (text roles numbers out₀ stack₀ out stack : List ℕ) (p : Pen) where
  past : (j : ℕ) → Reached text roles numbers out₀ stack₀ out stack p (suc j) → get_or roles j 0 ≡ 0 → Reached text roles numbers out₀ stack₀ out stack p j
  past j r e =
      record {
        inner = omega (arith, r.inner);
        state = r.state ∙ sym (from_past text roles (at_end numbers) j (omega (arith, r.inner)) e);
        good = r.good;
        front = r.front;
        behind = r.behind;
        low = omega (arith, r.low);
        high = r.high;
        rest = r.rest;
        short = omega (arith, r.short);
        room = r.room;
        tall = r.tall;
      }

  -- nothing is written where no token begins
  pub reached_gap : {i j : ℕ} → Gap roles i j → Reached text roles numbers out₀ stack₀ out stack p j → Reached text roles numbers out₀ stack₀ out stack p i
  reached_gap g r = gap_back (Reached text roles numbers out₀ stack₀ out stack p) (λ k l e t. past k (rw add-one at t) e) g r

  pub reached_end : (i : ℕ) → Reached text roles numbers out₀ stack₀ out stack p i → i ≡ 0
      → kept (stands out stack numbers p) ≡ within (length out₀ - margin) (writes_at text 0 roles (at_end numbers))
  reached_end i r e =
      let s : stands out stack numbers p ≡ writes_at text 0 roles (at_end numbers) = rw e at r.state in
      let f : (p.fits && leb margin p.place) ≡ fits (length out - margin) (stands out stack numbers p) =
      tested out stack numbers p (stands out stack numbers p) (omega (arith, r.front, r.behind)) r.behind refl in
      let t : (p.fits && leb margin p.place) ≡ true = rw (r.good, le-leb margin p.place r.front) refl in
      let g : fits (length out₀ - margin) (writes_at text 0 roles (at_end numbers)) ≡ true = rw (← r.room, ← s) (sym f ∙ t) in
      ap kept s ∙ sym (within_fits (length out₀ - margin) (writes_at text 0 roles (at_end numbers)) g)

-- A role ----------------------------------------------------------------------------------------------

-- the role in front of place i, and what it leaves
pub record Took (text roles numbers out₀ stack₀ out stack : List ℕ) (p : Pen) (out₁ stack₁ : List ℕ) (q : Pen) (i : ℕ) : Type 0 where
  pub reached : Reached text roles numbers out₀ stack₀ out stack p i
  pub more : 0 < i
  pub near : Near p.place 1 1 p q
  pub same_out : length out₁ ≡ length out
  pub same_stack : length stack₁ ≡ length stack
  pub v : ℕ
  pub value : v ≡ value_at text (i - 1) (get_or roles (i - 1) 0)
  pub made : within (length out - margin) (stands out₁ stack₁ numbers q)
      ≡ within (length out - margin) (put (get_or roles (i - 1) 0) v (stands out stack numbers p))

module _ {text roles numbers out₀ stack₀ out stack : List ℕ} {p : Pen} {out₁ stack₁ : List ℕ} {q : Pen} {i : ℕ}
    (k : Took text roles numbers out₀ stack₀ out stack p out₁ stack₁ q i) where
  abbrev r : Reached text roles numbers out₀ stack₀ out stack p i
  r = k.reached

  abbrev role : Writing
  role = put (get_or roles (i - 1) 0) k.v (stands out stack numbers p)

  made_here : within (length out₁ - margin) (stands out₁ stack₁ numbers q) ≡ within (length out₁ - margin) role
  made_here = rw k.same_out k.made

  is_left : role ≡ writes_at text (i - 1) (drop (i - 1) roles) (at_end numbers)
  is_left =
      let e : i ≡ suc (i - 1) = omega (arith, k.more) in
      let s : stands out stack numbers p ≡ writes_at text (suc (i - 1)) (drop (suc (i - 1)) roles) (at_end numbers) =
      r.state ∙ ap (λ j. writes_at text j (drop j roles) (at_end numbers)) e in
      ap (λ v. put (get_or roles (i - 1) 0) v (stands out stack numbers p)) k.value
      ∙ ap (put (get_or roles (i - 1) 0) (value_at text (i - 1) (get_or roles (i - 1) 0))) s
      ∙ sym (from_next text roles (at_end numbers) (i - 1) (omega (arith, k.more, r.inner)))

  fits_left : (q.fits && leb margin q.place) ≡ fits (length out₁ - margin) role
  fits_left =
      tested out₁ stack₁ numbers q role (omega (arith, r.front, r.behind, k.same_out)) (omega (arith, k.near.behind, r.behind, k.same_out)) made_here

  pub reached_token : (q.fits && leb margin q.place) ≡ true → Reached text roles numbers out₀ stack₀ out₁ stack₁ q (i - 1)
  reached_token t =
      let two = both_true q.fits (leb margin q.place) t in
      let f : fits (length out₁ - margin) (stands out₁ stack₁ numbers q) ≡ true =
      fits_within (length out₁ - margin) (stands out₁ stack₁ numbers q) role made_here ∙ sym fits_left ∙ t in
      record {
        inner = omega (arith, r.inner);
        state = within_one (length out₁ - margin) (stands out₁ stack₁ numbers q) role f made_here ∙ is_left;
        good = two.0;
        front = leb-true margin q.place two.1;
        behind = omega (arith, k.near.behind, r.behind, k.same_out);
        low = omega (arith, k.near.height, r.low, k.more);
        high = omega (arith, r.high, k.same_stack);
        rest = omega (arith, k.near.left, r.rest);
        short = omega (arith, k.near.later, r.short, k.more);
        room = k.same_out ∙ r.room;
        tall = k.same_stack ∙ r.tall;
      }

  refused : (q.fits && leb margin q.place) ≡ false → within (length out₀ - margin) (writes_at text 0 roles (at_end numbers)) ≡ writing [] [] [] 0 false
  refused t =
      let f : fits (length out₁ - margin) (writes_at text (i - 1) (drop (i - 1) roles) (at_end numbers)) ≡ false =
      ap (fits (length out₁ - margin)) (sym is_left) ∙ sym fits_left ∙ t in
      within_unfit (length out₀ - margin) (writes_at text 0 roles (at_end numbers))
      (rw (k.same_out ∙ r.room) at (unfit_all text roles (at_end numbers) (length out₁ - margin) (i - 1) (omega (arith, r.inner)) f))

  pub reached_refused : (q.fits && leb margin q.place) ≡ false → (s : Pen) → s.fits ≡ false
      → kept (stands out₁ stack₁ numbers s) ≡ within (length out₀ - margin) (writes_at text 0 roles (at_end numbers))
  reached_refused t s f = kept_spoilt out₁ stack₁ numbers s f ∙ sym (refused t)
