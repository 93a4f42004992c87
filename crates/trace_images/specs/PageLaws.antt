-- A page of a text grows by a line (docs/FORMAT.md, 'Traces').
use Prim.Native.Nat.{ℕ, ◌+◌, ◌-◌, ◌≤◌, min}
use Rattle.std.proofs.Common.{arith, le_trans, subst, ◌∙◌, length-append, length-take, length-drop, drop_of_length-le, take_at, take_all, leb-true, leb-false}
use Rattle.std.proofs.Math.Nat.{min-le_left, min-le_right}
use Rattle.std.specs.Prelude.{◌≡◌, refl, Bool, true, false, drop, leb}
use Rattle.std.proofs.Math.Path.{sym, ap}
use mathlib.Core.List.{List, [], ◌++◌}
use Rattle.std.proofs.Math.ListN.{length, take}
use Rattle.std.proofs.lemmas.List.Edits.{sets-eq}
use Rattle.std.proofs.Math.Seq.{take-length, drop-length}
use Rattle.block.specs.Put.{put}
use Rattle.text.specs.Listing.{Placed}
use Rattle.trace.specs.TracePage.{page, paged}
use Rattle.trace.proofs.TracePageLaws.{paged_none, page_end, page_end_is, page_end_within, page_part, paged_more, paged_length}
use Rattle.trace_images.specs.declared.Traced.{Traced}
use Rattle.trace_images.specs.declared.pages.Page.{Page}
use Rattle.trace_images.specs.Pages.{blank, longer, Paged, Grows, traced, Answered}

-- before the first line there is no text
pub paged_blank : (i : ℕ) (out : List ℕ) → Paged [] out (blank i) out
paged_blank i out = record { counted = refl; shown = sym (paged_none i out) }

-- a buffer stays as long as it is
pub paged_kept : {text lent out : List ℕ} {g : Page} → Paged text lent g out → length out ≡ length lent
paged_kept {text} {lent} {g = g} h = ap length h.shown ∙ paged_length g.from text lent

-- Parts past the end of a list ----------------------------------------------------

-- of what is the same from the end of a list on, n may be taken for the end where it is greater
least_same : {A : Type 0} (n : ℕ) (l : List ℕ) (f : ℕ → A) → ((k : ℕ) → length l ≤ k → f k ≡ f (length l)) → f (min (length l) n) ≡ f n
least_same n l f past = go (leb n (length l)) refl
  where
    go : (b : Bool) → leb n (length l) ≡ b → f (min (length l) n) ≡ f n
    go true b = let h = leb-true n (length l) b in let e : min (length l) n ≡ n = omega arith in ap f e
    go false b =
        let h = leb-false n (length l) b in
        let e : min (length l) n ≡ length l = omega arith in
        ap f e ∙ sym (past n (omega arith))

take_least : (n : ℕ) (l : List ℕ) → take (min (length l) n) l ≡ take n l
take_least n l = least_same n l (λ (k : ℕ). take k l) (λ k h. take_all k l h ∙ sym (take-length l))

drop_least : (n : ℕ) (l : List ℕ) → drop (min (length l) n) l ≡ drop n l
drop_least n l = least_same n l (λ (k : ℕ). drop k l) (λ k h. drop_of_length-le l {i = k} h ∙ sym (drop-length l))

-- a part within what is left
sums : (a b n : ℕ) → a ≤ n → b ≤ n - a → a + b ≤ n
sums a b n h k = omega arith

ahead : (s k : ℕ) → (s + k) - s ≡ k
ahead s k = omega arith

-- A line more ------------------------------------------------------------------

-- the part of it that lies on the page, and where it goes
module _ (g : Page) (t out : List ℕ) where
  abbrev pub at : ℕ
  at = min (length out) (g.length - g.from)

  abbrev pub start : ℕ
  start = min (length t) (g.from - g.length)

  abbrev pub size : ℕ
  size = min (length t - start) (length out - at)

  abbrev pub part : List ℕ
  part = take size (drop start t)

  pub at_within : at ≤ length out
  at_within = omega arith

  pub start_within : start ≤ length t
  start_within = omega arith

  size_within : size ≤ length out - at
  size_within = min-le_right (length t - start) (length out - at)

  pub end_within : start + size ≤ length t
  end_within = sums start size (length t) start_within (min-le_left (length t - start) (length out - at))

  pub part_within : at + length part ≤ length out
  part_within =
      let k : length part ≤ size = rw (length-take size (drop start t)) (min-le_left size (length (drop start t))) in
      sums at (length part) (length out) at_within (le_trans k size_within)

  part_is : part ≡ take (length out - at) (drop (g.from - g.length) t)
  part_is =
      ap (λ (k : ℕ). take (min k (length out - at)) (drop start t)) (sym (length-drop start t))
      ∙ take_least (length out - at) (drop start t)
      ∙ ap (take (length out - at)) (drop_least (g.from - g.length) t)

  pub put_grows : {out' : List ℕ} → out' ≡ put out at part → Grows g t out out'
  unfolding put
  put_grows e text lent h =
      let i = g.from in
      let kept = paged_kept h in
      let far = h.counted in
      let end : page_end i text lent ≡ at =
      page_end_is i text lent
      ∙ ap (λ (k : ℕ). min k (length text - i)) (sym kept)
      ∙ ap (λ (k : ℕ). min (length out) (k - i)) (sym far) in
      let same : page_part i text lent t ≡ part =
      ap (λ (k : ℕ). take (length lent - k) (drop (i - length text) t)) end
      ∙ ap (λ (k : ℕ). take (k - at) (drop (i - length text) t)) (sym kept)
      ∙ ap (λ (k : ℕ). take (length out - at) (drop (i - k) t)) (sym far)
      ∙ sym part_is in
      record {
        counted = ap (λ (k : ℕ). k + length t) far ∙ sym (length-append text t);
        shown = e
            ∙ ap (λ (o : List ℕ). put o at part) h.shown
            ∙ ap (λ (k : ℕ). put (paged i text lent) k part) (sym end)
            ∙ ap (put (paged i text lent) (page_end i text lent)) (sym same)
            ∙ sym (paged_more i text lent t);
      }

  -- as the code computes it: a is where it goes, and it has k bytes from s on
  module _ {a s k : ℕ} (x : a ≡ at) (y : s ≡ start) (z : k ≡ min (length t - s) (length out - a)) where
    k_is : k ≡ size
    k_is = z ∙ ap (λ (j : ℕ). min (length t - j) (length out - a)) y ∙ ap (λ (j : ℕ). min (length t - start) (length out - j)) x

    computed : take ((s + k) - s) (drop s t) ≡ part
    computed =
        ap (λ (j : ℕ). take j (drop s t)) (ahead s k ∙ k_is) ∙ ap (λ (j : ℕ). take size (drop j t)) y

    pub computed_end : s + k ≤ length t
    computed_end = subst (λ (j : ℕ). j + k ≤ length t) (sym y) (subst (λ (j : ℕ). start + j ≤ length t) (sym k_is) end_within)

    pub computed_within : a + length (take ((s + k) - s) (drop s t)) ≤ length out
    computed_within = rw computed (subst (λ (j : ℕ). j + length part ≤ length out) (sym x) part_within)

    pub computed_grows : {out' : List ℕ} → out' ≡ put out a (take ((s + k) - s) (drop s t)) → Grows g t out out'
    computed_grows e = put_grows (e ∙ ap (put out a) computed ∙ ap (λ (j : ℕ). put out j part) x)

-- What is answered -------------------------------------------------------------

abbrev answer : ℕ → ℕ → ℕ → ℕ → Traced
answer number turns all n = record { number = number; turns = turns; length = all; count = n }

-- a text that was placed in the front of a line
pub placed_line : {t out out' : List ℕ} {r : ℕ} → Placed t out 0 r out' → r ≤ length out → take r out' ≡ t
placed_line {t} {out} {r = r} p h =
    let q : 0 + length t ≤ length out = omega (arith, p.end) in
    rw (p.list, sets-eq t out 0 q) (take_at t _ r (omega (arith, p.end)))

-- by the last page: its bytes are all, and those of them that it shows
pub page_answers : {text lent out : List ℕ} {g : Page} {i : ℕ} → Paged text lent g out → g.from ≡ i → (number turns n : ℕ)
    → n ≡ min (length out) (g.length - g.from)
    → Answered number turns text i lent (record { number = number; turns = turns; length = g.length; count = n }) out
page_answers {text} {lent} {out} {g} {i} h b number turns n e =
    let k : n ≡ length (page i (length lent) text) =
    e
    ∙ ap (λ (j : ℕ). min j (g.length - g.from)) (paged_kept h)
    ∙ ap (λ (j : ℕ). min (length lent) (j - g.from)) h.counted
    ∙ sym (page_end_is g.from text lent)
    ∙ ap (λ (j : ℕ). length (page j (length lent) text)) b in
    record {
      answers = ap (λ (j : ℕ). answer number turns j n) h.counted ∙ ap (answer number turns (length text)) k;
      shows = h.shown ∙ ap (λ (j : ℕ). paged j text lent) b;
    }
