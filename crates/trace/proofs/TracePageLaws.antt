-- Pages of a text (docs/FORMAT.md, 'Traces'): those that follow each other are the text, and a page grows with its text. Number and turns are those of the
-- text's last line.
use Rattle.std.specs.Prelude.{ℕ, ◌+◌, ◌-◌, ◌<◌, ◌≤◌, min, ◌≡◌, refl, Bool, true, false, leb}
use Rattle.std.proofs.Common.{arith, ◌∙◌, drop_of_length-le, length-take-le, take_all, take-add}
use Rattle.std.proofs.Math.Path.{sym, ap}
use mathlib.Core.List.{List, [], ◌++◌, append-nil, append_assoc}
use Rattle.std.proofs.Math.ListN.{length, take, drop, length-append, length-take, length-drop}
use Rattle.std.proofs.Math.Seq.{take-length, take-nil, drop-nil, drop-drop, take-append-add, take-append_seam, drop-append-add}
use Rattle.std.proofs.lemmas.List.{take-append-le, drop-append-le}
use borrow.Author.Tests.{lt-ltb, le-ltb, leb-true, leb-false}
use Rattle.types.specs.Limits.{max_turns}
use Rattle.types.specs.Numbers.{many_turns}
use Rattle.types.specs.Stages.{on, asked}
use Rattle.program.specs.Tree.{Program}
use Rattle.table.specs.Table.{Record}
use Rattle.machine.specs.Machine.{Machine}
use Rattle.run.specs.Begin.{begin}
use Rattle.run.specs.Entry.{begun, not_begun, images}
use Rattle.run.specs.Run.{Outcome.stopped, run}
use Rattle.trace.specs.TraceText.{traces}
use Rattle.trace.specs.TracePage.{stop_number, stop_turns, begun_number, begun_turns, traced_number, traced_turns, page, paged}

-- Pages ------------------------------------------------------------------------

-- two that follow each other are one
pub pages_join : (i n k : ℕ) (text : List ℕ) → page i n text ++ page (i + n) k text ≡ page i (n + k) text
unfolding page
pages_join i n k text = ap (λ (x : List ℕ). take n (drop i text) ++ take k x) (sym (drop-drop n i text)) ∙ sym (take-add n k (drop i text))

-- a page of the text's length is all of it
pub page_whole : (text : List ℕ) → page 0 (length text) text ≡ text
unfolding page
page_whole text = take-length text

-- from the text's end on there is nothing
pub page_past : (i n : ℕ) (text : List ℕ) → length text ≤ i → page i n text ≡ []
unfolding page
page_past i n text h = ap (take n) (drop_of_length-le text h) ∙ take-nil n

-- Lists that follow each other ---------------------------------------------------

-- n elements of a and then of b
take_both : (n : ℕ) (a b : List ℕ) → take n (a ++ b) ≡ take n a ++ take (n - length (take n a)) b
take_both n a b = go (leb n (length a)) refl
  where
    go : (t : Bool) → leb n (length a) ≡ t → take n (a ++ b) ≡ take n a ++ take (n - length (take n a)) b
    go true t =
        let h = leb-true n (length a) t in
        let z : n - length (take n a) ≡ 0 = omega (arith, length-take-le n a h) in
        take-append-le n a b h ∙ sym (ap (λ (k : ℕ). take n a ++ take k b) z ∙ append-nil (take n a))
    go false t =
        let h = leb-false n (length a) t in
        let e : take n a ≡ a = take_all n a (omega arith) in
        let k : n ≡ length a + (n - length a) = omega arith in
        ap (λ (j : ℕ). take j (a ++ b)) k ∙ take-append-add a b (n - length a) ∙ sym (ap (λ (x : List ℕ). x ++ take (n - length x) b) e)

-- from i on
drop_both : (i : ℕ) (a b : List ℕ) → drop i (a ++ b) ≡ drop i a ++ drop (i - length a) b
drop_both i a b = go (leb i (length a)) refl
  where
    go : (t : Bool) → leb i (length a) ≡ t → drop i (a ++ b) ≡ drop i a ++ drop (i - length a) b
    go true t =
        let h = leb-true i (length a) t in
        let z : i - length a ≡ 0 = omega arith in
        drop-append-le i a b h ∙ sym (ap (λ (k : ℕ). drop i a ++ drop k b) z)
    go false t =
        let h = leb-false i (length a) t in
        let k : i ≡ length a + (i - length a) = omega arith in
        ap (λ (j : ℕ). drop j (a ++ b)) k ∙ drop-append-add a b (i - length a)
        ∙ sym (ap (λ (x : List ℕ). x ++ drop (i - length a) b) (drop_of_length-le a {i = i} (omega arith)))

-- A text that grows ------------------------------------------------------------

-- a buffer before the first byte
pub paged_none : (i : ℕ) (out : List ℕ) → paged i [] out ≡ out
unfolding paged page
paged_none i out = rw (drop-nil, take-nil)

module _ (i : ℕ) (text out : List ℕ) where
  -- where the next byte of the page goes
  abbrev pub page_end : ℕ
  page_end = length (page i (length out) text)

  pub page_end_is : page_end ≡ min (length out) (length text - i)
  unfolding page
  page_end_is = length-take (length out) (drop i text) ∙ ap (min (length out)) (length-drop i text)

  pub page_end_within : page_end ≤ length out
  page_end_within = omega (arith, page_end_is)

  -- the bytes of a text t behind it that lie on the page
  abbrev pub page_part : List ℕ → List ℕ
  page_part t = take (length out - page_end) (drop (i - length text) t)

  page_more : (t : List ℕ) → page i (length out) (text ++ t) ≡ page i (length out) text ++ page_part t
  unfolding page
  page_more t = ap (take (length out)) (drop_both i text t) ∙ take_both (length out) (drop i text) (drop (i - length text) t)

  -- are written there
  pub paged_more : (t : List ℕ)
      → paged i (text ++ t) out
      ≡ take page_end (paged i text out) ++ (page_part t ++ drop (page_end + length (page_part t)) (paged i text out))
  unfolding paged
  paged_more t =
      let g = page i (length out) text in
      let p = page_part t in
      let front : take (length g) (g ++ drop (length g) out) ≡ g = take-append_seam g (drop (length g) out) in
      let back : drop (length g + length p) (g ++ drop (length g) out) ≡ drop (length g + length p) out =
      drop-append-add g (drop (length g) out) (length p) ∙ drop-drop (length p) (length g) out in
      ap (λ (x : List ℕ). x ++ drop (length x) out) (page_more t)
      ∙ ap (λ (k : ℕ). (g ++ p) ++ drop k out) (length-append g p)
      ∙ append_assoc g p (drop (length g + length p) out)
      ∙ sym (ap (λ (x : List ℕ). x ++ (p ++ drop (length g + length p) (g ++ drop (length g) out))) front
      ∙ ap (λ (x : List ℕ). g ++ (p ++ x)) back)

  -- a buffer stays as long as it is
  pub paged_length : length (paged i text out) ≡ length out
  unfolding paged page
  paged_length = length-append (take (length out) (drop i text)) (drop page_end out) ∙ omega (arith, length-drop page_end out, page_end_within)

-- Number and turns -------------------------------------------------------------

module _ (x y es : List ℕ) where
  -- what is refused before the number of turns is looked at
  pub refused_stop : {k : ℕ} → images x y ≡ not_begun k → (traced_number x y es ≡ k) × (traced_turns x y es ≡ 0)
  unfolding traced_number traced_turns traces begun_number begun_turns on asked
  refused_stop e = rw e (refl, refl)

  module _ {p : Program} {rs : List Record} (b : images x y ≡ begun p rs) where
    pub many_stop : max_turns < length es → (traced_number x y es ≡ many_turns) × (traced_turns x y es ≡ 0)
    unfolding traced_number traced_turns traces begun_number begun_turns on asked
    many_stop h = rw (b, lt-ltb max_turns (length es) h) (refl, refl)

    -- a run
    pub begun_run_stop : length es ≤ max_turns → {k t : ℕ} {z : Machine} → run p (begin p rs) es ≡ stopped k t z
        → (traced_number x y es ≡ k) × (traced_turns x y es ≡ t)
    unfolding traced_number traced_turns traces begun_number begun_turns on asked stop_number stop_turns
    begun_run_stop h q = rw (b, le-ltb max_turns (length es) h, q) (refl, refl)
