-- The numbers that are noted off the step directory locate the steps of a program in its list (01, 'Table and turns').
use Rattle.std.specs.Prelude.{ℕ, zero, suc, ◌+◌, ◌-◌, ◌*◌, ◌<◌, ◌≤◌, ◌≡◌, refl, Bool, true, false, length, get_or, set, eqb}
use Rattle.std.proofs.Common.{arith, add-one, sub-one, ◌∙◌, eqb-true}
use Rattle.std.proofs.Math.Option.{Option, none, some}
use mathlib.Core.List.{List, [], ◌∷◌}
use Rattle.std.proofs.Math.ListN.{length-set}
use Rattle.std.proofs.Math.Seq.{get_or-set_same, get_or-set_other}
use Rattle.std.proofs.lemmas.Bool.{eqb-false}
use Rattle.types.specs.Limits.{max_structs, step_names}
use Rattle.program.specs.Tree.{Stmts, Program}
use Rattle.program.specs.Counts.{All}
use Rattle.commands.specs.Context.{step_of}
use Rattle.directory.specs.declared.Row.{Row}
use Rattle.directory.specs.Directory.{find_row}
use Rattle.directory.specs.Rows.{row_at, rows_from}
use Rattle.directory.proofs.RowsLaws.{rows_more}
use Rattle.directory.specs.Held.{Marks}
use Rattle.directory.proofs.DirectoryLaws.{RowInRange}
use Rattle.directory.proofs.FindLaws.{find_here, find_past, find_other, find_none}
use Rattle.memory.specs.Plan.{span_of, from, to, Spans}
use Rattle.compile.specs.Spans.{span_places, paired, cleared, noted, spans_of}

-- Pairs ----------------------------------------------------------------------------

module _ (i a e : ℕ) (l : List ℕ) where
  pub paired_length : length (paired i a e l) ≡ length l
  unfolding paired
  paired_length = simp length-set

  paired_other : (x : ℕ) → (x ≡ i → ⊥) → (x ≡ suc i → ⊥) → get_or (paired i a e l) x 0 ≡ get_or l x 0
  unfolding paired
  paired_other x h k = get_or-set_other (set l i a) (suc i) x e 0 k ∙ get_or-set_other l i x a 0 h

  module _ (h : suc i < length l) where
    paired_first : get_or (paired i a e l) i 0 ≡ a
    unfolding paired
    paired_first = get_or-set_other (set l i a) (suc i) i e 0 (λ q. omega arith) ∙ get_or-set_same l i a 0 (omega arith)

    paired_second : get_or (paired i a e l) (suc i) 0 ≡ e
    unfolding paired
    paired_second = get_or-set_same (set l i a) (suc i) e 0 (rw (length-set l i a) h)

-- As many numbers as before --------------------------------------------------------

pub cleared_length : (n i : ℕ) (l : List ℕ) → length (cleared n i l) ≡ length l
unfolding cleared
cleared_length zero i l = refl
cleared_length (suc n) i l = cleared_length n (i + 2) (paired i 1 0 l) ∙ paired_length i 1 0 l

-- one number and the next
pub paired_is : (i a e : ℕ) (l r q : List ℕ) → r ≡ set l i a → q ≡ set r (i + 1) e → q ≡ paired i a e l
unfolding paired
paired_is i a e l r q f g = g ∙ rw (f, add-one)

-- the pair at i is cleared before those behind it
pub cleared_none : (n i : ℕ) (l : List ℕ) → n ≡ 0 → cleared n i l ≡ l
unfolding cleared
cleared_none n i l e = rw e

pub cleared_one : (n i : ℕ) (l : List ℕ) → (n ≡ 0 → ⊥) → cleared n i l ≡ cleared (n - 1) (i + 2) (paired i 1 0 l)
unfolding cleared
cleared_one zero i l h = absurd (h refl)
cleared_one (suc n) i l h = rw sub-one

cleared_below : (n i : ℕ) (l : List ℕ) (x : ℕ) → x < i → get_or (cleared n i l) x 0 ≡ get_or l x 0
unfolding cleared
cleared_below zero i l x h = refl
cleared_below (suc n) i l x h =
    cleared_below n (i + 2) (paired i 1 0 l) x (omega arith) ∙ paired_other i 1 0 l x (λ e. omega arith) (λ e. omega arith)

cleared_is : (n i : ℕ) (l : List ℕ) (x : ℕ) → x < n → i + 2 * n ≤ length l
    → (get_or (cleared n i l) (i + 2 * x) 0 ≡ 1) × (get_or (cleared n i l) (suc (i + 2 * x)) 0 ≡ 0)
unfolding cleared
cleared_is zero i l x h k = absurd (omega arith)
cleared_is (suc n) i l zero h k =
    let z : i + 2 * 0 ≡ i = omega arith in
    let r = paired i 1 0 l in
    rw z (
      cleared_below n (i + 2) r i (omega arith) ∙ paired_first i 1 0 l (omega arith),
      cleared_below n (i + 2) r (suc i) (omega arith) ∙ paired_second i 1 0 l (omega arith),
    )
cleared_is (suc n) i l (suc x) h k =
    let z : i + 2 * suc x ≡ i + 2 + 2 * x = omega arith in
    rw z (cleared_is n (i + 2) (paired i 1 0 l) x (omega arith) (rw (paired_length i 1 0 l) (omega arith)))

-- Rows ---------------------------------------------------------------------------------

-- as many numbers as before
pub noted_length : (rs : List Row) (l : List ℕ) → length (noted rs l) ≡ length l
unfolding noted
noted_length [] l = refl
noted_length (r ∷ rs) l = paired_length (span_of r.structure r.name) r.start _ _ ∙ noted_length rs l

-- no row is noted; a row is noted before those behind it
pub noted_none : (l m : List ℕ) (i n : ℕ) → n ≡ 0 → noted (rows_from l i n) m ≡ m
unfolding noted rows_from
noted_none l m i n e = rw e

pub noted_all : (l m q : List ℕ) (i n : ℕ) → i ≡ 0 → q ≡ noted (rows_from l i (n - i)) m → q ≡ noted (rows_from l 0 n) m
noted_all l m q i n e h = let z : n - i ≡ n = omega arith in h ∙ rw (z, e)

pub noted_more : (l m q spans : List ℕ) (i n : ℕ) (r : Row) → r ≡ row_at l (i - 1) → (i ≡ 0 → ⊥) → i ≤ n → spans ≡ noted (rows_from l i (n - i)) m
    → q ≡ paired (span_of r.structure r.name) r.start (r.start + r.size) spans → q ≡ noted (rows_from l (i - 1) (n - (i - 1))) m
unfolding noted
noted_more l m q spans i n r e h k s f =
    let a : i - 1 + 1 ≡ i = omega arith in
    let b : n - (i - 1) - 1 ≡ n - i = omega arith in
    let w : rows_from l (i - 1) (n - (i - 1)) ≡ r ∷ rows_from l i (n - i) = rows_more l (i - 1) (n - (i - 1)) (λ z. omega arith) ∙ rw (a, b, e) refl in
    f ∙ rw (w, s) refl

-- its struct and name as places
pub row_paired : (r : Row) (l q : List ℕ) (k n : ℕ) → k ≡ r.structure → n ≡ r.name
    → q ≡ paired (span_of k n) r.start (r.start + r.size) l → q ≡ paired (span_of r.structure r.name) r.start (r.start + r.size) l
row_paired r l q k n g h i = i ∙ rw (g, h)

module _ (k n : ℕ) (named : n < step_names) where
  -- of a step that has a row the pair says where; of any other it is as before
  abbrev Told : List ℕ → List ℕ → Option Row → Type 0
  Told l q none = (from q k n ≡ from l k n) × (to q k n ≡ to l k n)
  Told l q (some r) = (from q k n ≡ r.start) × (to q k n ≡ r.start + r.size)

  told_same : (l q w : List ℕ) (o : Option Row) → from w k n ≡ from q k n → to w k n ≡ to q k n → Told l q o → Told l w o
  told_same l q w none e f h = (e ∙ h.0, f ∙ h.1)
  told_same l q w (some r) e f h = (e ∙ h.0, f ∙ h.1)

  module _ (r : Row) (rs : List Row) (l : List ℕ) (ranged : RowInRange r) (long : length l ≡ span_places) where
    abbrev s : ℕ
    s = span_of r.structure r.name

    abbrev e : ℕ
    e = r.start + r.size

    abbrev after : List ℕ
    after = paired s r.start e (noted rs l)

    -- its own pair is set
    row_here : r.structure ≡ k → r.name ≡ n → Told l after (find_row (r ∷ rs) k n)
    row_here i j =
        let h : suc s < length (noted rs l) = rw (noted_length rs l) (omega arith) in
        let x : get_or after (span_of k n) 0 ≡ r.start = rw (← i, ← j) (paired_first s r.start e (noted rs l) h) in
        let y : get_or after (suc (span_of k n)) 0 ≡ e = rw (← i, ← j) (paired_second s r.start e (noted rs l) h) in
        rw (find_here r rs k n i j) (x, y)

    -- those of other steps stay
    row_other : (span_of k n ≡ s → ⊥) → find_row (r ∷ rs) k n ≡ find_row rs k n → Told l (noted rs l) (find_row rs k n) → Told l after (find_row (r ∷ rs) k n)
    row_other d i h =
        rw i (told_same l (noted rs l) after (find_row rs k n) (paired_other s r.start e (noted rs l) (span_of k n) d (λ q. omega arith))
        (paired_other s r.start e (noted rs l) (suc (span_of k n)) (λ q. omega arith) (λ q. d (omega arith))) h)

    row_told : Told l (noted rs l) (find_row rs k n) → Told l after (find_row (r ∷ rs) k n)
    row_told h = go (eqb r.structure k) refl (eqb r.name n) refl
      where
        go : (a : Bool) → eqb r.structure k ≡ a → (b : Bool) → eqb r.name n ≡ b → Told l after (find_row (r ∷ rs) k n)
        go true i true j = row_here (eqb-true r.structure k i) (eqb-true r.name n j)
        go true i false j = let d = eqb-false r.name n j in row_other (λ q. d (omega (arith, eqb-true r.structure k i))) (find_other r rs k n d) h
        go false i b j = let d = eqb-false r.structure k i in row_other (λ q. d (omega arith)) (find_past r rs k n d) h

  noted_told : (rs : List Row) (l : List ℕ) → All RowInRange rs → length l ≡ span_places → Told l (noted rs l) (find_row rs k n)
  unfolding noted
  noted_told [] l h e = rw (find_none k n) (refl, refl)
  noted_told (r ∷ rs) l h e = row_told r rs l h.0 e (noted_told rs l h.1 e)

  -- the pair says where the step stands that the row marks
  spans_join : (list l q : List ℕ) (o : Option Row) (b : Option Stmts) → from l k n ≡ 1 → to l k n ≡ 0 → Told l q o → Marks list o b
      → Spans list (from q k n) (to q k n) b
  spans_join list l q none none x y t m = omega (arith, t.0, t.1)
  spans_join list l q none (some b) x y t m = absurd m
  spans_join list l q (some r) none x y t m = absurd m
  spans_join list l q (some r) (some b) x y t m =
      let z : r.start + r.size - r.start ≡ r.size = omega arith in
      rw (t.0, t.1) (omega arith, m.0, rw z m.1)

-- the steps of the structs are located
pub spans_located : (rs : List Row) (count : ℕ) (list l : List ℕ) (p : Program) → All RowInRange rs → length l ≡ span_places → count ≤ max_structs
    → ((k n : ℕ) → Marks list (find_row rs k n) (step_of p k n)) → (k n : ℕ) → k < count → n < step_names
    → Spans list (from (spans_of rs count l) k n) (to (spans_of rs count l) k n) (step_of p k n)
unfolding spans_of
spans_located rs count list l p ranged long few marks k n h g =
    let clear = cleared (step_names * count) 0 l in
    let z = cleared_is (step_names * count) 0 l (step_names * k + n) (omega arith) (omega arith) in
    let i : 0 + span_of k n ≡ span_of k n = omega arith in
    spans_join k n g list clear (noted rs clear) (find_row rs k n) (step_of p k n) (rw i at z.0) (rw i at z.1)
    (noted_told k n g rs clear ranged (cleared_length (step_names * count) 0 l ∙ long)) (marks k n)
