-- Rows that were written are read: each from its four numbers, and all in a row.
use Rattle.std.specs.Prelude.{ℕ, zero, suc, ◌+◌, ◌-◌, ◌*◌, ◌<◌, ◌≤◌, ◌≡◌, refl, List, [], ◌∷◌, ◌++◌, length, get_or, set, take, drop}
use Rattle.std.proofs.Common.{arith, zero-add, add-zero, add-suc, suc-add, add-one, sub-one, sym, ap, ◌∙◌, length-append, get_or-set_other, get_or-append-add, length-take-le}
use Rattle.std.proofs.Math.ListN.{get_or-append}
use Rattle.std.proofs.lemmas.List.Edits.{sets, sets-eq}
use Rattle.std.proofs.Math.Seq.{length-sets}
use Rattle.program.specs.Counts.{All}
use Rattle.directory.specs.declared.Row.{Row}
use Rattle.directory.specs.Directory.{row}
use Rattle.directory.specs.Rows.{row_places, put_row, put_rows, row_at, rows_from}

-- Numbers ------------------------------------------------------------------------------

-- a number that was written, and one before those that were
sets_at : (l : List ℕ) (i : ℕ) (vs : List ℕ) (j : ℕ) → j < length vs → i + length vs ≤ length l → get_or (sets l i vs) (i + j) 0 ≡ get_or vs j 0
sets_at l i vs j h k =
    let e : length (take i l) ≡ i = length-take-le i l (omega arith) in
    ap (λ (x : List ℕ). get_or x (i + j) 0) (sets-eq vs l i k)
    ∙ get_or-append (take i l ++ vs) (drop (i + length vs) l) 0 (i + j) (rw (length-append, e) (omega arith))
    ∙ ap (λ (x : ℕ). get_or (take i l ++ vs) (x + j) 0) (sym e)
    ∙ get_or-append-add (take i l) vs j 0

sets_before : (vs l : List ℕ) (i j : ℕ) → j < i → get_or (sets l i vs) j 0 ≡ get_or l j 0
sets_before [] l i j h = refl
sets_before (v ∷ vs) l i j h = sets_before vs (set l i v) (suc i) j (omega arith) ∙ get_or-set_other l i j v 0 (λ e. omega arith)

-- Rows ---------------------------------------------------------------------------------

-- equal numbers make equal rows
same_row : (a b c d a' b' c' d' : ℕ) → a ≡ a' → b ≡ b' → c ≡ c' → d ≡ d' → row a b c d ≡ row a' b' c' d'
same_row a b c d a' b' c' d' e f g h = rw (e, f, g, h)

-- a row's numbers
abbrev numbers : Row → List ℕ
numbers r = r.structure ∷ r.name ∷ r.start ∷ r.size ∷ []

-- four stores write a row
pub put_row_is : (l : List ℕ) (i : ℕ) (r : Row) (a b c d : List ℕ) → a ≡ set l (row_places * i) r.structure → b ≡ set a (row_places * i + 1) r.name
    → c ≡ set b (row_places * i + 2) r.start → d ≡ set c (row_places * i + 3) r.size → d ≡ put_row l i r
unfolding put_row
put_row_is l i r a b c d e f g h =
    let k = row_places * i in
    let x : k + 1 ≡ suc k = omega arith in
    let y : k + 2 ≡ suc (suc k) = omega arith in
    let z : k + 3 ≡ suc (suc (suc k)) = omega arith in
    h ∙ rw (g, f, e, x, y, z)

pub put_row_length : (l : List ℕ) (i : ℕ) (r : Row) → length (put_row l i r) ≡ length l
unfolding put_row
put_row_length l i r = length-sets l (row_places * i) (numbers r)

pub put_rows_length : (rs : List Row) (l : List ℕ) (i : ℕ) → length (put_rows l i rs) ≡ length l
unfolding put_rows
put_rows_length [] l i = refl
put_rows_length (r ∷ rs) l i = put_rows_length rs (put_row l i r) (suc i) ∙ put_row_length l i r

pub put_rows_append : (xs ys : List Row) (l : List ℕ) (i : ℕ) → put_rows l i (xs ++ ys) ≡ put_rows (put_rows l i xs) (i + length xs) ys
unfolding put_rows
put_rows_append [] ys l i = rw add-zero
put_rows_append (x ∷ xs) ys l i = rw (add-suc, ← suc-add) (put_rows_append xs ys (put_row l i x) (suc i))

-- a row that was written, and one before those that were
put_row_at : (l : List ℕ) (i : ℕ) (r : Row) → row_places * suc i ≤ length l → row_at (put_row l i r) i ≡ r
unfolding put_row row_at
put_row_at l i r h =
    let z : row_places * i + 0 ≡ row_places * i = omega arith in
    same_row _ _ _ _ _ _ _ _ (rw z at (at 0 (omega arith))) (at 1 (omega arith)) (at 2 (omega arith)) (at 3 (omega arith))
  where
    at : (j : ℕ) → j < row_places → get_or (sets l (row_places * i) (numbers r)) (row_places * i + j) 0 ≡ get_or (numbers r) j 0
    at j k = sets_at l (row_places * i) (numbers r) j k (omega arith)

put_row_before : (l : List ℕ) (i j : ℕ) (r : Row) → j < i → row_at (put_row l i r) j ≡ row_at l j
unfolding put_row row_at
put_row_before l i j r h =
    same_row _ _ _ _ _ _ _ _ (at (row_places * j) (omega arith)) (at (row_places * j + 1) (omega arith)) (at (row_places * j + 2) (omega arith))
    (at (row_places * j + 3) (omega arith))
  where
    at : (m : ℕ) → m < row_places * i → get_or (sets l (row_places * i) (numbers r)) m 0 ≡ get_or l m 0
    at m k = sets_before (numbers r) l (row_places * i) m k

put_rows_before : (rs : List Row) (l : List ℕ) (i j : ℕ) → j < i → row_at (put_rows l i rs) j ≡ row_at l j
unfolding put_rows
put_rows_before [] l i j h = refl
put_rows_before (r ∷ rs) l i j h = put_rows_before rs (put_row l i r) (suc i) j (omega arith) ∙ put_row_before l i j r h

-- the rows that were written
pub rows_put : (rs : List Row) (l : List ℕ) (i : ℕ) → row_places * (i + length rs) ≤ length l → rows_from (put_rows l i rs) i (length rs) ≡ rs
unfolding put_rows rows_from
rows_put [] l i h = refl
rows_put (r ∷ rs) l i h =
    let e = put_rows_before rs (put_row l i r) (suc i) i (omega arith) ∙ put_row_at l i r (omega arith) in
    rw (e, rows_put rs (put_row l i r) (suc i) (rw put_row_length (omega arith)))

-- none, and one before the others
pub rows_none : (l : List ℕ) (i n : ℕ) → n ≡ 0 → rows_from l i n ≡ []
unfolding rows_from
rows_none l i n e = rw e

pub rows_more : (l : List ℕ) (i n : ℕ) → (n ≡ 0 → ⊥) → rows_from l i n ≡ row_at l i ∷ rows_from l (i + 1) (n - 1)
unfolding rows_from
rows_more l i zero h = absurd (h refl)
rows_more l i (suc n) h = rw (add-one, sub-one)

-- the rows from i on
pub rows_next : (l : List ℕ) (i n : ℕ) (x : Row) → x ≡ row_at l i → i < n → rows_from l i (n - i) ≡ x ∷ rows_from l (i + 1) (n - (i + 1))
rows_next l i n x e h = let a : n - i - 1 ≡ n - (i + 1) = omega arith in rows_more l i (n - i) (λ z. omega arith) ∙ rw (a, e) refl

-- one more behind n
pub rows_last : (l : List ℕ) (i n : ℕ) → rows_from l i (suc n) ≡ rows_from l i n ++ row_at l (i + n) ∷ []
unfolding rows_from
rows_last l i zero = rw add-zero
rows_last l i (suc n) = rw (add-suc, ← suc-add) (ap (λ (x : List Row). row_at l i ∷ x) (rows_last l (suc i) n))

-- rows before the one that was written
rows_kept : (l : List ℕ) (i j n : ℕ) (r : Row) → j + n ≤ i → rows_from (put_row l i r) j n ≡ rows_from l j n
unfolding rows_from
rows_kept l i j zero r h = refl
rows_kept l i j (suc n) r h = rw (put_row_before l i j r (omega arith), rows_kept l i (suc j) n r (omega arith))

-- and one is written behind n
pub rows_added : (l : List ℕ) (n : ℕ) (r : Row) → row_places * suc n ≤ length l → rows_from (put_row l n r) 0 (suc n) ≡ rows_from l 0 n ++ r ∷ []
rows_added l n r h = rows_last (put_row l n r) 0 n ∙ rw (zero-add, rows_kept l n 0 n r (omega arith), put_row_at l n r h)

-- what all rows have, each has
rows_all : (C : Row → Type 0) (l : List ℕ) (i n : ℕ) → All C (rows_from l i n) → (j : ℕ) → j < n → C (row_at l (i + j))
unfolding rows_from
rows_all C l i zero h j k = absurd (omega arith)
rows_all C l i (suc n) h zero k = rw add-zero h.0
rows_all C l i (suc n) h (suc j) k = rw (add-suc, ← suc-add) (rows_all C l (suc i) n h.1 j (omega arith))

pub rows_each : (C : Row → Type 0) (l : List ℕ) (n : ℕ) → All C (rows_from l 0 n) → (j : ℕ) → j < n → C (row_at l j)
rows_each C l n h j k = rw zero-add at (rows_all C l 0 n h j k)
