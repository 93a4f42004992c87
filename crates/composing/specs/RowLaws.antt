-- Rows of types written from their end: the loop over a row, and the loop over the structs.
use Rattle.std.specs.Prelude.{ℕ, zero, suc, ◌+◌, ◌-◌, ◌*◌, ◌<◌, ◌≤◌, ◌≡◌, refl, List, ◌∷◌, ◌++◌, length, get_or, set, drop}
use Rattle.std.proofs.Common.{arith, add-one, sub-one, sym, ap, ◌∙◌, append_assoc, length-set}
use Rattle.std.proofs.Math.Seq.{slice, slice_empty, slice-cons}
use Rattle.compose.specs.Header.{row_of, header, Rows}
use Rattle.compose.proofs.Laws.HeaderLaws.{row_is, rest, none_left, parts_on, parts_count}
use Rattle.composing.specs.PenLaws.{drop_front}
use Rattle.composing.specs.Sizes.{front_most}

-- A row ----------------------------------------------------------------------------------------------

-- of a row up to b, in front of a place: the bytes from i on stand from p on
pub record RowReached (out₀ types out : List ℕ) (place b p i : ℕ) : Type 0 where
  pub inner : i ≤ b
  pub bytes : drop p out ≡ slice i b types ++ drop place out₀
  pub room : p + b ≡ place + i
  pub same : length out ≡ length out₀

pub row_start : (out types : List ℕ) (place b : ℕ) → RowReached out types out place b place b
row_start out types place b = record { inner = omega arith; bytes = ap (λ l. l ++ drop place out) (sym (slice_empty b types)); room = omega arith; same = refl }

module _ (out₀ types out : List ℕ) (place b p : ℕ) where
  on : (j : ℕ) → RowReached out₀ types out place b p (suc j) → b ≤ length types → 0 < p → p ≤ length out
      → RowReached out₀ types (set out (p - 1) (get_or types j 0)) place b (p - 1) j
  on j r l m n =
      record {
        inner = omega (arith, r.inner);
        bytes = drop_front out p (get_or types j 0) m n
            ∙ ap (λ k. get_or types j 0 ∷ k) r.bytes
            ∙ ap (λ k. k ++ drop place out₀) (sym (slice-cons j b types 0 (omega (arith, r.inner)) l));
        room = omega (arith, r.room);
        same = length-set out (p - 1) (get_or types j 0) ∙ r.same;
      }

  pub row_on : (i : ℕ) → RowReached out₀ types out place b p i → 0 < i → b ≤ length types → 0 < p → p ≤ length out
      → RowReached out₀ types (set out (p - 1) (get_or types (i - 1) 0)) place b (p - 1) (i - 1)
  row_on zero r k l m n = absurd (omega arith)
  row_on (suc j) r k l m n = rw (sub-one (suc j)) (on j r l m n)

  -- down to where it begins
  pub row_left : (i a : ℕ) → i ≡ a → RowReached out₀ types out place b p i → RowReached out₀ types out place b p a
  row_left i a e r = rw e at r

  -- its count in front
  pub row_end : (a : ℕ) → RowReached out₀ types out place b p a → b ≤ length types → 0 < p → p ≤ length out
      → drop (p - 1) (set out (p - 1) (b - a)) ≡ row_of (slice a b types) ++ drop place out₀
  row_end a r l m n =
      drop_front out p (b - a) m n ∙ ap (λ k. (b - a) ∷ k) r.bytes ∙ ap (λ k. k ++ drop place out₀) (sym (row_is a b types l))

-- The structs -----------------------------------------------------------------------------------------

-- the rows from k on stand from p on
pub record RowsReached (out₀ offsets types out : List ℕ) (place p k : ℕ) : Type 0 where
  pub inner : k < length offsets
  pub bytes : drop p out ≡ rest offsets types k ++ drop place out₀
  pub low : p ≤ place
  pub room : place + 9 * k + 9 ≤ p + 9 * length offsets
  pub same : length out ≡ length out₀

pub rows_start : (offsets types out : List ℕ) (place : ℕ) → 0 < length offsets → RowsReached out offsets types out place place (length offsets - 1)
rows_start offsets types out place l =
    record {
      inner = omega arith;
      bytes = ap (λ k. k ++ drop place out) (sym (none_left offsets types (length offsets - 1) (omega arith)));
      low = omega arith;
      room = omega arith;
      same = refl;
    }

module _ (out₀ offsets types out : List ℕ) (place p : ℕ) where
  before : (out₁ : List ℕ) (q j : ℕ) → RowsReached out₀ offsets types out place p (suc j) → Rows offsets types
      → drop q out₁ ≡ row_of (slice (get_or offsets j 0) (get_or offsets (suc j) 0) types) ++ drop p out
      → q + get_or offsets (suc j) 0 + 1 ≡ p + get_or offsets j 0 → length out₁ ≡ length out → RowsReached out₀ offsets types out₁ place q j
  before out₁ q j r rows e f s =
      let inside : j + 1 < length offsets = omega (arith, r.inner) in
      let up : get_or offsets j 0 ≤ get_or offsets (suc j) 0 = rw (add-one j) at (rows.up j inside) in
      let narrow : get_or offsets (suc j) 0 ≤ get_or offsets j 0 + 8 = rw (add-one j) at (rows.narrow j inside) in
      let row = row_of (slice (get_or offsets j 0) (get_or offsets (suc j) 0) types) in
      let next : rest offsets types j ≡ row ++ rest offsets types (suc j) = rw (add-one j) at (parts_on offsets types j inside) in
      record {
        inner = omega (arith, r.inner);
        bytes = e ∙ ap (λ l. row ++ l) r.bytes ∙ sym (append_assoc row (rest offsets types (suc j)) (drop place out₀))
            ∙ ap (λ l. l ++ drop place out₀) (sym next);
        low = omega (arith, r.low);
        room = omega (arith, r.room);
        same = s ∙ r.same;
      }

  -- a struct's row is written
  pub rows_on : (out₁ : List ℕ) (q k : ℕ) → RowsReached out₀ offsets types out place p k → 0 < k → Rows offsets types
      → drop q out₁ ≡ row_of (slice (get_or offsets (k - 1) 0) (get_or offsets k 0) types) ++ drop p out
      → q + get_or offsets k 0 + 1 ≡ p + get_or offsets (k - 1) 0 → length out₁ ≡ length out → RowsReached out₀ offsets types out₁ place q (k - 1)
  rows_on out₁ q zero r l rows e f s = absurd (omega arith)
  rows_on out₁ q (suc j) r l rows e f s = rw sub-one (before out₁ q j r rows (rw sub-one at e) (rw sub-one at f) s)

  -- what a row asks: its offsets, room in front
  pub row_fits : (k : ℕ) → RowsReached out₀ offsets types out place p k → 0 < k → Rows offsets types → front_most ≤ place → place ≤ length out₀
      → (get_or offsets (k - 1) 0 ≤ get_or offsets k 0) × (get_or offsets k 0 ≤ get_or offsets (k - 1) 0 + 8) × (get_or offsets k 0 ≤ length types)
      × (get_or offsets k 0 + 1 ≤ p + get_or offsets (k - 1) 0) × (p ≤ length out)
  row_fits zero r l rows m n = absurd (omega arith)
  row_fits (suc j) r l rows m n =
      let inside : j + 1 < length offsets = omega (arith, r.inner) in
      let up : get_or offsets j 0 ≤ get_or offsets (suc j) 0 = rw (add-one j) at (rows.up j inside) in
      let narrow : get_or offsets (suc j) 0 ≤ get_or offsets j 0 + 8 = rw (add-one j) at (rows.narrow j inside) in
      let within : get_or offsets (suc j) 0 ≤ length types = rw (add-one j) at (rows.inside j inside) in
      let few : length offsets ≤ 17 = rows.few in
      rw sub-one (up, narrow, within, omega (arith, r.room, few, m), omega (arith, r.low, r.same, n))

  -- the count of structs in front
  pub rows_end : (k : ℕ) → RowsReached out₀ offsets types out place p k → k ≡ 0 → 0 < p → p ≤ length out
      → drop (p - 1) (set out (p - 1) (length offsets - 1)) ≡ header offsets types ++ drop place out₀
  rows_end k r z m n =
      let b : drop p out ≡ rest offsets types 0 ++ drop place out₀ = rw z at r.bytes in
      drop_front out p (length offsets - 1) m n
      ∙ ap (λ l. (length offsets - 1) ∷ l) b
      ∙ ap (λ c. c ∷ (rest offsets types 0 ++ drop place out₀)) (sym (parts_count offsets types))
