-- Lines that are written one behind the other: those of a row by its commands, and those of rows.
use Rattle.std.specs.Prelude.{ℕ, suc, ◌+◌, ◌-◌, ◌≤◌, ◌<◌, ◌≡◌, refl, List, [], ◌∷◌, ◌++◌, length, get_or, take, drop}
use Rattle.std.proofs.Common.{arith, zero-add, add-suc, suc-add, add-zero, add-one, sym, ap, ◌∙◌, append_assoc, append-nil, length-drop, take-suc, length-take-le, take_all}
use Rattle.program.specs.Encoding.{flat}
use Rattle.commands.specs.Bounds.{total}
use Rattle.directory.specs.declared.Row.{Row}
use Rattle.directory.specs.Rows.{row_at, rows_from}
use Rattle.directory.specs.Held.{part}
use Rattle.directory.proofs.RowsLaws.{rows_next, rows_last}
use Rattle.directory.proofs.DirectoryLaws.{sizes}
use Rattle.text.specs.Listing.{Placed, line}
use Rattle.text.specs.ListingLaws.{placed_none, placed_as, placed_on}
use Rattle.step_lines.specs.RowLines.{word_lines, row_lines, rows_lines}

-- Commands of a row --------------------------------------------------------------------

word_lines_last : (k n i : ℕ) (ws : List ℕ) (w : ℕ) → word_lines k n i (ws ++ w ∷ []) ≡ word_lines k n i ws ++ line k n (i + length ws) w
unfolding word_lines
word_lines_last k n i [] w = rw (append-nil, add-zero)
word_lines_last k n i (v ∷ ws) w = rw (add-suc, ← suc-add, word_lines_last k n (suc i) ws w) (sym (append_assoc (line k n i v) _ _))

module _ (k n : ℕ) (ws : List ℕ) (out : List ℕ) (at : ℕ) where
  abbrev lines : ℕ → List ℕ
  lines i = word_lines k n 0 (take i ws)

  pub no_lines : Placed (lines 0) out at at out
  unfolding word_lines
  no_lines = placed_none out at

  -- one more
  pub more_lines : (i : ℕ) → i < length ws → {m r : ℕ} {out1 out2 : List ℕ} → Placed (lines i) out at m out1
      → Placed (line k n i (get_or ws i 0)) out1 m r out2 → Placed (lines (i + 1)) out at r out2
  more_lines i h p q =
      let e : take (i + 1) ws ≡ take i ws ++ get_or ws i 0 ∷ [] = rw (add-one) (take-suc ws i 0 h) in
      let f : length (take i ws) ≡ i = length-take-le i ws (omega arith) in
      placed_as (ap (word_lines k n 0) e ∙ word_lines_last k n 0 (take i ws) _ ∙ rw (f, zero-add)) (placed_on p q)

-- the part of the list that a row marks, as the code takes it
pub part_taken : (list : List ℕ) (r : Row) (start size : ℕ) → start ≡ r.start → size ≡ r.size → r.start + r.size ≤ length list
    → (take (start + size - start) (drop start list) ≡ part list r) × (length (take (start + size - start) (drop start list)) ≡ r.size)
part_taken list r start size a b h =
    let e : start + size - start ≡ size = omega arith in (
      rw (e, a, b),
      rw (e, a, b) (length-take-le r.size (drop r.start list) (omega (arith, length-drop r.start list))),
    )

-- all of a row
pub row_placed : (list : List ℕ) (r : Row) (ws : List ℕ) (i : ℕ) → ws ≡ part list r → length ws ≤ i
    → {out out' : List ℕ} {at m : ℕ} → Placed (lines r.structure r.name ws out at i) out at m out' → Placed (row_lines list r) out at m out'
unfolding row_lines
row_placed list r ws i e h p = placed_as (rw (← e, take_all)) p

-- Rows ---------------------------------------------------------------------------------

pub flat_append : (f : Row → List ℕ) (xs ys : List Row) → flat f (xs ++ ys) ≡ flat f xs ++ flat f ys
unfolding flat
flat_append f [] ys = refl
flat_append f (x ∷ xs) ys = rw (flat_append f xs ys) (sym (append_assoc (f x) _ _))

flat_last : (f : Row → List ℕ) (rs : List Row) (r : Row) → flat f (rs ++ r ∷ []) ≡ flat f rs ++ f r
unfolding flat
flat_last f rs r = flat_append f rs (r ∷ []) ∙ rw append-nil

module _ (list l out : List ℕ) (at : ℕ) where
  pub no_rows : Placed (rows_lines list (rows_from l 0 0)) out at at out
  unfolding rows_from flat
  no_rows = placed_none out at

  -- one more
  pub more_rows : (i : ℕ) {m r : ℕ} {out1 out2 : List ℕ} (x : Row) → x ≡ row_at l i → Placed (rows_lines list (rows_from l 0 i)) out at m out1
      → Placed (row_lines list x) out1 m r out2 → Placed (rows_lines list (rows_from l 0 (i + 1))) out at r out2
  more_rows i x e p q =
      let f : rows_from l 0 (i + 1) ≡ rows_from l 0 i ++ x ∷ [] = rw (add-one, e) (rows_last l 0 i ∙ rw zero-add) in
      placed_as (ap (rows_lines list) f ∙ flat_last (row_lines list) (rows_from l 0 i) x) (placed_on p q)

-- the room that the rows from i on take
pub room_next : (l : List ℕ) (i n : ℕ) (x : Row) → x ≡ row_at l i → i < n
    → sizes (rows_from l i (n - i)) ≡ x.size + sizes (rows_from l (i + 1) (n - (i + 1)))
unfolding total
room_next l i n x e h = ap sizes (rows_next l i n x e h)
