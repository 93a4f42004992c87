-- A struct's own rows stay behind the others as steps and structs are read; a search from the last row back finds a name where all rows have it.
use Rattle.std.specs.Prelude.{ℕ, suc, ◌+◌, ◌-◌, ◌*◌, ◌<◌, ◌≤◌, ◌≡◌, refl, Bool, true, false, ◌||◌, length}
use Rattle.std.proofs.Common.{arith, zero-add, sym, subst, ◌∙◌}
use Rattle.std.proofs.Math.Path.{ap}
use mathlib.Core.List.{List, [], ◌∷◌, ◌++◌}
use borrow.Author.Tests.{eq-eqb, ne_eqb}
use Rattle.program.specs.Counts.{All}
use Rattle.directory.specs.declared.Row.{Row}
use Rattle.directory.specs.Directory.{is_row, found, there}
use Rattle.directory.specs.Rows.{row_places, put_row, row_at, rows_from}
use Rattle.directory.proofs.RowsLaws.{rows_none, rows_last, rows_added}
use Rattle.directory.proofs.FindLaws.{find_none, find_past, there_none, there_last}
use Rattle.judge.specs.declared.Done.{Done}
use Rattle.read_program.specs.declared.totals.Totals.{Totals}
use Rattle.read_program.specs.Total.{plus}
use Rattle.read_program.specs.Own.{Grouped, Led, Back}

-- one more at the end
all_last : (C : Row → Type 0) (rs : List Row) (r : Row) → All C rs → C r → All C (rs ++ r ∷ [])
all_last C [] r h c = (c, tt)
all_last C (x ∷ rs) r h c = (h.0, all_last C rs r h.1 c)

-- a step more has one row more
pub plus_steps : (t : Totals) (d : Done) (new : Bool) → (plus t d new).steps ≡ suc t.steps
unfolding plus
plus_steps t d new = refl

module _ (k : ℕ) where
  led_none : Led k []
  led_none = record { low = tt; grouped = tt }

  -- a step of its own
  grouped_last : (rs : List Row) (r : Row) → Grouped k rs → r.structure ≡ k → Grouped k (rs ++ r ∷ [])
  grouped_last [] r g e = (λ i. tt, tt)
  grouped_last (x ∷ rs) r g e = (λ i. all_last (λ (q : Row). q.structure ≡ k) rs r (g.0 i) e, grouped_last rs r g.1 e)

  led_more : (rs : List Row) (r : Row) → Led k rs → r.structure ≡ k → Led k (rs ++ r ∷ [])
  led_more rs r h e = record {
    low = all_last (λ (q : Row). q.structure ≤ k) rs r h.low (omega arith);
    grouped = grouped_last rs r h.grouped e;
  }

  pub led_noted : (l : List ℕ) (n : ℕ) (r : Row) → row_places * suc n ≤ length l → Led k (rows_from l 0 n) → r.structure ≡ k
      → Led k (rows_from (put_row l n r) 0 (suc n))
  led_noted l n r room h e = rw (rows_added l n r room) (led_more (rows_from l 0 n) r h e)

  pub led_zero : (l : List ℕ) (n : ℕ) → n ≡ 0 → Led k (rows_from l 0 n)
  led_zero l n e = rw (rows_none l 0 n e) led_none

  -- the next struct, which has none
  next_low : (rs : List Row) → All (λ (r : Row). r.structure ≤ k) rs → All (λ (r : Row). r.structure ≤ k + 1) rs
  next_low [] h = tt
  next_low (x ∷ rs) h = (let a = h.0 in omega arith, next_low rs h.1)

  next_grouped : (rs : List Row) → All (λ (r : Row). r.structure ≤ k) rs → Grouped (k + 1) rs
  next_grouped [] h = tt
  next_grouped (x ∷ rs) h = (λ e. let a = h.0 in absurd (omega arith), next_grouped rs h.1)

  pub led_next : (rs : List Row) → Led k rs → Led (k + 1) rs
  led_next rs h = record { low = next_low rs h.low; grouped = next_grouped rs h.low }

  -- The search -------------------------------------------------------------------------

  grouped_front : (rs : List Row) (r : Row) → Grouped k (rs ++ r ∷ []) → Grouped k rs
  grouped_front [] r g = tt
  grouped_front (x ∷ rs) r g = (λ e. front rs (g.0 e), grouped_front rs r g.1)
    where
      front : (qs : List Row) → All (λ (q : Row). q.structure ≡ k) (qs ++ r ∷ []) → All (λ (q : Row). q.structure ≡ k) qs
      front [] h = tt
      front (q ∷ qs) h = (h.0, front qs h.1)

  all_of_last : (rs : List Row) (r : Row) → All (λ (q : Row). q.structure ≡ k) (rs ++ r ∷ []) → r.structure ≡ k
  all_of_last [] r h = h.0
  all_of_last (x ∷ rs) r h = all_of_last rs r h.1

  module _ (m : ℕ) where
    other_row : (r : Row) → (r.structure ≡ k → ⊥) → is_row k m r ≡ false
    unfolding is_row
    other_row r e = rw (is_row, ne_eqb r.structure k e)

    other_name : (r : Row) → r.structure ≡ k → (r.name ≡ m → ⊥) → is_row k m r ≡ false
    unfolding is_row
    other_name r e f = rw (is_row, eq-eqb r.structure k e, ne_eqb r.name m f)

    its_row : (r : Row) → r.structure ≡ k → r.name ≡ m → is_row k m r ≡ true
    unfolding is_row
    its_row r e f = rw (is_row, eq-eqb r.structure k e, eq-eqb r.name m f)

    -- where the last row is of another struct, no row is of k
    none_there : (rs : List Row) (r : Row) → Grouped k (rs ++ r ∷ []) → (r.structure ≡ k → ⊥) → there (rs ++ r ∷ []) k m ≡ false
    unfolding there
    none_there [] r g e = ap found (find_past r [] k m e ∙ find_none k m)
    none_there (x ∷ rs) r g e =
        ap found (find_past x (rs ++ r ∷ []) k m λ i. e (all_of_last rs r (g.0 i))) ∙ none_there rs r g.1 e

    module _ (l : List ℕ) (n : ℕ) where
      pub back_all : Led k (rows_from l 0 n) → Back l n k m n
      back_all h = record { within = omega arith; asks = refl; grouped = h.grouped }

      module _ (i : ℕ) (b : Back l n k m i) where
        pub back_end : i ≡ 0 → there (rows_from l 0 n) k m ≡ false
        back_end e = b.asks ∙ ap (λ (x : List Row). there x k m) (rows_none l 0 i e) ∙ there_none k m

        module _ (some : 0 < i) (r : Row) (is : r ≡ row_at l (i - 1)) where
          last : rows_from l 0 i ≡ rows_from l 0 (i - 1) ++ r ∷ []
          last =
              let e : suc (i - 1) ≡ i = omega arith in
              ap (rows_from l 0) (sym e) ∙ rows_last l 0 (i - 1) ∙ rw (zero-add, is) refl

          grouped_last' : Grouped k (rows_from l 0 (i - 1) ++ r ∷ [])
          grouped_last' = subst (Grouped k) last b.grouped

          asks_last : there (rows_from l 0 n) k m ≡ there (rows_from l 0 (i - 1) ++ r ∷ []) k m
          asks_last = b.asks ∙ ap (λ (x : List Row). there x k m) last

          asks_row : {t : Bool} → is_row k m r ≡ t → there (rows_from l 0 n) k m ≡ (t || there (rows_from l 0 (i - 1)) k m)
          asks_row e = asks_last ∙ there_last (rows_from l 0 (i - 1)) r k m ∙ ap (λ (t : Bool). t || there (rows_from l 0 (i - 1)) k m) e

          pub back_other : (r.structure ≡ k → ⊥) → there (rows_from l 0 n) k m ≡ false
          back_other d = asks_last ∙ none_there (rows_from l 0 (i - 1)) r grouped_last' d

          module _ (own : r.structure ≡ k) where
            pub back_found : r.name ≡ m → there (rows_from l 0 n) k m ≡ true
            back_found e = asks_row (its_row r own e)

            pub back_on : (r.name ≡ m → ⊥) → Back l n k m (i - 1)
            back_on d = record {
              within = let w = b.within in omega arith;
              asks = asks_row (other_name r own d);
              grouped = grouped_front (rows_from l 0 (i - 1)) r grouped_last';
            }
