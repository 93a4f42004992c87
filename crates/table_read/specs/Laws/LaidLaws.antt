-- Laws of a table laid in memory (01, 'Table and turns'): every instance stands at its label, with its struct and its values.
use Prim.Native.Nat.{ℕ, zero, suc, ◌+◌, ◌*◌, ◌<◌, ◌≤◌}
use native.Mathlib.Omega.{arith}
use Rattle.std.proofs.Math.Nat.{add-zero}
use Rattle.std.proofs.Common.{add-suc, suc-add, ap, sym, ◌∙◌}
use Rattle.std.specs.Prelude.{◌≡◌, get_or}
use Rattle.std.proofs.Math.Path.{refl}
use Rattle.std.proofs.Math.Option.{none, some}
use mathlib.Core.List.{List, [], ◌∷◌, ◌++◌}
use Rattle.std.proofs.Math.ListN.{length, get_elem?}
use Rattle.std.proofs.Math.Seq.{length-sets}
use Rattle.types.specs.Limits.{max_params}
use Rattle.types.specs.Types.{Ty}
use Rattle.types.specs.Values.{Val}
use Rattle.table.specs.Table.{Record}
use Rattle.sound.proofs.Laws.ElemLaws.{none_some, some_is}
use Rattle.layout.specs.Layout.{head_size, head, struct_of, row_size, new_head}
use Rattle.memory.proofs.Laws.RowLaws.{sets_other, sets_at}
use Rattle.table_read.specs.Laid.{cells_of, head_laid, row_laid, heads_laid, rows_laid, null_records}
use Rattle.table_read.specs.Refer.{struct_in}

-- Structs --------------------------------------------------------------------------

-- some records, and others behind them
pub heads_append : (h : List ℕ) (l : ℕ) (qs rs : List Record) → heads_laid h l (qs ++ rs) ≡ heads_laid (heads_laid h l qs) (l + length qs) rs
unfolding heads_laid
heads_append h l [] rs = rw add-zero
heads_append h l (q ∷ qs) rs = rw (add-suc, ← suc-add) (heads_append (head_laid h l q) (suc l) qs rs)

-- the numbers before stay
heads_before : (h : List ℕ) (l : ℕ) (qs : List Record) (a : ℕ) → a < head_size * l → get_or (heads_laid h l qs) a 0 ≡ get_or h a 0
unfolding heads_laid
heads_before h l [] a b = refl
heads_before h l (q ∷ qs) a b =
    heads_before (head_laid h l q) (suc l) qs a (omega arith) ∙ sets_other h (head_size * l) (new_head q.struct) a (λ x y. omega arith)

-- each with its struct
pub struct_laid : (h : List ℕ) (l : ℕ) (qs : List Record) (i : ℕ) (q : Record) → get_elem? qs i ≡ some q
    → head_size * (l + length qs) ≤ length h → struct_in (heads_laid h l qs) (l + i) ≡ q.struct
unfolding heads_laid
struct_laid h l [] i q e b = none_some e
struct_laid h l (p ∷ qs) zero q e b =
    let z : head (l + 0) struct_of ≡ head l struct_of = omega arith in
    ap (λ a. get_or (heads_laid h l (p ∷ qs)) a 0) z
    ∙ heads_before (head_laid h l p) (suc l) qs (head l struct_of) (omega arith)
    ∙ sets_at h (head_size * l) (new_head p.struct) struct_of (omega arith) (omega arith)
    ∙ ap (λ (r : Record). r.struct) (some_is e)
struct_laid h l (p ∷ qs) (suc i) q e b =
    let z : l + suc i ≡ suc l + i = omega arith in
    let n : length (head_laid h l p) ≡ length h = length-sets h (head_size * l) (new_head p.struct) in
    ap (struct_in (heads_laid h l (p ∷ qs))) z ∙ struct_laid (head_laid h l p) (suc l) qs i q e (omega arith)

-- Values ---------------------------------------------------------------------------

pub cells_length : (ts : List ℕ) (i : ℕ) (vs : List Val) → length (cells_of ts i vs) ≡ length vs
unfolding cells_of
cells_length ts i [] = refl
cells_length ts i (v ∷ vs) = ap suc (cells_length ts (suc i) vs)

module _ (ts : List ℕ) where
  pub rows_append : (c : List ℕ) (l : ℕ) (qs rs : List Record) → rows_laid ts c l (qs ++ rs) ≡ rows_laid ts (rows_laid ts c l qs) (l + length qs) rs
  unfolding rows_laid
  rows_append c l [] rs = rw add-zero
  rows_append c l (q ∷ qs) rs = rw (add-suc, ← suc-add) (rows_append (row_laid ts c l q) (suc l) qs rs)

  rows_before : (c : List ℕ) (l : ℕ) (qs : List Record) (a : ℕ) → a < row_size * l → get_or (rows_laid ts c l qs) a 0 ≡ get_or c a 0
  unfolding rows_laid
  rows_before c l [] a b = refl
  rows_before c l (q ∷ qs) a b =
      rows_before (row_laid ts c l q) (suc l) qs a (omega arith)
      ∙ sets_other c (row_size * l) (cells_of ts (max_params * q.struct) q.values) a (λ x y. omega arith)

  -- each with its values
  pub row_laid_at : (c : List ℕ) (l : ℕ) (qs : List Record) (i : ℕ) (q : Record) → get_elem? qs i ≡ some q → length q.values ≤ row_size
      → row_size * (l + length qs) ≤ length c → (x : ℕ) → x < length q.values
      → get_or (rows_laid ts c l qs) (row_size * (l + i) + x) 0 ≡ get_or (cells_of ts (max_params * q.struct) q.values) x 0
  unfolding rows_laid
  row_laid_at c l [] i q e f b x s = none_some e
  row_laid_at c l (p ∷ qs) zero q e f b x s =
      let w : p ≡ q = some_is e in
      let z : row_size * (l + 0) + x ≡ row_size * l + x = omega arith in
      let ws = cells_of ts (max_params * q.struct) q.values in
      let n : length ws ≡ length q.values = cells_length ts (max_params * q.struct) q.values in
      rw (z, w)
      (rows_before (row_laid ts c l q) (suc l) qs (row_size * l + x) (omega arith) ∙ sets_at c (row_size * l) ws x (omega arith) (omega arith))
  row_laid_at c l (p ∷ qs) (suc i) q e f b x s =
      let z : l + suc i ≡ suc l + i = omega arith in
      let n : length (row_laid ts c l p) ≡ length c = length-sets c (row_size * l) (cells_of ts (max_params * p.struct) p.values) in
      rw z (row_laid_at (row_laid ts c l p) (suc l) qs i q e f (omega arith) x s)

-- Null instances -------------------------------------------------------------------

pub nulls_length : (k : ℕ) (pss : List (List Ty)) → length (null_records k pss) ≡ length pss
unfolding null_records
nulls_length k [] = refl
nulls_length k (ps ∷ pss) = ap suc (nulls_length (suc k) pss)

pub null_struct : (k : ℕ) (pss : List (List Ty)) (i : ℕ) (q : Record) → get_elem? (null_records k pss) i ≡ some q → q.struct ≡ k + i
unfolding null_records
null_struct k [] i q e = none_some e
null_struct k (ps ∷ pss) zero q e = let z : k ≡ k + 0 = omega arith in sym (ap (λ (r : Record). r.struct) (some_is e)) ∙ z
null_struct k (ps ∷ pss) (suc i) q e = let z : suc k + i ≡ k + suc i = omega arith in null_struct (suc k) pss i q e ∙ z

-- what stands below a list's length
pub at_place : {A : Type 0} (l : List A) (n : ℕ) → n < length l → (a : A) × (get_elem? l n ≡ some a)
at_place [] n h = absurd (omega arith)
at_place (a ∷ l) zero h = (a, refl)
at_place (a ∷ l) (suc n) h = at_place l n (omega arith)

pub at_none : {A : Type 0} (l : List A) (n : ℕ) → length l ≤ n → get_elem? l n ≡ none
at_none [] n h = refl
at_none (a ∷ l) zero h = absurd (omega arith)
at_none (a ∷ l) (suc n) h = at_none l n (omega arith)
