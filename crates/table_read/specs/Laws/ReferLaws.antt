-- The references of a table laid in memory are judged as the table's (01, 'Table and turns').
use Prim.Native.Nat.{ℕ, zero, suc, ◌+◌, ◌-◌, ◌*◌, ◌<◌, ◌≤◌}
use native.Mathlib.Omega.{arith}
use Rattle.std.specs.Prelude.{◌≡◌, Bool, ◌&&◌}
use Rattle.std.proofs.Math.Path.{refl}
use Rattle.std.proofs.Common.{ap, sym, ◌∙◌, length-append}
use Rattle.std.proofs.Math.Bool.{true, false}
use Rattle.std.proofs.Math.Option.{none, some}
use mathlib.Core.List.{List, [], ◌∷◌}
use Rattle.std.proofs.Math.ListN.{length, get_or, get_elem?}
use Rattle.std.proofs.Math.Dec.{ltb, eqb}
use borrow.Author.Tests.{ltb-true, ltb-false, le-ltb}
use Rattle.types.specs.Limits.{max_params}
use Rattle.types.specs.Types.{Ty, Ty.int, Ty.nat, Ty.bool, Ty.ref, type_of}
use Rattle.types.specs.TypeBytes.{is_ref, struct_of as type_struct, ValueOf}
use Rattle.types.specs.Values.{Val, Val.int_val, Val.nat_val, Val.bool_val, Val.label, word}
use Rattle.program.specs.Counts.{All}
use Rattle.table.specs.Table.{Record, struct_at, Each, Held, HeldRecord}
use Rattle.table.proofs.Laws.SizeLaws.{each_length}
use Rattle.table.specs.TableReader.{is_struct, refers, refers_each, references}
use Rattle.sound.proofs.Laws.ElemLaws.{at_append, at_behind, all_elem}
use Rattle.layout.specs.Layout.{head_size, row_size, cell}
use Rattle.memory.proofs.Laws.CellLaws.{operand_part}
use Rattle.table_read.specs.Params.{types_from, lists_of}
use Rattle.table_read.specs.Laws.ParamsLaws.{list_is, types_length, lists_length}
use Rattle.table_read.specs.Laid.{cells_of, heads_laid, rows_laid, null_records, all_records}
use Rattle.table_read.specs.Laws.LaidLaws.{struct_laid, row_laid_at, nulls_length, null_struct, at_place, at_none}
use Rattle.table_read.specs.Refer.{struct_in, Structs, cell_refers, row_refers, rows_refer}

-- Labels ---------------------------------------------------------------------------

module _ (pss : List (List Ty)) (rs : List Record) (h : List ℕ) (long : head_size * (length pss + length rs) ≤ length h) where
  abbrev H : List ℕ
  H = heads_laid h 0 (all_records pss rs)

  every : length (all_records pss rs) ≡ length pss + length rs
  every = length-append (null_records 0 pss) rs ∙ ap (λ n. n + length rs) (nulls_length 0 pss)

  -- an instance's struct is its record's
  instance_struct : (l : ℕ) (q : Record) → get_elem? (all_records pss rs) l ≡ some q → struct_in H l ≡ q.struct
  instance_struct l q e =
      let m : length (all_records pss rs) ≡ length pss + length rs = every in
      let z : 0 + l ≡ l = omega arith in
      rw z at (struct_laid h 0 (all_records pss rs) l q e (omega arith))

  -- of a null instance its label, of another that of its record
  null_there : (l : ℕ) → l < length pss → struct_in H l ≡ l
  null_there l b =
      let n : length (null_records 0 pss) ≡ length pss = nulls_length 0 pss in
      let (q, w) = at_place (null_records 0 pss) l (omega arith) in
      let s : struct_in H l ≡ 0 + l = instance_struct l q (at_append (null_records 0 pss) rs l q w) ∙ null_struct 0 pss l q w in
      omega arith

  record_there : (l : ℕ) (q : Record) → length pss ≤ l → get_elem? rs (l - length pss) ≡ some q → struct_in H l ≡ q.struct
  record_there l q b e =
      let n : length (null_records 0 pss) ≡ length pss = nulls_length 0 pss in
      instance_struct l q (at_behind (null_records 0 pss) rs l (omega arith) ∙ rw n e)

  -- the struct of an instance
  label_there : (l : ℕ) → l < length pss + length rs → struct_at pss rs l ≡ some (struct_in H l)
  unfolding struct_at
  label_there l b = go (ltb l (length pss)) refl
    where
      go : (t : Bool) → ltb l (length pss) ≡ t → struct_at pss rs l ≡ some (struct_in H l)
      go true e = rw (struct_at, e, null_there l (ltb-true l (length pss) e))
      go false e =
          let f : length pss ≤ l = ltb-false l (length pss) e in
          let (q, w) = at_place rs (l - length pss) (omega arith) in
          rw (struct_at, e, w, record_there l q f w)

  -- a label that no instance has
  label_none : (l : ℕ) → length pss + length rs ≤ l → struct_at pss rs l ≡ none
  unfolding struct_at
  label_none l b = rw (struct_at, le-ltb l (length pss) (omega arith), at_none rs (l - length pss) (omega arith))

  label_is : (l k : ℕ) → is_struct (struct_at pss rs l) k ≡ (ltb l (length pss + length rs) && eqb (struct_in H l) k)
  unfolding is_struct
  label_is l k = go (ltb l (length pss + length rs)) refl
    where
      go : (t : Bool) → ltb l (length pss + length rs) ≡ t → is_struct (struct_at pss rs l) k ≡ (t && eqb (struct_in H l) k)
      go true e = rw (label_there l (ltb-true l (length pss + length rs) e))
      go false e = rw (label_none l (ltb-false l (length pss + length rs) e))

  -- A value, the values of a record ------------------------------------------------------

  value_refers : (b : ℕ) → b < 256 → (v : Val) → ValueOf (type_of b) v
      → cell_refers H (length pss + length rs) b (cell b (word v)) ≡ refers pss rs (type_of b) v
  unfolding cell_refers refers is_ref type_struct word
  value_refers b small v o = go (type_of b) refl v o
    where
      go : (t : Ty) → type_of b ≡ t → (v : Val) → ValueOf t v → cell_refers H (length pss + length rs) b (cell b (word v)) ≡ refers pss rs t v
      go int e v o = rw (cell_refers, e)
      go nat e v o = rw (cell_refers, e)
      go bool e v o = rw (cell_refers, e)
      go (ref k) e (int_val z) o = absurd o
      go (ref k) e (nat_val n) o = absurd o
      go (ref k) e (bool_val t) o = absurd o
      go (ref k) e (label l) o = rw (cell_refers, e, operand_part 1 b l (omega arith) small) (rw e (sym (label_is l k)))

  module _ (ts : List ℕ) (bytes : (i : ℕ) → get_or ts i 0 < 256) where
    values_refer : (i n : ℕ) (vs : List Val) → Each Held (types_from ts i n) vs → (c : List ℕ) (a : ℕ)
        → ((x : ℕ) → x < n → get_or c (a + x) 0 ≡ get_or (cells_of ts i vs) x 0)
        → row_refers H (length pss + length rs) ts i c a n ≡ refers_each pss rs (types_from ts i n) vs
    unfolding types_from row_refers refers_each cells_of
    values_refer i zero [] o c a f = refl
    values_refer i zero (v ∷ vs) o c a f = absurd o
    values_refer i (suc n) [] o c a f = absurd o
    values_refer i (suc n) (v ∷ vs) o c a f =
        let z : a + 0 ≡ a = omega arith in
        let e : get_or c a 0 ≡ cell (get_or ts i 0) (word v) = rw z at (f 0 (omega arith)) in
        rw (e, value_refers (get_or ts i 0) (bytes i) v o.0)
        (ap (λ t. refers pss rs (type_of (get_or ts i 0)) v && t)
        (values_refer (suc i) n vs o.1 c (suc a) λ x b. let w : a + suc x ≡ suc a + x = omega arith in rw w at (f (suc x) (omega arith))))

-- The records ----------------------------------------------------------------------

module _ (cs ts : List ℕ) (bytes : (i : ℕ) → get_or ts i 0 < 256) (rs : List Record) (h : List ℕ)
    (long : head_size * (length (lists_of cs ts) + length rs) ≤ length h) where
  abbrev params : List (List Ty)
  params = lists_of cs ts

  abbrev total : ℕ
  total = length params + length rs

  -- the instance j stands in memory as the record q
  abbrev Shown : List ℕ → ℕ → Record → Type 0
  Shown c j q = (struct_in (H params rs h long) j ≡ q.struct)
      × ((x : ℕ) → x < length q.values → get_or c (row_size * j + x) 0 ≡ get_or (cells_of ts (max_params * q.struct) q.values) x 0)

  record_refers : (c : List ℕ) (j : ℕ) (q : Record) → HeldRecord params q → Shown c j q
      → row_refers (H params rs h long) total ts (max_params * struct_in (H params rs h long) j) c (row_size * j) (get_or cs (struct_in (H params rs h long) j) 0)
      ≡ refers_each params rs (get_or params q.struct []) q.values
  record_refers c j q o s =
      let e : get_or params q.struct [] ≡ types_from ts (max_params * q.struct) (get_or cs q.struct 0) = list_is cs ts q.struct in
      let f : Each Held (types_from ts (max_params * q.struct) (get_or cs q.struct 0)) q.values = rw e at o.1 in
      let n : length q.values ≡ get_or cs q.struct 0 =
      each_length Held (types_from ts (max_params * q.struct) (get_or cs q.struct 0)) q.values f
      ∙ types_length ts (max_params * q.struct) (get_or cs q.struct 0) in
      rw (s.0, e)
      (values_refer params rs h long ts bytes (max_params * q.struct) (get_or cs q.struct 0) q.values f c (row_size * j) λ x b. s.1 x (omega arith))

  -- those from l on
  records_refer : (c : List ℕ) (l : ℕ) (qs : List Record) → All (HeldRecord params) qs
      → ((i : ℕ) (q : Record) → get_elem? qs i ≡ some q → Shown c (l + i) q)
      → rows_refer cs ts (H params rs h long) c total l (length qs) ≡ references params rs qs
  unfolding rows_refer references
  records_refer c l [] o f = refl
  records_refer c l (q ∷ qs) o f =
      let z : l + 0 ≡ l = omega arith in
      let here : Shown c l q = rw z at (f 0 q refl) in
      rw (record_refers c l q o.0 here)
      (ap (λ t. refers_each params rs (get_or params q.struct []) q.values && t)
      (records_refer c (suc l) qs o.1 λ i p e. let w : l + suc i ≡ suc l + i = omega arith in rw w at (f (suc i) p e)))

  -- those of the table that was laid
  pub laid_refers : (c : List ℕ) → row_size * total ≤ length c → ((k : ℕ) → length (get_or params k []) ≤ max_params) → All (HeldRecord params) rs
      → rows_refer cs ts (H params rs h long) (rows_laid ts c 0 (all_records params rs)) total (length params) (length rs) ≡ references params rs rs
  laid_refers c wide few o =
      records_refer (rows_laid ts c 0 (all_records params rs)) (length params) rs o λ i q e.
      let n : length (null_records 0 params) ≡ length params = nulls_length 0 params in
      let m : length (all_records params rs) ≡ total = every params rs h long in
      let z : 0 + (length params + i) ≡ length params + i = omega arith in
      let b : length params + i - length (null_records 0 params) ≡ i = omega arith in
      let there : get_elem? (all_records params rs) (length params + i) ≡ some q =
      at_behind (null_records 0 params) rs (length params + i) (omega arith) ∙ rw b e in
      let held = all_elem (HeldRecord params) rs i q o e in
      let slim : length q.values ≤ max_params = rw (each_length Held (get_or params q.struct []) q.values held.1) (few q.struct) in (
        instance_struct params rs h long (length params + i) q there,
        λ x y. rw z at (row_laid_at ts c 0 (all_records params rs) (length params + i) q there (omega arith) (omega arith) x y),
      )

  -- every instance is of a struct
  pub laid_structs : All (HeldRecord params) rs → Structs (H params rs h long) total (length cs)
  laid_structs o l b = go (ltb l (length params)) refl
    where
      S : length params ≡ length cs
      S = lists_length ts 0 cs

      go : (t : Bool) → ltb l (length params) ≡ t → struct_in (H params rs h long) l < length cs
      go true e =
          let f : l < length params = ltb-true l (length params) e in
          omega (arith, S, null_there params rs h long l f)
      go false e =
          let f : length params ≤ l = ltb-false l (length params) e in
          let (q, w) = at_place rs (l - length params) (omega arith) in
          omega (arith, S, record_there params rs h long l q f w, (all_elem (HeldRecord params) rs (l - length params) q o w).0)
