-- Each turn of the loops that lay the null instances (01, 'Table and turns').
use Prim.Native.Nat.{ℕ, suc, ◌+◌, ◌-◌, ◌*◌, ◌<◌, ◌≤◌}
use native.Mathlib.Omega.{arith}
use Rattle.std.proofs.Common.{add-zero, ◌∙◌}
use Rattle.std.proofs.Math.Nat.{sub-zero}
use Rattle.std.proofs.Math.Numerals.{add-one}
use Rattle.std.specs.Prelude.{◌≡◌, set}
use Rattle.std.proofs.Math.Path.{sym}
use mathlib.Core.List.{List, [], ◌∷◌, map}
use Rattle.std.proofs.Math.ListN.{length, get_or, drop}
use Rattle.std.proofs.lemmas.List.Edits.{sets}
use Rattle.std.proofs.Math.Seq.{drop-cons, drop-length}
use Rattle.types.specs.Limits.{max_params}
use Rattle.types.specs.Types.{type_of}
use Rattle.types.specs.Values.{default, word}
use Rattle.table.specs.Table.{Record}
use Rattle.layout.specs.Layout.{head_size, row_size, cell, new_head}
use Rattle.table_read.specs.Params.{types_from, lists_of}
use Rattle.table_read.specs.Laws.ParamsLaws.{lists_length, list_is}
use Rattle.table_read.specs.Laid.{cells_of, values_laid, null_records, heads_laid, rows_laid}

-- Defaults -------------------------------------------------------------------------

-- the defaults of n types that stand from i on, laid from the cell a on
abbrev pub defaults_laid : List ℕ → ℕ → ℕ → List ℕ → ℕ → List ℕ
defaults_laid ts i n c a = values_laid ts i c a (map default (types_from ts i n))

module _ (ts : List ℕ) (i n : ℕ) (c : List ℕ) (a : ℕ) where
  pub defaults_begin : defaults_laid ts (i + 0) (n - 0) c (a + 0) ≡ defaults_laid ts i n c a
  defaults_begin = rw (add-zero i, sub-zero n, add-zero a)

  -- one more is laid
  pub defaults_turn : (x v : ℕ) → x < n → v ≡ cell (get_or ts (i + x) 0) (word (default (type_of (get_or ts (i + x) 0))))
      → defaults_laid ts (i + (x + 1)) (n - (x + 1)) (set c (a + x) v) (a + (x + 1)) ≡ defaults_laid ts (i + x) (n - x) c (a + x)
  unfolding types_from cells_of
  defaults_turn x v l e =
      let p : i + (x + 1) ≡ suc (i + x) = omega arith in
      let q : a + (x + 1) ≡ suc (a + x) = omega arith in
      let r : n - x ≡ suc (n - (x + 1)) = omega arith in
      rw (p, q, r, e)

  pub defaults_end : (x : ℕ) → n ≤ x → c ≡ defaults_laid ts (i + x) (n - x) c (a + x)
  unfolding types_from cells_of
  defaults_end x l = let e : n - x ≡ 0 = omega arith in rw e

-- Null instances --------------------------------------------------------------------

-- those of the structs from k on
abbrev pub nulls_from : List ℕ → List ℕ → ℕ → List Record
nulls_from cs ts k = null_records k (drop k (lists_of cs ts))

module _ (cs ts : List ℕ) where
  -- the one of struct k before the others
  nulls_more : (k : ℕ) → k < length cs
      → nulls_from cs ts k ≡ record { struct = k; values = map default (types_from ts (max_params * k) (get_or cs k 0)) } ∷ nulls_from cs ts (k + 1)
  unfolding null_records
  nulls_more k l =
      let d : drop k (lists_of cs ts) ≡ get_or (lists_of cs ts) k [] ∷ drop (suc k) (lists_of cs ts) =
      drop-cons (lists_of cs ts) k [] (rw (lists_length ts 0 cs) l)
      in
      rw (add-one, d, list_is cs ts k)

  nulls_none : (k : ℕ) → k ≡ length cs → nulls_from cs ts k ≡ []
  unfolding null_records
  nulls_none k e =
      let q : k ≡ length (lists_of cs ts) = e ∙ sym (lists_length ts 0 cs) in
      let d : drop k (lists_of cs ts) ≡ [] = rw q (drop-length (lists_of cs ts)) in
      rw d

  pub heads_turn : (h h' : List ℕ) (k : ℕ) → k < length cs → h' ≡ sets h (head_size * k) (new_head k)
      → heads_laid h' (k + 1) (nulls_from cs ts (k + 1)) ≡ heads_laid h k (nulls_from cs ts k)
  unfolding heads_laid
  heads_turn h h' k l e = rw (nulls_more k l, e, add-one k)

  pub rows_turn : (c c' : List ℕ) (k n : ℕ) → k < length cs → n ≡ get_or cs k 0 → c' ≡ defaults_laid ts (max_params * k) n c (row_size * k)
      → rows_laid ts c' (k + 1) (nulls_from cs ts (k + 1)) ≡ rows_laid ts c k (nulls_from cs ts k)
  unfolding rows_laid
  rows_turn c c' k n l e f = rw (nulls_more k l, f, e, add-one k)

  pub heads_end : (h : List ℕ) (k : ℕ) → k ≡ length cs → h ≡ heads_laid h k (nulls_from cs ts k)
  unfolding heads_laid
  heads_end h k e = rw (nulls_none k e)

  pub rows_end : (c : List ℕ) (k : ℕ) → k ≡ length cs → c ≡ rows_laid ts c k (nulls_from cs ts k)
  unfolding rows_laid
  rows_end c k e = rw (nulls_none k e)
