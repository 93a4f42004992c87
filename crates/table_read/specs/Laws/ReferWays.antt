-- Each way through the tests of references in memory (01, 'Table and turns').
use Prim.Native.Nat.{ℕ, suc, ◌+◌, ◌-◌, ◌*◌, ◌<◌, ◌≤◌}
use native.Mathlib.Omega.{arith}
use Rattle.std.proofs.Common.{add-zero}
use Rattle.std.proofs.Math.Nat.{sub-zero}
use Rattle.std.proofs.Math.Numerals.{add-one}
use Rattle.std.specs.Prelude.{◌≡◌, Bool, true, false, ◌&&◌, List, get_or, eqb}
use borrow.Author.Tests.{lt-ltb, le-ltb}
use Rattle.types.specs.Limits.{max_params}
use Rattle.types.specs.Types.{type_of}
use Rattle.types.specs.TypeBytes.{is_ref, struct_of as type_struct}
use Rattle.layout.specs.Layout.{row_size, operand}
use Rattle.table_read.specs.Refer.{struct_in, cell_refers, row_refers, rows_refer}

module _ (h : List ℕ) (n t c : ℕ) where
  -- a type that is no struct; a label that no instance has; the struct of an instance
  pub cell_plain : is_ref (type_of t) ≡ false → true ≡ cell_refers h n t c
  unfolding cell_refers
  cell_plain e = rw (cell_refers, e)

  pub cell_absent : is_ref (type_of t) ≡ true → n ≤ operand c → false ≡ cell_refers h n t c
  unfolding cell_refers
  cell_absent e l = rw (cell_refers, e, le-ltb (operand c) n l)

  pub cell_struct : is_ref (type_of t) ≡ true → operand c < n → (k : ℕ) → k ≡ type_struct (type_of t)
      → eqb (struct_in h (operand c)) k ≡ cell_refers h n t c
  unfolding cell_refers
  cell_struct e l k q = rw (cell_refers, e, lt-ltb (operand c) n l, q)

module _ (h : List ℕ) (n : ℕ) (ts : List ℕ) (i : ℕ) (c : List ℕ) (a m : ℕ) where
  pub row_begin : row_refers h n ts (i + 0) c (a + 0) (m - 0) ≡ row_refers h n ts i c a m
  row_begin = rw (add-zero i, add-zero a, sub-zero m)

  -- with one cell more
  row_more : (x : ℕ) → x < m
      → row_refers h n ts (i + x) c (a + x) (m - x)
      ≡ (cell_refers h n (get_or ts (i + x) 0) (get_or c (a + x) 0) && row_refers h n ts (i + (x + 1)) c (a + (x + 1)) (m - (x + 1)))
  unfolding row_refers
  row_more x l =
      let p : i + (x + 1) ≡ suc (i + x) = omega arith in
      let q : a + (x + 1) ≡ suc (a + x) = omega arith in
      let r : m - x ≡ suc (m - (x + 1)) = omega arith in
      rw (p, q, r)

  pub row_turn : (x : ℕ) → x < m → cell_refers h n (get_or ts (i + x) 0) (get_or c (a + x) 0) ≡ true
      → row_refers h n ts (i + (x + 1)) c (a + (x + 1)) (m - (x + 1)) ≡ row_refers h n ts (i + x) c (a + x) (m - x)
  row_turn x l e = rw (row_more x l, e)

  pub row_stop : (x : ℕ) → x < m → cell_refers h n (get_or ts (i + x) 0) (get_or c (a + x) 0) ≡ false
      → false ≡ row_refers h n ts (i + x) c (a + x) (m - x)
  row_stop x l e = rw (row_more x l, e)

  pub row_end : (x : ℕ) → m ≤ x → true ≡ row_refers h n ts (i + x) c (a + x) (m - x)
  unfolding row_refers
  row_end x l = let e : m - x ≡ 0 = omega arith in rw e

module _ (cs ts h c : List ℕ) (n l k m : ℕ) (b : l < n) (d : k ≡ struct_in h l) (e : m ≡ get_or cs k 0) where
  -- the m parameters of instance l, whose struct was read as k, and those of the instances behind it
  rows_more : rows_refer cs ts h c n l (n - l)
      ≡ (row_refers h n ts (max_params * k) c (row_size * l) m && rows_refer cs ts h c n (l + 1) (n - (l + 1)))
  unfolding rows_refer
  rows_more = let q : n - l ≡ suc (n - (l + 1)) = omega arith in rw (q, add-one l, e, d)

  module _ (r : Bool) (f : r ≡ row_refers h n ts (max_params * k) c (row_size * l) m) where
    pub rows_turn : r ≡ true → rows_refer cs ts h c n (l + 1) (n - (l + 1)) ≡ rows_refer cs ts h c n l (n - l)
    rows_turn t = rw (rows_more, ← f, t)

    pub rows_stop : r ≡ false → false ≡ rows_refer cs ts h c n l (n - l)
    rows_stop t = rw (rows_more, ← f, t)

pub rows_end : (cs ts h c : List ℕ) (n l : ℕ) → n ≤ l → true ≡ rows_refer cs ts h c n l (n - l)
unfolding rows_refer
rows_end cs ts h c n l b = let e : n - l ≡ 0 = omega arith in rw e
