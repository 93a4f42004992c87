-- Each turn of the loops that write a table stream (01, 'Table and turns').
use Prim.Native.Nat.{ℕ, zero, suc, ◌+◌, ◌-◌, ◌*◌, ◌<◌, ◌≤◌}
use native.Mathlib.Omega.{arith}
use Rattle.std.proofs.Common.{add-zero, mul-zero, ◌∙◌}
use Rattle.std.proofs.Math.Nat.{sub-zero}
use Rattle.std.proofs.Math.Numerals.{add-one}
use Rattle.std.specs.Prelude.{◌≡◌, get_or, set, take, drop, Result, Ok}
use Rattle.std.proofs.Math.Path.{refl, ap, sym}
use Rattle.std.proofs.Math.Bool.{true}
use mathlib.Core.List.{List, ◌++◌}
use Rattle.std.proofs.Math.ListN.{length, length-append}
use Rattle.std.proofs.lemmas.List.Edits.{sets}
use Rattle.std.proofs.Math.Seq.{take-append_seam}
use borrow.Author.Tests.{le-leb}
use Rattle.blocks.specs.Images.{stream_right, write, written_into}
use Rattle.blocks.proofs.WriteWays.{write_done}
use Rattle.little_endian.specs.Numbers.{bytes_of}
use Rattle.program.specs.Encoding.{enc_word}
use Rattle.table.specs.Table.{value_bytes, count_bytes}
use Rattle.table.specs.Sizes.{head_bytes, most_record, most_stream}
use Rattle.table.proofs.Laws.SizeLaws.{word_length, stored_word}
use Rattle.read_params.specs.ParamsWays.{from_start}
use Rattle.emit.specs.Laws.WrittenLaws.{sets_append}
use Rattle.layout.specs.Layout.{row_size, operand}
use Rattle.table_read.specs.Refer.{struct_in}
use Rattle.table_write.specs.Written.{cells_bytes, row_bytes, rows_bytes, memory_stream, memory_blocks, memory_image, Filled}
use Rattle.blocks.specs.declared.WriteError.{WriteError}

-- Cells ------------------------------------------------------------------------------

pub bytes_length : (c : List ℕ) (a m : ℕ) → length (cells_bytes c a m) ≡ value_bytes * m
unfolding cells_bytes
bytes_length c a zero = refl
bytes_length c a (suc m) = simp length-append (omega (arith, word_length value_bytes (operand (get_or c a 0)), bytes_length c (suc a) m))

module _ (at : ℕ) (c : List ℕ) (a m : ℕ) where
  -- what is left of the cells, after x of them
  abbrev pub cells_left : List ℕ → ℕ → List ℕ
  cells_left o x = sets o (at + value_bytes * x) (cells_bytes c (a + x) (m - x))

  pub cells_begin : (o : List ℕ) → cells_left o 0 ≡ sets o at (cells_bytes c a m)
  cells_begin o = rw (mul-zero value_bytes, add-zero at, add-zero a, sub-zero m)

  pub cells_turn : (o o' : List ℕ) (x : ℕ) → x < m → {v : ℕ} → v ≡ operand (get_or c (a + x) 0) → o' ≡ sets o (at + value_bytes * x) (bytes_of value_bytes v)
      → cells_left o' (x + 1) ≡ cells_left o x
  unfolding cells_bytes
  cells_turn o o' x l d e =
      let p : a + (x + 1) ≡ suc (a + x) = omega arith in
      let q : m - x ≡ suc (m - (x + 1)) = omega arith in
      let w = enc_word value_bytes (operand (get_or c (a + x) 0)) in
      let r : at + value_bytes * (x + 1) ≡ at + value_bytes * x + length w = omega (arith, word_length value_bytes (operand (get_or c (a + x) 0))) in
      rw (p, q, r, e, d, stored_word value_bytes (operand (get_or c (a + x) 0))) (sym (sets_append o (at + value_bytes * x) w (cells_bytes c (suc (a + x)) (m - (x + 1)))))

  pub cells_end : (o : List ℕ) (x : ℕ) → m ≤ x → o ≡ cells_left o x
  unfolding cells_bytes
  cells_end o x l = let e : m - x ≡ 0 = omega arith in rw e

-- Instances --------------------------------------------------------------------------

module _ (cs h c : List ℕ) (n l : ℕ) (b : l < n) where
  -- the bytes of instance l before those behind it
  rows_more : rows_bytes cs h c l (n - l) ≡ row_bytes cs h c l ++ rows_bytes cs h c (l + 1) (n - (l + 1))
  unfolding rows_bytes
  rows_more = let e : n - l ≡ suc (n - (l + 1)) = omega arith in rw (e, add-one l)

  row_length : length (row_bytes cs h c l) ≡ head_bytes + value_bytes * get_or cs (struct_in h l) 0
  row_length = let n = bytes_length c (row_size * l) (get_or cs (struct_in h l) 0) in omega arith

  module _ (k m : ℕ) (d : k ≡ struct_in h l) (f : m ≡ get_or cs k 0) (at : ℕ) where
    own : m ≡ get_or cs (struct_in h l) 0
    own = f ∙ ap (λ (k : ℕ). get_or cs k 0) d

    pub rows_place : at + head_bytes + value_bytes * m + length (rows_bytes cs h c (l + 1) (n - (l + 1))) ≡ at + length (rows_bytes cs h c l (n - l))
    rows_place = rw rows_more (simp length-append (omega (arith, row_length, own)))

    pub rows_turn : (o o' : List ℕ) → o' ≡ sets (set o at k) (at + head_bytes) (cells_bytes c (row_size * l) m)
        → sets o' (at + head_bytes + value_bytes * m) (rows_bytes cs h c (l + 1) (n - (l + 1))) ≡ sets o at (rows_bytes cs h c l (n - l))
    rows_turn o o' e =
        let q : at + head_bytes + value_bytes * m ≡ at + length (row_bytes cs h c l) = omega (arith, row_length, own) in
        let z : at + head_bytes ≡ suc at = omega arith in
        let w : o' ≡ sets o at (row_bytes cs h c l) = e ∙ rw (z, own, d) in
        rw (q, w, rows_more) (sym (sets_append o at (row_bytes cs h c l) (rows_bytes cs h c (l + 1) (n - (l + 1)))))

-- none is left
pub rows_end : (cs h c : List ℕ) (n l : ℕ) → n ≤ l → (at : ℕ) (o : List ℕ)
    → (at ≡ at + length (rows_bytes cs h c l (n - l))) × (o ≡ sets o at (rows_bytes cs h c l (n - l)))
unfolding rows_bytes
rows_end cs h c n l b at o = let e : n - l ≡ 0 = omega arith in rw e (sym (add-zero at), refl)

-- N ----------------------------------------------------------------------------------

-- two bytes, and the instances behind them
pub stream_written : (cs h c : List ℕ) (n : ℕ) (o o₁ o' : List ℕ) → o₁ ≡ sets o 0 (bytes_of count_bytes (n - length cs))
    → o' ≡ sets o₁ count_bytes (rows_bytes cs h c (length cs) (n - length cs))
    → o' ≡ sets o 0 (memory_stream cs h c n)
unfolding memory_stream enc_word bytes_of
stream_written cs h c n o o₁ o' e f = f ∙ rw e

pub stream_length : (cs h c : List ℕ) (n r : ℕ) → r ≡ count_bytes + length (rows_bytes cs h c (length cs) (n - length cs)) → r ≡ length (memory_stream cs h c n)
unfolding memory_stream enc_word
stream_length cs h c n r e = omega arith

-- Blocks -----------------------------------------------------------------------------

module _ (cs h c : List ℕ) (n : ℕ) (f : Filled cs h c n) where
  rows_bound : (l m : ℕ) → length (rows_bytes cs h c l m) ≤ most_record * m
  unfolding rows_bytes
  rows_bound l zero = omega arith
  rows_bound l (suc m) =
      simp length-append
      (omega (arith, bytes_length c (row_size * l) (get_or cs (struct_in h l) 0), f.each (struct_in h l), rows_bound (suc l) m))

  -- a stream has its N, and fits 17 blocks
  pub stream_fits : (count_bytes ≤ length (memory_stream cs h c n)) × (length (memory_stream cs h c n) ≤ most_stream)
  stream_fits =
      let e = stream_length cs h c n (count_bytes + length (rows_bytes cs h c (length cs) (n - length cs))) refl in
      omega (arith, rows_bound (length cs) (n - length cs), f.most)

  blocks_written : (room : ℕ) → 8704 ≤ room → write 17 (length (memory_stream cs h c n)) room ≡ Ok (memory_blocks cs h c n)
  unfolding stream_right
  blocks_written room b =
      let s = stream_fits in
      let len = length (memory_stream cs h c n) in
      sym (write_done 17 len room true (rw (le-leb 1 len (omega arith), le-leb len (504 * 17) (omega arith))) refl (omega arith))

  -- a buffer b with the stream, and the output with its blocks
  module _ (b b' : List ℕ) (len : ℕ) (r : Result ℕ WriteError) (o o' : List ℕ) (roomy : 8568 ≤ length b) (e : len ≡ length (memory_stream cs h c n))
      (w : b' ≡ sets b 0 (memory_stream cs h c n)) (room : 8704 ≤ length o) (a : r ≡ write 17 (length (take len b')) (length o))
      (out : o' ≡ written_into r (take len b') o) where
    part : take len b' ≡ memory_stream cs h c n
    part =
        let s = stream_fits in
        rw (e, w, from_start b (memory_stream cs h c n) (omega arith))
        (take-append_seam (memory_stream cs h c n) (drop (length (memory_stream cs h c n)) b))

    pub blocks_are : r ≡ Ok (memory_blocks cs h c n)
    blocks_are = a ∙ ap (λ (s : List ℕ). write 17 (length s) (length o)) part ∙ blocks_written (length o) room

    pub image_is : o' ≡ memory_image cs h c n o
    unfolding written_into
    image_is = out ∙ ap (λ (s : List ℕ). written_into r s o) part ∙ rw blocks_are
