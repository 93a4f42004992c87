-- The other way round: a table's stream as numbers, and these as a stream, is that stream.
use Prim.Native.Nat.{ℕ, zero, suc, ◌+◌, ◌*◌, ◌-◌, ◌/◌, ◌%◌, ◌≤◌, ◌<◌}
use native.Mathlib.Omega.{arith}
use Rattle.std.specs.Prelude.{◌≡◌, refl, Bool, List, [], ◌∷◌, ◌++◌, eqb, ltb, length, drop}
use Rattle.std.proofs.Common.{sym, ◌∙◌, drop_of_length-le, lt-ltb, le-ltb, le-leb, ltb-false}
use Rattle.std.proofs.Math.Path.{ap}
use Rattle.std.proofs.Math.Bool.{true, false}
use Rattle.std.proofs.Math.ListN.{get_or}
use Rattle.std.proofs.lemmas.Bool.{lt-leb}
use Rattle.types.proofs.Laws.ListLaws.{drop_next}
use Rattle.types.specs.Limits.{int_half, nat_end, max_params}
use Rattle.program.specs.Encoding.{enc_word}
use Rattle.numbers.specs.Scan.{minus_mark, first_mark}
use Rattle.table_words.specs.TableWords.{quad, value_word, values_words, arity_at, row_words, rows_words, table_words}
use Rattle.table_stream.specs.TableStream.{value_number, word_bytes, item_bytes, records_bytes, one_line, line_count, stream_of}

abbrev pub Bytes : List ℕ → Type 0
Bytes s = (i : ℕ) → get_or s i 0 < 256

-- n records from a place on end where the stream does
module _ (cs ts s : List ℕ) where
  unfoldable pub Ends : ℕ → ℕ → Type 0
  Ends zero at = at ≡ length s
  Ends (suc n) at = (at + 1 + 4 * arity_at cs ts s at ≤ length s) × Ends n (at + 1 + 4 * arity_at cs ts s at)

-- Values -------------------------------------------------------------------------------------

plain : (w : ℕ) → w < nat_end → value_number w ≡ w
unfolding value_number
plain w h =
    let a : w % first_mark true < minus_mark true = omega arith in
    rw (value_number, lt-ltb (w % first_mark true) (minus_mark true) a) (omega arith)

signed : (w : ℕ) → int_half ≤ w → w < nat_end → value_number (minus_mark true + (nat_end - w)) ≡ w
unfolding value_number
signed w l h =
    let x = minus_mark true + (nat_end - w) in
    let a : minus_mark true ≤ x % first_mark true = omega arith in
    rw (value_number, le-ltb (x % first_mark true) (minus_mark true) a) (omega arith)

-- a value's word begins no line, and has the value's number
value_back : (t w : ℕ) → w < nat_end → (value_word t w < first_mark true) × (value_number (value_word t w) ≡ w)
unfolding value_word
value_back t w h = go (eqb t 0) refl (ltb w int_half) refl
  where
    go : (a : Bool) → eqb t 0 ≡ a → (b : Bool) → ltb w int_half ≡ b → (value_word t w < first_mark true) × (value_number (value_word t w) ≡ w)
    go false d b e = rw (value_word, d) (omega arith, plain w h)
    go true d true e = rw (value_word, d, e) (omega arith, plain w h)
    go true d false e = let l = ltb-false w int_half e in rw (value_word, d, e) (omega arith, signed w l h)

module _ (s : List ℕ) (small : Bytes s) where
  quad_small : (at : ℕ) → quad s at < nat_end
  quad_small at = omega (arith, small at, small (at + 1), small (at + 2), small (at + 3))

  quad_bytes : (at : ℕ) → enc_word 4 (quad s at) ≡ get_or s at 0 ∷ get_or s (at + 1) 0 ∷ get_or s (at + 2) 0 ∷ get_or s (at + 3) 0 ∷ []
  unfolding enc_word
  quad_bytes at =
      let a = small at in
      let b = small (at + 1) in
      let c = small (at + 2) in
      let d = small (at + 3) in
      let x = quad s at in
      let y = get_or s (at + 1) 0 + 256 * get_or s (at + 2) 0 + 65536 * get_or s (at + 3) 0 in
      let z = get_or s (at + 2) 0 + 256 * get_or s (at + 3) 0 in
      let p : (x % 256 ≡ get_or s at 0) × (x / 256 ≡ y) = (omega arith, omega arith) in
      let q : (y % 256 ≡ get_or s (at + 1) 0) × (y / 256 ≡ z) = (omega arith, omega arith) in
      let r : (z % 256 ≡ get_or s (at + 2) 0) × (z / 256 ≡ get_or s (at + 3) 0) = (omega arith, omega arith) in
      let t : get_or s (at + 3) 0 % 256 ≡ get_or s (at + 3) 0 = omega arith in
      rw (p.0, p.1, q.0, q.1, r.0, r.1, t)

-- Bytes of a word ----------------------------------------------------------------------------

-- a label has none; a struct and a value have those of a word
label_none : (b : Bool) (l : ℕ) (ws : List ℕ) → records_bytes b ((first_mark true + l) ∷ ws) ≡ records_bytes true ws
unfolding records_bytes item_bytes
label_none b l ws = rw (item_bytes, le-leb (first_mark true) (first_mark true + l) (omega arith))

word_some : (b : Bool) (w : ℕ) (ws : List ℕ) → w < first_mark true → records_bytes b (w ∷ ws) ≡ word_bytes b w ++ records_bytes false ws
unfolding records_bytes item_bytes
word_some b w ws h = rw (item_bytes, lt-leb (first_mark true) w h)

label_counts : (l : ℕ) (ws : List ℕ) → line_count ((first_mark true + l) ∷ ws) ≡ suc (line_count ws)
unfolding line_count one_line
label_counts l ws = rw (one_line, le-leb (first_mark true) (first_mark true + l) (omega arith)) (omega arith)

word_counts : (w : ℕ) (ws : List ℕ) → w < first_mark true → line_count (w ∷ ws) ≡ line_count ws
unfolding line_count one_line
word_counts w ws h = rw (one_line, lt-leb (first_mark true) w h) (omega arith)

-- Records ------------------------------------------------------------------------------------

four_off : (s : List ℕ) (at : ℕ) → at + 4 ≤ length s
    → drop at s ≡ get_or s at 0 ∷ get_or s (at + 1) 0 ∷ get_or s (at + 2) 0 ∷ get_or s (at + 3) 0 ∷ drop (at + 4) s
four_off s at h =
    let a : at + 1 + 1 ≡ at + 2 = omega arith in
    let b : at + 2 + 1 ≡ at + 3 = omega arith in
    let c : at + 3 + 1 ≡ at + 4 = omega arith in
    drop_next s at (omega arith) ∙ ap (λ l. get_or s at 0 ∷ l)
    (drop_next s (at + 1) (omega arith) ∙ rw a (ap (λ l. get_or s (at + 1) 0 ∷ l)
    (drop_next s (at + 2) (omega arith) ∙ rw b (ap (λ l. get_or s (at + 2) 0 ∷ l) (drop_next s (at + 3) (omega arith) ∙ rw c refl)))))

module _ (cs ts s : List ℕ) (small : Bytes s) where
  -- values in front of words whose bytes stand behind them
  values_again : (i n at : ℕ) (ws : List ℕ) → at + 4 * n ≤ length s → records_bytes false ws ≡ drop (at + 4 * n) s
      → (records_bytes false (values_words ts s i n at ++ ws) ≡ drop at s) × (line_count (values_words ts s i n at ++ ws) ≡ line_count ws)
  unfolding values_words word_bytes
  values_again i zero at ws h e = let z : at + 4 * 0 ≡ at = omega arith in (rw z at e, refl)
  values_again i (suc n) at ws h e =
      let v = value_word (get_or ts i 0) (quad s at) in
      let b = value_back (get_or ts i 0) (quad s at) (quad_small s small at) in
      let z : at + 4 * suc n ≡ at + 4 + 4 * n = omega arith in
      let r = values_again (i + 1) n (at + 4) ws (omega arith) (rw z at e) in
      let k = values_words ts s (i + 1) n (at + 4) ++ ws in (
        word_some false v k b.0 ∙ rw (word_bytes, b.1, quad_bytes s small at, r.0) (sym (four_off s at (omega arith))),
        word_counts v k b.0 ∙ r.1,
      )

  -- n records
  rows_again : (n l at : ℕ) → Ends cs ts s n at
      → (records_bytes false (rows_words cs ts s n l at) ≡ drop at s) × (line_count (rows_words cs ts s n l at) ≡ n)
  unfolding rows_words row_words Ends records_bytes line_count word_bytes
  rows_again zero l at e = (sym (drop_of_length-le s {i = at} (omega arith)), refl)
  rows_again (suc n) l at e =
      let k = get_or s at 0 in
      let c = arity_at cs ts s at in
      let next = at + 1 + 4 * c in
      let r = rows_again n (l + 1) next e.1 in
      let vs = values_words ts s (max_params * k) c (at + 1) in
      let rest = rows_words cs ts s n (l + 1) next in
      let v = values_again (max_params * k) c (at + 1) rest (omega (arith, e.0)) r.0 in
      let b : k < first_mark true = omega (arith, small at) in
      let m : k % 256 ≡ k = omega (arith, small at) in (
        label_none false l (k ∷ vs ++ rest) ∙ word_some true k (vs ++ rest) b ∙ rw (word_bytes, m, v.0) (sym (drop_next s at (omega (arith, e.0)))),
        label_counts l (k ∷ vs ++ rest) ∙ ap suc (word_counts k (vs ++ rest) b ∙ v.1 ∙ r.1),
      )

  -- a stream whose records end where it does
  pub stream_again : (S : ℕ) → 2 ≤ length s → Ends cs ts s (get_or s 0 0 + 256 * get_or s 1 0) 2 → stream_of (table_words cs ts S s) ≡ s
  unfolding stream_of
  stream_again S h e =
      let n = get_or s 0 0 + 256 * get_or s 1 0 in
      let r = rows_again n S 2 e in
      let a : n % 256 ≡ get_or s 0 0 = omega (arith, small 0, small 1) in
      let d : n / 256 ≡ get_or s 1 0 = omega (arith, small 0, small 1) in
      let b : get_or s 1 0 % 256 ≡ get_or s 1 0 = omega (arith, small 1) in
      rw (stream_of, r.0, r.1, a, d, b) (sym (drop_next s 0 (omega arith) ∙ ap (λ l. get_or s 0 0 ∷ l) (drop_next s 1 (omega arith))))
