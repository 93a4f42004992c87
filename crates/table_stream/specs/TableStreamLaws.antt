-- Laws of numbers as a table stream: word after word.
use Rattle.std.specs.Prelude.{ℕ, suc, ◌+◌, ◌*◌, ◌/◌, ◌%◌, ◌≤◌, ◌<◌, ◌≡◌, refl, Bool, List, ◌∷◌, ◌++◌, get_or, drop, replicate}
use native.Mathlib.Omega.{arith}
use Rattle.std.proofs.Common.{add-one, sym, ap, ◌∙◌, drop-cons}
use Rattle.std.proofs.Math.Bool.{false}
use Rattle.std.proofs.Math.ListN.{length, set, length-append, drop_of_length-le}
use Rattle.std.proofs.Math.Seq.{sets}
use borrow.Author.Tests.{eq-eqb, ne_eqb}
use Rattle.little_endian.specs.Numbers.{bytes_of}
use Rattle.emit.specs.Laws.WrittenLaws.{sets_append, set_sets}
use Rattle.program.specs.Encoding.{enc_word}
use Rattle.table_stream.specs.TableStream.{begins, item_bytes, one_line, records_bytes, line_count, stream_of, agreed_from}

-- i words were taken: those left lead to the records and the lines of all
pub record Taken (ws out₀ out : List ℕ) (at : ℕ) (struct : Bool) (lines i : ℕ) : Type 0 where
  pub within : i ≤ length ws
  pub near : at ≤ 2 + 4 * i
  pub few : lines ≤ i
  pub count : at + length (records_bytes struct (drop i ws)) ≡ 2 + length (records_bytes false ws)
  pub counted : lines + line_count (drop i ws) ≡ line_count ws
  pub written : sets out at (records_bytes struct (drop i ws)) ≡ sets out₀ 2 (records_bytes false ws)

pub taken_begin : (ws out : List ℕ) → Taken ws out out 2 false 0 0
taken_begin ws out =
    record { within = omega arith; near = omega arith; few = omega arith; count = refl; counted = omega arith; written = refl }

module _ {ws out₀ out : List ℕ} {at : ℕ} {struct : Bool} {lines i : ℕ} (r : Taken ws out₀ out at struct lines i) where
  module _ (h : i < length ws) where
    next : drop i ws ≡ get_or ws i 0 ∷ drop (i + 1) ws
    next = rw (add-one, drop-cons ws i 0)

    pub taken_next : {at1 : ℕ} {out1 : List ℕ}
        → (at1 ≡ at + length (item_bytes struct (get_or ws i 0))) × (out1 ≡ sets out at (item_bytes struct (get_or ws i 0))) → at1 ≤ at + 4
        → one_line (get_or ws i 0) ≤ 1 → Taken ws out₀ out1 at1 (begins (get_or ws i 0)) (lines + one_line (get_or ws i 0)) (i + 1)
    unfolding records_bytes line_count
    taken_next (ea, eo) few4 one =
        let b = item_bytes struct (get_or ws i 0) in
        let u = records_bytes (begins (get_or ws i 0)) (drop (i + 1) ws) in
        let c : at + length (b ++ u) ≡ 2 + length (records_bytes false ws) = rw next at r.count in
        let l : lines + (one_line (get_or ws i 0) + line_count (drop (i + 1) ws)) ≡ line_count ws = rw next at r.counted in
        let w : sets out at (b ++ u) ≡ sets out₀ 2 (records_bytes false ws) = rw next at r.written in
        record {
          within = omega arith;
          near = omega (arith, r.near);
          few = omega (arith, r.few);
          count = omega (arith, c, ea, length-append b u);
          counted = omega arith;
          written = rw (eo, ea) (sym (sets_append out at b u) ∙ w);
        }

  -- behind the last word the number of lines is put in front
  pub taken_end : {out1 out2 b : List ℕ} → length ws ≤ i → b ≡ sets (replicate 2 0) 0 (bytes_of 2 lines) → out1 ≡ set out 0 (get_or b 0 0)
      → out2 ≡ set out1 1 (get_or b 1 0)
      → (at ≡ length (stream_of ws)) × (out2 ≡ sets out₀ 0 (stream_of ws))
  unfolding records_bytes line_count stream_of bytes_of
  taken_end h e e1 e2 =
      let d = drop_of_length-le ws {i = i} h in
      let c : at + 0 ≡ 2 + length (records_bytes false ws) = rw d at r.count in
      let l : lines + 0 ≡ line_count ws = rw d at r.counted in
      let l1 : lines ≡ line_count ws = omega arith in
      let w : out ≡ sets out₀ 2 (records_bytes false ws) = rw d at r.written in
      let a = line_count ws % 256 in
      let b = line_count ws / 256 % 256 in
      let x = records_bytes false ws in
      (omega arith, e2 ∙ rw (e1, e, w, l1) (ap (λ o. set o 1 b) (set_sets out₀ 0 2 a x (omega arith)) ∙ set_sets (set out₀ 0 a) 1 2 b x (omega arith)))

-- the first i words agree
pub record Agree (xs ys : List ℕ) (i : ℕ) : Type 0 where
  pub within : i ≤ length xs
  pub left : agreed_from i (drop i xs) (drop i ys) ≡ agreed_from 0 xs ys

module _ {xs ys : List ℕ} {i : ℕ} (r : Agree xs ys i) where
  pub agree_end : length xs ≤ i → i ≡ agreed_from 0 xs ys
  unfolding agreed_from
  agree_end h = let d = drop_of_length-le xs {i = i} h in rw d at r.left

  module _ (h : i < length xs) where
    next_x : drop i xs ≡ get_or xs i 0 ∷ drop (i + 1) xs
    next_x = rw (add-one, drop-cons xs i 0)

    pub agree_short : length ys ≤ i → i ≡ agreed_from 0 xs ys
    unfolding agreed_from
    agree_short g = let d = drop_of_length-le ys {i = i} g in rw (next_x, d) at r.left

    module _ (g : i < length ys) where
      next_y : drop i ys ≡ get_or ys i 0 ∷ drop (i + 1) ys
      next_y = rw (add-one, drop-cons ys i 0)

      pub agree_stop : (get_or xs i 0 ≡ get_or ys i 0 → ⊥) → i ≡ agreed_from 0 xs ys
      unfolding agreed_from
      agree_stop n = let t = ne_eqb (get_or xs i 0) (get_or ys i 0) n in rw (next_x, next_y, agreed_from, t) at r.left

      pub agree_next : get_or xs i 0 ≡ get_or ys i 0 → Agree xs ys (i + 1)
      unfolding agreed_from
      agree_next n =
          let t = eq-eqb (get_or xs i 0) (get_or ys i 0) n in
          record { within = omega arith; left = rw (next_x, next_y, agreed_from, t) at r.left }

-- four bytes one behind the other are a number's
pub word_put : (out : List ℕ) (at w : ℕ) {o1 o2 o3 o4 b : List ℕ} → b ≡ sets (replicate 4 0) 0 (bytes_of 4 w) → o1 ≡ set out at (get_or b 0 0)
    → o2 ≡ set o1 (at + 1) (get_or b 1 0) → o3 ≡ set o2 (at + 2) (get_or b 2 0) → o4 ≡ set o3 (at + 3) (get_or b 3 0) → o4 ≡ sets out at (enc_word 4 w)
unfolding enc_word bytes_of
word_put out at w e e1 e2 e3 e4 =
    let a : suc at ≡ at + 1 = omega arith in
    let b : suc (suc at) ≡ at + 2 = omega arith in
    let c : suc (suc (suc at)) ≡ at + 3 = omega arith in
    e4 ∙ rw (e3, e2, e1, e, ← a, ← b, ← c)
