-- Laws of a table stream as numbers: value after value and record after record.
use Prim.Native.Nat.{ℕ, zero, suc, ◌+◌, ◌*◌, ◌-◌, ◌≤◌, ◌<◌}
use native.Mathlib.Omega.{arith}
use Rattle.std.proofs.Common.{sym, ap, ◌∙◌}
use Rattle.std.specs.Prelude.{◌≡◌, refl, List, ◌++◌, get_or, set}
use Rattle.std.proofs.Math.ListN.{length, length-append}
use Rattle.std.proofs.Math.Seq.{sets}
use Rattle.types.specs.Limits.{max_params}
use Rattle.emit.specs.Laws.WrittenLaws.{sets_append}
use Rattle.table_words.specs.TableWords.{quad, value_word, values_words, arity_at, row_words, rows_words}

pub length_values : (ts s : List ℕ) (i n at : ℕ) → length (values_words ts s i n at) ≡ n
unfolding values_words
length_values ts s i zero at = refl
length_values ts s i (suc n) at = ap suc (length_values ts s (i + 1) n (at + 4))

length_row : (cs ts s : List ℕ) (l at : ℕ) → length (row_words cs ts s l at) ≡ 2 + arity_at cs ts s at
unfolding row_words
length_row cs ts s l at =
    let e = length_values ts s (max_params * get_or s at 0) (arity_at cs ts s at) (at + 1) in omega arith

-- what is written of a record: its label, its struct, its values
pub row_written : (cs ts s out : List ℕ) (l at n : ℕ) {out1 out2 out3 : List ℕ} {k c : ℕ} → k ≡ get_or s at 0 → c ≡ get_or cs k 0
    → out1 ≡ set out n (8589934592 + l)
    → out2 ≡ set out1 (n + 1) k → out3 ≡ sets out2 (n + 2) (values_words ts s (8 * k) c (at + 1))
    → (c ≡ arity_at cs ts s at) × (out3 ≡ sets out n (row_words cs ts s l at))
unfolding row_words
row_written cs ts s out l at n {k = k} {c = c} ek ec e1 e2 e3 =
    let ec1 : c ≡ get_or cs (get_or s at 0) 0 = ec ∙ ap (λ j. get_or cs j 0) ek in
    let a : suc (suc n) ≡ n + 2 = omega arith in
    let b : suc n ≡ n + 1 = omega arith in
    (ec1, e3 ∙ rw (e2, e1, ec1, ek, ← a, ← b))

-- x of m values were written: what is left leads to the whole
pub record ValuesPassed (ts s : List ℕ) (i m at : ℕ) (out₀ : List ℕ) (n : ℕ) (out : List ℕ) (x : ℕ) : Type 0 where
  pub within : x ≤ m
  pub written : sets out (n + x) (values_words ts s (i + x) (m - x) (at + 4 * x)) ≡ sets out₀ n (values_words ts s i m at)

module _ {ts s : List ℕ} {i m at : ℕ} {out₀ : List ℕ} {n : ℕ} {out : List ℕ} {x : ℕ} (r : ValuesPassed ts s i m at out₀ n out x) where
  pub values_end : m ≤ x → out ≡ sets out₀ n (values_words ts s i m at)
  unfolding values_words
  values_end h = let e : m - x ≡ 0 = omega arith in rw e at r.written

  pub values_next : {t w v : ℕ} {out1 : List ℕ} → x < m → t ≡ get_or ts (i + x) 0 → w ≡ quad s (at + 4 * x) → v ≡ value_word t w → out1 ≡ set out (n + x) v
      → ValuesPassed ts s i m at out₀ n out1 (x + 1)
  unfolding values_words
  values_next {v = v} h et ew ev eo =
      let e : m - x ≡ suc (m - (x + 1)) = omega arith in
      let f : suc (n + x) ≡ n + (x + 1) = omega arith in
      let g : i + x + 1 ≡ i + (x + 1) = omega arith in
      let k : at + 4 * x + 4 ≡ at + 4 * (x + 1) = omega arith in
      let z : v ≡ value_word (get_or ts (i + x) 0) (quad s (at + 4 * x)) = ev ∙ rw (et, ew) in
      let q : sets (set out (n + x) (value_word (get_or ts (i + x) 0) (quad s (at + 4 * x)))) (suc (n + x))
      (values_words ts s (i + x + 1) (m - (x + 1)) (at + 4 * x + 4))
      ≡ sets out₀ n (values_words ts s i m at)
      = rw e at r.written in
      record { within = omega arith; written = rw (eo, z, ← f, ← g, ← k) q }

pub values_begin : (ts s : List ℕ) (i m at : ℕ) (out : List ℕ) (n : ℕ) → ValuesPassed ts s i m at out n out 0
values_begin ts s i m at out n =
    let a : n + 0 ≡ n = omega arith in
    let b : i + 0 ≡ i = omega arith in
    let d : m - 0 ≡ m = omega arith in
    let e : at + 4 * 0 ≡ at = omega arith in
    record { within = omega arith; written = rw (a, b, d, e) }

-- i of m records were written
pub record RowsPassed (cs ts s : List ℕ) (S m : ℕ) (out₀ out : List ℕ) (at n i : ℕ) : Type 0 where
  pub within : i ≤ m
  pub near : at ≤ 2 + 1021 * i
  pub few : n ≤ 257 * i
  pub count : n + length (rows_words cs ts s (m - i) (S + i) at) ≡ length (rows_words cs ts s m S 2)
  pub written : sets out n (rows_words cs ts s (m - i) (S + i) at) ≡ sets out₀ 0 (rows_words cs ts s m S 2)

pub rows_begin : (cs ts s : List ℕ) (S m : ℕ) (out : List ℕ) → RowsPassed cs ts s S m out out 2 0 0
rows_begin cs ts s S m out =
    let d : m - 0 ≡ m = omega arith in
    let a : S + 0 ≡ S = omega arith in
    record { within = omega arith; near = omega arith; few = omega arith; count = rw (d, a) (omega arith); written = rw (d, a) }

module _ {cs ts s : List ℕ} {S m : ℕ} {out₀ out : List ℕ} {at n i : ℕ} (r : RowsPassed cs ts s S m out₀ out at n i) where
  pub rows_end : m ≤ i → (n ≡ length (rows_words cs ts s m S 2)) × (out ≡ sets out₀ 0 (rows_words cs ts s m S 2))
  unfolding rows_words
  rows_end h = let e : m - i ≡ 0 = omega arith in (omega (arith, rw e at r.count), rw e at r.written)

  pub rows_next : {c : ℕ} {out1 : List ℕ} → i < m → c ≡ arity_at cs ts s at → c < 256 → out1 ≡ sets out n (row_words cs ts s (S + i) at)
      → RowsPassed cs ts s S m out₀ out1 (at + 1 + 4 * c) (n + 2 + c) (i + 1)
  unfolding rows_words
  rows_next {c} {out1} h ec small f =
      let e : m - i ≡ suc (m - (i + 1)) = omega arith in
      let g : S + i + 1 ≡ S + (i + 1) = omega arith in
      let w = row_words cs ts s (S + i) at in
      let rest = rows_words cs ts s (m - (i + 1)) (S + (i + 1)) (at + 1 + 4 * c) in
      let l : length w ≡ 2 + c = length_row cs ts s (S + i) at ∙ rw (← ec) in
      let q : n + length (w ++ rest) ≡ length (rows_words cs ts s m S 2) = rw (ec, ← g) (rw e at r.count) in
      let p : sets out n (w ++ rest) ≡ sets out₀ 0 (rows_words cs ts s m S 2) = rw (ec, ← g) (rw e at r.written) in
      let d : n + length w ≡ n + 2 + c = omega arith in
      record {
        within = omega arith;
        near = omega (arith, r.near);
        few = omega (arith, r.few);
        count = omega (arith, q, l, length-append w rest);
        written = rw (f, ← d) (sym (sets_append out n w rest) ∙ p);
      }
