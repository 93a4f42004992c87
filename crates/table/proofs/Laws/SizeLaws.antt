-- A table stream is as long as its records say, fits its blocks, and is made of bytes (01, 'Table and turns').
use Rattle.std.specs.Prelude.{ℕ, zero, suc, ◌*◌, ◌/◌, ◌%◌, ◌<◌, ◌≤◌, ◌≡◌, length, get_or}
use native.Mathlib.Omega.{arith}
use Rattle.std.proofs.Math.Path.{refl}
use Rattle.std.proofs.Common.{ap}
use mathlib.Core.List.{List, [], ◌∷◌, ◌++◌}
use Rattle.std.proofs.Math.ListN.{length-append}
use Rattle.types.specs.Limits.{max_params}
use Rattle.little_endian.specs.Numbers.{bytes_of}
use Rattle.types.specs.Types.{Ty, IsType}
use Rattle.types.specs.Values.{Val, word}
use Rattle.program.specs.Tree.{Program}
use Rattle.program.specs.Encoding.{enc_word, flat}
use Rattle.program.specs.Counts.{All, Few, Counts}
use Rattle.program.specs.Reader.{byte_end}
use Rattle.table.specs.Table.{Record, value_bytes, count_bytes, enc_value, enc_record, enc_table, Each, Held, HeldRecord, HeldTable}
use Rattle.table.specs.Sizes.{most_record, most_stream, record_size, records_size, table_size}

-- Lengths ------------------------------------------------------------------------

pub word_length : (i v : ℕ) → length (enc_word i v) ≡ i
unfolding enc_word
word_length zero v = refl
word_length (suc i) v = ap suc (word_length i (v / 256))

-- the bytes of a number as they are stored
pub stored_word : (i v : ℕ) → bytes_of i v ≡ enc_word i v
unfolding bytes_of enc_word
stored_word zero v = refl
stored_word (suc i) v = ap (λ (bs : List ℕ). v % 256 ∷ bs) (stored_word i (v / 256))

values_length : (vs : List Val) → length (flat enc_value vs) ≡ value_bytes * length vs
unfolding flat enc_value
values_length [] = refl
values_length (v ∷ vs) = simp length-append (omega (arith, word_length value_bytes (word v), values_length vs))

-- as many things as types
pub each_length : {A : Type 0} (P : Ty → A → Type 0) (ts : List Ty) (xs : List A) → Each P ts xs → length xs ≡ length ts
each_length P [] [] h = refl
each_length P (t ∷ ts) (x ∷ xs) h = ap suc (each_length P ts xs h.1)
each_length {A = A} P [] (x ∷ xs) h = elim h [ ]
each_length {A = A} P (t ∷ ts) [] h = elim h [ ]

-- where every struct has at most n parameters, so has the one that a byte names
pub few_params : (n : ℕ) (pss : List (List Ty)) → All (λ ps. length ps ≤ n) pss → (k : ℕ) → length (get_or pss k []) ≤ n
few_params n [] h k = omega arith
few_params n (ps ∷ pss) h zero = h.0
few_params n (ps ∷ pss) h (suc k) = few_params n pss h.1 k

module _ (pss : List (List Ty)) where
  record_length : (r : Record) → HeldRecord pss r → length (enc_record r) ≡ record_size pss r
  unfolding enc_record record_size
  record_length r h = omega (arith, values_length r.values, each_length Held (get_or pss r.struct []) r.values h.1)

  records_length : (rs : List Record) → All (HeldRecord pss) rs → length (flat enc_record rs) ≡ records_size pss rs
  unfolding flat records_size
  records_length [] h = refl
  records_length (r ∷ rs) h = simp length-append (omega (arith, record_length r h.0, records_length rs h.1))

  -- the stream of a held table has the bytes of N and of each record
  pub table_length : (rs : List Record) → HeldTable pss rs → length (enc_table rs) ≡ table_size pss rs
  unfolding enc_table table_size HeldTable
  table_length rs h = simp length-append (omega (arith, word_length count_bytes (length rs), records_length rs h.1))

  module _ (few : All (λ ps. length ps ≤ max_params) pss) where
    records_bound : (rs : List Record) → records_size pss rs ≤ length rs * most_record
    unfolding records_size record_size
    records_bound [] = omega arith
    records_bound (r ∷ rs) = omega (arith, few_params max_params pss few r.struct, records_bound rs)

    -- at most 256 of the longest records, and N
    pub table_bound : (rs : List Record) → HeldTable pss rs → length (enc_table rs) ≤ most_stream
    unfolding table_size HeldTable
    table_bound rs h = omega (arith, table_length rs h, records_bound rs)

    -- a held table fits the payload of 17 blocks, 504 bytes each
    pub table_fits : (rs : List Record) → HeldTable pss rs → length (enc_table rs) ≤ 8568
    table_fits rs h = omega (arith, table_bound rs h)

params_few : (S : ℕ) (pss : List (List Ty)) → All (Few 0 max_params (IsType S)) pss → All (λ ps. length ps ≤ max_params) pss
params_few S [] h = tt
params_few S (ps ∷ pss) h = (h.0.1, params_few S pss h.1)

-- so does every held table of a program that keeps to its counts
pub program_table_fits : (p : Program) → Counts p → (rs : List Record) → HeldTable p.params rs → length (enc_table rs) ≤ 8568
unfolding Counts
program_table_fits p c rs h = table_fits p.params (params_few (length p.params) p.params c.0.2) rs h

-- Bytes --------------------------------------------------------------------------

abbrev pub Bytes : List ℕ → Type 0
Bytes s = All (λ b. b < byte_end) s

bytes_both : (xs ys : List ℕ) → Bytes xs → Bytes ys → Bytes (xs ++ ys)
bytes_both [] ys h k = k
bytes_both (x ∷ xs) ys h k = (h.0, bytes_both xs ys h.1 k)

bytes_word : (i v : ℕ) → Bytes (enc_word i v)
unfolding enc_word
bytes_word zero v = tt
bytes_word (suc i) v = (omega arith, bytes_word i (v / 256))

bytes_values : (vs : List Val) → Bytes (flat enc_value vs)
unfolding flat enc_value
bytes_values [] = tt
bytes_values (v ∷ vs) = bytes_both (enc_value v) (flat enc_value vs) (bytes_word value_bytes (word v)) (bytes_values vs)

-- every byte of a held table is below 256
pub table_bytes : (pss : List (List Ty)) (rs : List Record) → HeldTable pss rs → Bytes (enc_table rs)
unfolding enc_table enc_record flat HeldTable
table_bytes pss rs h =
    bytes_both (enc_word count_bytes (length rs)) (flat enc_record rs) (bytes_word count_bytes (length rs)) (records rs h.1)
  where
    records : (qs : List Record) → All (HeldRecord pss) qs → Bytes (flat enc_record qs)
    records [] c = tt
    records (q ∷ qs) c = (omega arith, bytes_both (flat enc_value q.values) (flat enc_record qs) (bytes_values q.values) (records qs c.1))
