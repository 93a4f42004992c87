-- How a table stream is read (01, 'Table and turns'; 11 and 12 of 'Numbers from the input'): by place, references last.
use Rattle.std.specs.Prelude.{ℕ, ◌+◌, ◌-◌, Bool, true, false, ◌&&◌, List, [], ◌∷◌, length, get_or, ltb, leb, eqb}
use Rattle.std.proofs.Math.Option.{Option, none, some}
use Rattle.types.specs.Limits.{max_instances}
pub use Rattle.types.specs.Numbers.{table_end, table_value}
use Rattle.types.specs.Stages.{Stage, Stage.went as table, Stage.stopped as no_table}
use Rattle.types.specs.Types.{Ty, Ty.int, Ty.nat, Ty.bool, Ty.ref}
use Rattle.types.specs.TypeBytes.{word_end}
use Rattle.types.specs.Values.{Val, Val.int_val, Val.nat_val, Val.bool_val, Val.label, value_of}
use Rattle.program.specs.Reader.{Result, Result.ok, Result.bad, wrong_end, then, pair, made, many, guard, whole, ranged, read_word}
use Rattle.table.specs.Table.{Record, value_bytes, count_bytes, struct_at}

-- a Bool is the number 0 or 1; any other value may be any number of four bytes
abbrev pub allowed : Ty → ℕ → Bool
allowed t w = ltb w (word_end t)

module _ (s : List ℕ) where
  -- a value is judged at its last byte: one that is cut short is 11 whatever its first bytes are
  unfoldable pub read_value : Ty → ℕ → Result Val
  read_value t at = made (value_of t) (then (read_word s value_bytes at) λ w k. guard (allowed t w) (k - 1) w k)

  -- a value for each type
  unfoldable pub read_values : List Ty → ℕ → Result (List Val)
  read_values [] at = ok [] at
  read_values (t ∷ ts) at = made (λ p. p.0 ∷ p.1) (pair (read_value t at) λ v k. read_values ts k)

module _ (pss : List (List Ty)) (s : List ℕ) where
  unfoldable pub read_record : ℕ → Result Record
  read_record at =
      made (λ p. record { struct = p.0; values = p.1 })
      (pair (ranged s 0 (length pss) at) λ k m. read_values s (get_or pss k []) m)

  -- N, where S + N is at most 256
  unfoldable pub read_count : ℕ → Result ℕ
  read_count at = then (read_word s count_bytes at) λ n k. guard (leb (n + length pss) max_instances) (k - 1) n k

  unfoldable pub read_table : ℕ → Result (List Record)
  read_table at = then (read_count at) λ n k. many [] ◌∷◌ read_record n k

-- References, judged after everything else ------------------------------------------

unfoldable pub is_struct : Option ℕ → ℕ → Bool
is_struct none k = false
is_struct (some j) k = eqb j k

unfoldable pub refers : List (List Ty) → List Record → Ty → Val → Bool
refers pss rs int v = true
refers pss rs nat v = true
refers pss rs bool v = true
refers pss rs (ref k) (int_val z) = false
refers pss rs (ref k) (nat_val n) = false
refers pss rs (ref k) (bool_val b) = false
refers pss rs (ref k) (label l) = is_struct (struct_at pss rs l) k

unfoldable pub refers_each : List (List Ty) → List Record → List Ty → List Val → Bool
refers_each pss rs [] [] = true
refers_each pss rs [] (v ∷ vs) = false
refers_each pss rs (t ∷ ts) [] = false
refers_each pss rs (t ∷ ts) (v ∷ vs) = refers pss rs t v && refers_each pss rs ts vs

-- of the records qs of a table rs
unfoldable pub references : List (List Ty) → List Record → List Record → Bool
references pss rs [] = true
references pss rs (q ∷ qs) = refers_each pss rs (get_or pss q.struct []) q.values && references pss rs qs

-- What a table stream comes to: the table, or 11 or 12 ----------------------------------

abbrev pub TableAnswer : Type 0
TableAnswer = Stage (List Record)

unfoldable pub table_number : ℕ → ℕ
table_number n = elim (eqb n wrong_end) [ true ↦ table_end | false ↦ table_value ]

unfoldable pub table_answer : List (List Ty) → Result (List Record) → TableAnswer
table_answer pss (bad at n) = no_table (table_number n)
table_answer pss (ok rs at) = elim (references pss rs rs) [ true ↦ table rs | false ↦ no_table table_value ]

unfoldable pub table_of_stream : List (List Ty) → List ℕ → TableAnswer
table_of_stream pss s = table_answer pss (whole (read_table pss) s)
