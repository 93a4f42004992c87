-- Tables (01, 'Table and turns'): records, their stream, and when a table is right for a program.
use Rattle.std.specs.Prelude.{ℕ, ◌+◌, ◌-◌, ◌<◌, ◌≤◌, ◌≡◌, true, false, List, [], ◌∷◌, ◌++◌, length, get_or, ltb}
use Rattle.std.proofs.Math.Option.{Option, none, some}
use Rattle.std.proofs.Math.ListN.{get_elem?}
use Rattle.types.specs.Limits.{max_instances}
use Rattle.types.specs.Types.{Ty, Ty.int, Ty.nat, Ty.bool, Ty.ref}
use Rattle.types.specs.Values.{Val, Val.int_val, Val.nat_val, Val.bool_val, Val.label, word}
use Rattle.types.specs.TypeBytes.{ValueOf}
use Rattle.program.specs.Encoding.{enc_word, flat}
use Rattle.program.specs.Counts.{All}

-- a record: its struct, and a value for each parameter
pub record Record : Type 0 where
  pub struct : ℕ
  pub values : List Val

-- the bytes of a value, of a record, of a table
abbrev pub value_bytes : ℕ
value_bytes = 4

abbrev pub count_bytes : ℕ
count_bytes = 2

unfoldable pub enc_value : Val → List ℕ
enc_value v = enc_word value_bytes (word v)

unfoldable pub enc_record : Record → List ℕ
enc_record r = r.struct ∷ flat enc_value r.values

unfoldable pub enc_table : List Record → List ℕ
enc_table rs = enc_word count_bytes (length rs) ++ flat enc_record rs

-- one for each type, in order
abbrev pub Each : {A : Type 0} → (Ty → A → Type 0) → List Ty → List A → Type 0
Each P [] [] = Unit {0}
Each P [] (x ∷ xs) = ⊥
Each P (t ∷ ts) [] = ⊥
Each P (t ∷ ts) (x ∷ xs) = (P t x) × (Each P ts xs)

-- a value of a type as four bytes hold it; which label a reference names is judged last
abbrev pub Held : Ty → Val → Type 0
Held t v = ValueOf t v

module _ (pss : List (List Ty)) where
  -- a struct byte below S, a value for each of its parameters
  abbrev pub HeldRecord : Record → Type 0
  HeldRecord r = (r.struct < length pss) × (Each Held (get_or pss r.struct []) r.values)

  -- S + N is at most 256
  unfoldable pub HeldTable : List Record → Type 0
  HeldTable rs = (length rs + length pss ≤ max_instances) × (All HeldRecord rs)

  -- the struct of label l: the null labels are 0 to S − 1, record i is label S + i
  unfoldable pub struct_at : List Record → ℕ → Option ℕ
  struct_at rs l =
      elim (ltb l (length pss)) [
        | true ↦ some l
        | false ↦ elim (get_elem? rs (l - length pss)) [ none ↦ none | some r ↦ some r.struct ]
      ]

  -- a reference names an existing label of its struct; later records and null labels count
  abbrev pub Refers : List Record → Ty → Val → Type 0
  Refers rs int v = Unit {0}
  Refers rs nat v = Unit {0}
  Refers rs bool v = Unit {0}
  Refers rs (ref k) (int_val z) = ⊥
  Refers rs (ref k) (nat_val n) = ⊥
  Refers rs (ref k) (bool_val b) = ⊥
  Refers rs (ref k) (label l) = struct_at rs l ≡ some k

  abbrev pub RefersRecord : List Record → Record → Type 0
  RefersRecord rs r = Each (Refers rs) (get_or pss r.struct []) r.values

  unfoldable pub References : List Record → Type 0
  References rs = All (RefersRecord rs) rs

  -- a table that a run may begin with
  unfoldable pub TableRight : List Record → Type 0
  TableRight rs = (HeldTable rs) × (References rs)
