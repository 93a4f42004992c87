-- Whole and allowed fields are the beginning of some table's stream, and with a field that is not allowed behind them of none (01,
-- 'Table and turns'; 11 and 12 of 'Numbers from the input'): the place of a 12 is the first field with which no table goes on.
use Prim.Native.Nat.{ℕ, zero, suc, ◌+◌, ◌-◌, ◌^◌, ◌<◌, ◌≤◌}
use native.Mathlib.Omega.{arith}
use Rattle.std.specs.Prelude.{◌≡◌, refl, get_or}
use Rattle.std.proofs.Common.{sym, ◌∙◌}
use Rattle.std.proofs.Math.Path.{ap}
use mathlib.Core.List.{List, [], ◌∷◌, ◌++◌, map, append_assoc}
use Rattle.std.proofs.Math.ListN.{length, replicate, length-append, length-replicate}
use Rattle.types.specs.Limits.{max_instances}
use Rattle.types.specs.Types.{Ty, Ty.int, Ty.nat, Ty.bool, Ty.ref}
use Rattle.types.specs.TypeBytes.{word_end}
use Rattle.types.specs.Values.{Val, value_of}
use Rattle.types.proofs.Laws.ValueLaws.{value_in_range}
use Rattle.program.specs.Encoding.{enc_word, flat}
use Rattle.program.specs.Counts.{All}
use Rattle.program.specs.Reader.{wrong_byte}
use Rattle.program.proofs.Laws.StandsLaws.{stands_self}
use Rattle.table.specs.Table.{Record, count_bytes, enc_value, enc_record, enc_table, Each, Held, HeldRecord, HeldTable}
use Rattle.table.specs.TableFaults.{Field, field_bytes, byte_values, Allowed, Front, Front.at_count, Front.at_struct, Front.at_value}
use Rattle.table.proofs.Laws.FieldLaws.{NumberFault.unfit}
use Rattle.table.proofs.Laws.TableExact.{table_exact}
use Rattle.table.proofs.TableRefusing.{FieldAtFault.at_fault, table_refusing}

-- in a row
flat_append : {A : Type 0} (E : A → List ℕ) (l m : List A) → flat E (l ++ m) ≡ flat E l ++ flat E m
unfolding flat
flat_append E [] m = refl
flat_append E (a ∷ l) m = rw (flat_append E l m) (sym (append_assoc (E a) (flat E l) (flat E m)))

all_append : {A : Type 0} (C : A → Type 0) (l m : List A) → All C l → All C m → All C (l ++ m)
all_append C [] m h k = k
all_append C (a ∷ l) m h k = (h.0, all_append C l m h.1 k)

each_append : (ts us : List Ty) (vs ws : List Val) → Each Held ts vs → Each Held us ws → Each Held (ts ++ us) (vs ++ ws)
each_append [] us [] ws h k = k
each_append (t ∷ ts) us (v ∷ vs) ws h k = (h.0, each_append ts us vs ws h.1 k)
each_append [] us (v ∷ vs) ws h k = elim h [ ]
each_append (t ∷ ts) us [] ws h k = elim h [ ]

-- a value of each type, to go on with
abbrev zeros : List Ty → List Val
zeros ts = map (λ t. value_of t 0) ts

some_word : (t : Ty) → 0 < word_end t
unfolding word_end
some_word int = omega arith
some_word nat = omega arith
some_word bool = omega arith
some_word (ref k) = omega arith

zeros_held : (ts : List Ty) → Each Held ts (zeros ts)
zeros_held [] = tt
zeros_held (t ∷ ts) = (value_in_range t 0 (some_word t), zeros_held ts)

module _ (pss : List (List Ty)) where
  -- records of struct 0 to go on with
  abbrev blank : Record
  blank = record { struct = 0; values = zeros (get_or pss 0 []) }

  blanks_held : 0 < length pss → (n : ℕ) → All (HeldRecord pss) (replicate n blank)
  blanks_held h zero = tt
  blanks_held h (suc n) = ((h, zeros_held (get_or pss 0 [])), blanks_held h n)

  -- N and its records in two parts
  completed : (n : ℕ) (rs qs : List Record) → n + length pss ≤ max_instances → length rs + length qs ≡ n
      → All (HeldRecord pss) rs → All (HeldRecord pss) qs
      → (HeldTable pss (rs ++ qs)) × (enc_word count_bytes n ++ flat enc_record rs ++ flat enc_record qs ≡ enc_table (rs ++ qs))
  unfolding HeldTable enc_table
  completed n rs qs c e a b =
      let l : length (rs ++ qs) ≡ n = length-append rs qs ∙ e in (
        (rw l c, all_append (HeldRecord pss) rs qs a b),
        rw (l, flat_append enc_record rs qs) (append_assoc (enc_word count_bytes n) (flat enc_record rs) (flat enc_record qs)),
      )

  -- a stream that some table's goes on from
  abbrev pub Viable : List ℕ → Type 0
  Viable u = (t : List ℕ) × (rs : List Record) × (HeldTable pss rs) × (u ++ t ≡ enc_table rs)

  -- whole and allowed fields are the beginning of a table, where there is a struct
  pub front_viable : 0 < length pss → length pss ≤ max_instances → {u : List ℕ} {f : Field} → Front pss u f → Viable u
  unfolding HeldTable enc_record flat
  front_viable s l at_count = (enc_table [], [], (omega arith, tt), refl)
  front_viable s l (at_struct n rs c a h e) =
      let qs = replicate (n - length rs) blank in
      let p = completed n rs qs c (omega (arith, length-replicate (n - length rs) blank)) a (blanks_held s (n - length rs)) in
      (flat enc_record qs, rs ++ qs, p.0, rw e p.1)
  front_viable s l (at_value k {t = t} ts us vs (at_struct n rs c a h e) d g m o) =
      let r : Record = record { struct = k; values = vs ++ zeros (t ∷ us) } in
      let b : HeldRecord pss r = (d, rw g (each_append ts (t ∷ us) vs (zeros (t ∷ us)) m (zeros_held (t ∷ us)))) in
      let i = n - suc (length rs) in
      let qs = replicate i blank in
      let p = completed n rs (r ∷ qs) c (omega (arith, length-replicate i blank)) a (b, blanks_held s i) in
      let q = regroup k vs (zeros (t ∷ us)) qs (enc_word count_bytes n ++ flat enc_record rs) in
      (flat enc_value (zeros (t ∷ us)) ++ flat enc_record qs, rs ++ r ∷ qs, p.0, rw (o, e) (q ∙ p.1))
    where
      regroup : (k : ℕ) (vs ws : List Val) (qs : List Record) (x : List ℕ)
          → x ++ k ∷ flat enc_value vs ++ (flat enc_value ws ++ flat enc_record qs)
          ≡ x ++ (k ∷ flat enc_value (vs ++ ws) ++ flat enc_record qs)
      regroup k vs ws qs x =
          append_assoc x (k ∷ flat enc_value vs) (flat enc_value ws ++ flat enc_record qs)
          ∙ ap (λ y. x ++ k ∷ y)
          (sym (append_assoc (flat enc_value vs) (flat enc_value ws) (flat enc_record qs))
          ∙ ap (λ z. z ++ flat enc_record qs) (sym (flat_append enc_value vs ws)))

  -- with a field behind them that is not allowed no table goes on
  pub offending_final : {u : List ℕ} {f : Field} (w : ℕ) → Front pss u f → w < byte_values ^ field_bytes f → (Allowed pss f w → ⊥)
      → Viable (u ++ enc_word (field_bytes f) w) → ⊥
  offending_final {u} {f} w h l n (t, rs, c, e) =
      let xs = enc_word (field_bytes f) w in
      let q = (table_refusing pss).complete (enc_table rs) 0 wrong_byte
      (at_fault f u (xs ++ t) h (unfit w t l n refl) (sym e ∙ append_assoc u xs t)) in
      let p = (table_exact pss).complete (enc_table rs) rs 0 (length (enc_table rs)) c (stands_self (enc_table rs)) in
      let d = q.1 in
      let z : ◌≡◌ {A = ℕ} 0 1 = cc in
      omega arith
