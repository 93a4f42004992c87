-- The readers of a table refuse what its fields are at fault with, the first of them that is (01, 'Table and turns'; 11 and 12 of
-- 'Numbers from the input').
use Rattle.std.specs.Prelude.{ℕ, ◌+◌, ◌<◌, ◌≤◌, get_or}
use native.Mathlib.Omega.{arith}
use Rattle.std.proofs.Math.Path.{◌≡◌, refl}
use Rattle.std.proofs.Common.{sym, ◌∙◌, leb→le}
use mathlib.Core.List.{List, [], ◌∷◌, ◌++◌, append_assoc}
use Rattle.std.proofs.Math.ListN.{length}
use Rattle.std.proofs.Math.Dec.{leb, le→leb}
use Rattle.types.specs.Limits.{max_instances}
use Rattle.types.specs.Types.{Ty}
use Rattle.types.specs.Values.{Val, value_of}
use Rattle.program.specs.Encoding.{enc_word, flat}
use Rattle.program.proofs.Laws.WordLaws.{below_exact}
use Rattle.table.specs.Table.{Record, value_bytes, count_bytes, enc_value, enc_record, Each, Held, HeldRecord}
use Rattle.table.specs.TableFaults.{Field, Field.count, Field.struct_byte, Field.value, field_bytes, Allowed, Front, Front.at_count}
use Rattle.table.specs.TableFaults.{Front.at_struct, Front.at_value}
use Rattle.table.specs.TableReader.{allowed, read_value, read_values, read_record, read_count, read_table}
use Rattle.table.proofs.Laws.ValueLaws.{value_of_word, word_of_value}
use Rattle.table.specs.Refusing.{Refusing, Joined, Joined.in_first, Joined.in_second, InRow, InRow.in_row}
use Rattle.table.proofs.Laws.RefusingLaws.{refusing_iff, made_refusing, ok_refusing, then_refusing, pair_refusing, row_refusing}
use Rattle.table.proofs.Laws.FieldLaws.{NumberFault, number_refusing, byte_refusing}
use Rattle.table.proofs.Laws.TableExact.{value_exact, record_exact, count_exact}

module _ (pss : List (List Ty)) where
  -- a field is cut, or not allowed
  abbrev pub Fault : Field → ℕ → List ℕ → Type 0
  Fault f = NumberFault (field_bytes f) (Allowed pss f)

  -- values for the first of some types stand there, and the next is at fault
  data InValues (ts : List Ty) (k : ℕ) (x : List ℕ) : Type 0 where
    in_values : (before : List Ty) (t : Ty) (behind : List Ty) (vs : List Val) (u : List ℕ) → ts ≡ before ++ t ∷ behind
        → Each Held before vs → x ≡ flat enc_value vs ++ u → Fault (value t) k u → InValues ts k x

  value_refusing : (t : Ty) → Refusing (λ s. read_value s t) (Fault (value t))
  unfolding read_value
  value_refusing t =
      made_refusing
      (number_refusing value_bytes (allowed t) λ w h. (
        λ a. let p = word_of_value t w h a in (value_of t w, p.0, p.1),
        λ p. rw p.2 at (value_of_word t p.0 p.1).1,
      ))
      (value_of t)

  values_refusing : (ts : List Ty) → Refusing (λ s. read_values s ts) (InValues ts)
  unfolding read_values flat
  values_refusing [] = refusing_iff (ok_refusing []) λ k x. (λ p. absurd p, none k x)
    where
      none : (k : ℕ) (x : List ℕ) → InValues [] k x → ⊥
      none k x (in_values [] t us vs u e h d f) = let z : ◌≡◌ {A = ℕ} 0 1 = cc in omega arith
      none k x (in_values (b ∷ bs) t us vs u e h d f) = let z : ◌≡◌ {A = ℕ} 0 1 = cc in omega arith
  values_refusing (t ∷ ts) =
      made_refusing
      (refusing_iff (pair_refusing (value_exact t) (value_refusing t) λ v h. values_refusing ts) λ k x. (forth k x, back k x))
      (λ p. p.0 ∷ p.1)
    where
      forth : (k : ℕ) (x : List ℕ) → Joined (Held t) enc_value (Fault (value t)) (λ v. InValues ts) k x → InValues (t ∷ ts) k x
      forth k x (in_first p) = in_values [] t ts [] x refl tt refl p
      forth k x (in_second v y h e (in_values bs b us vs u d g i f)) =
          in_values (t ∷ bs) b us (v ∷ vs) u (rw d) (h, g) (rw (e, i) (sym (append_assoc (enc_value v) (flat enc_value vs) u))) f

      back : (k : ℕ) (x : List ℕ) → InValues (t ∷ ts) k x → Joined (Held t) enc_value (Fault (value t)) (λ v. InValues ts) k x
      back k x (in_values [] b us [] u d g i f) = let e : t ≡ b = cc in in_first (rw (i, e) f)
      back k x (in_values (c ∷ bs) b us (v ∷ vs) u d g i f) =
          let e : t ≡ c = cc in
          let h : ts ≡ bs ++ b ∷ us = cc in
          let q = append_assoc (enc_value v) (flat enc_value vs) u in
          in_second v (flat enc_value vs ++ u) (rw e g.0) (rw i q) (in_values bs b us vs u h g.1 refl f)
      back k x (in_values [] b us (v ∷ vs) u d g i f) = elim g [ ]
      back k x (in_values (c ∷ bs) b us [] u d g i f) = elim g [ ]

  -- a record: its struct byte, or a value behind it
  abbrev RecordFault : ℕ → List ℕ → Type 0
  RecordFault = Joined (λ k. k < length pss) (λ k. k ∷ []) (Fault struct_byte) (λ k. InValues (get_or pss k []))

  record_refusing : length pss ≤ 256 → Refusing (λ s. read_record pss s) RecordFault
  unfolding read_record
  record_refusing l =
      made_refusing (pair_refusing (below_exact (length pss)) (byte_refusing (length pss) l) λ k h. values_refusing (get_or pss k []))
      (λ p. record { struct = p.0; values = p.1 })

  count_refusing : Refusing (λ s. read_count pss s) (Fault count)
  unfolding read_count
  count_refusing =
      number_refusing count_bytes (λ n. leb (n + length pss) max_instances)
      λ n h. (leb→le (n + length pss) max_instances, le→leb (n + length pss) max_instances)

  -- the first field at fault of a table, behind whole and allowed ones
  pub data FieldAtFault (k : ℕ) (s : List ℕ) : Type 0 where
    at_fault : (f : Field) (u t : List ℕ) → Front pss u f → Fault f k t → s ≡ u ++ t → FieldAtFault k s

  -- what the parts of a table's reader refuse: N, or a field of a record behind it
  abbrev TableFault : ℕ → List ℕ → Type 0
  TableFault =
      Joined (λ n. n + length pss ≤ max_instances) (enc_word count_bytes) (Fault count) (λ n. InRow (HeldRecord pss) enc_record RecordFault n)

  -- N and records in front of what follows, regrouped
  in_front : (n : ℕ) (rs : List Record) (t : List ℕ)
      → enc_word count_bytes n ++ flat enc_record rs ++ t ≡ enc_word count_bytes n ++ (flat enc_record rs ++ t)
  in_front n rs t = append_assoc (enc_word count_bytes n) (flat enc_record rs) t

  -- and so with a struct byte and values
  in_record : (n : ℕ) (rs : List Record) (k : ℕ) (vs : List Val) (t : List ℕ)
      → (enc_word count_bytes n ++ flat enc_record rs) ++ k ∷ flat enc_value vs ++ t
      ≡ enc_word count_bytes n ++ (flat enc_record rs ++ k ∷ (flat enc_value vs ++ t))
  in_record n rs k vs t =
      append_assoc (enc_word count_bytes n ++ flat enc_record rs) (k ∷ flat enc_value vs) t
      ∙ in_front n rs (k ∷ (flat enc_value vs ++ t))

  behind_front : (k : ℕ) (s : List ℕ) → TableFault k s → FieldAtFault k s
  behind_front k s (in_first p) = at_fault count [] s at_count p refl
  behind_front k s (in_second n u c e (in_row rs v h a g (in_first p))) =
      at_fault struct_byte (enc_word count_bytes n ++ flat enc_record rs) v (at_struct n rs c a h refl) p (e ∙ rw (g, in_front n rs v))
  behind_front k s (in_second n u c e (in_row rs v h a g (in_second j w d i (in_values ts t us vs x l m o p)))) =
      let y = enc_word count_bytes n ++ flat enc_record rs in
      at_fault (value t) (y ++ j ∷ flat enc_value vs) x (at_value j ts us vs (at_struct n rs c a h refl) d l m refl) p
      (e ∙ rw (g, i, o, in_record n rs j vs x))

  of_front : (k : ℕ) (s : List ℕ) → FieldAtFault k s → TableFault k s
  of_front k s (at_fault f u t at_count p e) = in_first (rw e p)
  of_front k s (at_fault f u t (at_struct n rs c a h i) p e) =
      in_second n (flat enc_record rs ++ t) c (e ∙ rw i (in_front n rs t)) (in_row rs t h a refl (in_first p))
  of_front k s (at_fault f u t (at_value j ts us vs (at_struct n rs c a h i) d l m o) p e) =
      in_second n (flat enc_record rs ++ j ∷ (flat enc_value vs ++ t)) c
      (e ∙ rw (o, i) (in_record n rs j vs t))
      (in_row rs (j ∷ (flat enc_value vs ++ t)) h a refl (in_second j (flat enc_value vs ++ t) d refl (in_values ts _ us vs t l m refl p)))

  pub table_refusing : Refusing (λ s. read_table pss s) FieldAtFault
  unfolding read_table
  table_refusing =
      refusing_iff
      (then_refusing (count_exact pss) count_refusing λ n h. row_refusing (record_exact pss) (record_refusing (omega arith)) [] ◌∷◌ n)
      λ k s. (behind_front k s, of_front k s)
