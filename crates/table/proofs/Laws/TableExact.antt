-- Tables are read exactly (01, 'Table and turns').
use Rattle.std.specs.Prelude.{ℕ, suc, ◌+◌, ◌-◌, ◌<◌, ◌≤◌, ◌≡◌, Bool, get_or, T}
use native.Mathlib.Omega.{arith}
use Rattle.std.proofs.Math.Path.{refl}
use Rattle.std.proofs.Math.Bool.{true, false}
use mathlib.Core.List.{List, [], ◌∷◌, ◌++◌}
use Rattle.std.proofs.Math.ListN.{length}
use Rattle.std.proofs.Math.Dec.{leb, leb→le, le→leb}
use Rattle.types.specs.Limits.{max_instances}
use Rattle.types.specs.Types.{Ty}
use Rattle.types.specs.Values.{Val, Val.nat_val, word, value_of}
use Rattle.program.specs.Encoding.{enc_word, flat}
use Rattle.program.specs.Reader.{Result, Result.ok, Result.bad, wrong_end, then, guard}
use Rattle.program.specs.Exact.{Stands, Stands.done, Told, Told.told, Told.silent, Beyond.value_beyond, Beyond.refusal_beyond, Cut, Cut.same}
use Rattle.program.specs.Exact.{Cut.stop, Cut.short, At, Exact}
use Rattle.program.proofs.Laws.StandsLaws.{both, split, stands_none, stands_length}
use Rattle.program.proofs.Laws.PartLaws.{told_then, told_weak, told_is, then_ok, cuts_ok, cuts_then}
use Rattle.program.proofs.Laws.JoinLaws.{exact_iff, made_exact, pair_exact, row_exact, flat_row}
use Rattle.program.proofs.Laws.WordLaws.{below_exact, word_exact}
use Rattle.table.specs.Table.{value_bytes, count_bytes, enc_value, enc_record, enc_table, Each, Held, HeldRecord, HeldTable}
use Rattle.table.specs.TableReader.{allowed, read_value, read_values, read_record, read_count, read_table}
use Rattle.table.proofs.Laws.ValueLaws.{value_of_word, word_of_value}

module _ {A : Type 0} {C : A → Type 0} {E : A → List ℕ} {r : List ℕ → ℕ → Result A} (x : Exact C E r) where
  -- a value that has bytes and passes a test, which is judged at its last byte
  pub guard_exact : ((a : A) → C a → 0 < length (E a)) → (t : A → Bool)
      → Exact (λ a. (C a) × (T (t a))) E (λ s n. then (r s n) λ a k. guard (t a) (k - 1) a k)
  unfolding guard then
  guard_exact some_bytes t = record {
    sound = λ s n. told_then (x.sound s n) λ a k p. sound s n a k (t a) refl p;
    complete = λ s a n m c w. then_ok _ (x.complete s a n m c.0 w) (complete (m - 1) a m (t a) c.1);
    cut = λ s u n l. cut s u n (r s n) (r (s ++ u) n) refl (x.cut s u n l);
  }
    where
      sound : (s : List ℕ) (n : ℕ) (a : A) (k : ℕ) (v : Bool) → t a ≡ v → At C E s n a k → Told (At (λ a. (C a) × (T (t a))) E s n) (guard v (k - 1) a k)
      sound s n a k true e w = told {a = a} ((w.0, rw e tt), w.1)
      sound s n a k false e w = silent

      complete : (n : ℕ) (a : A) (m : ℕ) (v : Bool) → T v → guard v n a m ≡ ok a m
      complete n a m true c = refl
      complete n a m false c = elim c [ ]

      ahead : (s : List ℕ) (n : ℕ) (a : A) (k : ℕ) → r s n ≡ ok a k → n < k
      ahead s n a k e =
          let w = told_is (x.sound s n) e in
          omega (arith, some_bytes a w.0, stands_length w.1)

      both_ways : {n N M : ℕ} (a : A) (k : ℕ) (v : Bool) → n < k → k ≤ N → Cut n N M (guard v (k - 1) a k) (guard v (k - 1) a k)
      both_ways a k true h l = same {m = k} (omega arith) l
      both_ways a k false h l = stop {p = k - 1} (omega arith) (omega arith)

      past : {n N M : ℕ} (a : A) (k : ℕ) (v : Bool) → N < k → k ≤ M → Cut n N M (bad N wrong_end) (guard v (k - 1) a k)
      past a k true h l = short (value_beyond {m = k} h l)
      past a k false h l = short (refusal_beyond {p = k - 1} (omega arith))

      cut : (s u : List ℕ) (n : ℕ) (y z : Result A) → r s n ≡ y → Cut n (length s) (length (s ++ u)) y z
          → Cut n (length s) (length (s ++ u)) (then y λ a k. guard (t a) (k - 1) a k) (then z λ a k. guard (t a) (k - 1) a k)
      cut s u n y z e (same {a = a} {m = m} h i) = both_ways a m (t a) (ahead s n a m e) i
      cut s u n y z e (stop h i) = stop h i
      cut s u n y z e (short (value_beyond {a = a} {m = m} h i)) = past a m (t a) h i
      cut s u n y z e (short (refusal_beyond h)) = short (refusal_beyond h)

  -- a value behind one that tells how to read it: `head` tells the first again from the second
  pub led_exact : {B : Type 0} {D : A → B → Type 0} {F : B → List ℕ} {q : A → List ℕ → ℕ → Result B} (head : B → A)
      → ((a : A) (b : B) → D a b → head b ≡ a) → ((a : A) → Exact (D a) F (q a))
      → Exact (λ b. (C (head b)) × (D (head b) b)) (λ b. E (head b) ++ F b) (λ s n. then (r s n) λ a. q a s)
  led_exact head h y = record {
    sound = λ s n.
        told_then (x.sound s n) λ a k p.
        told_weak ((y a).sound s k) λ b m u.
        let e = h a b u.0 in
        ((rw e p.0, rw e u.0), rw e (both p.1 u.1));
    complete = λ s b n m c w.
        let k = split (E (head b)) w in
        then_ok _ (x.complete s (head b) n k.0 c.0 k.1) ((y (head b)).complete s b k.0 m c.1 k.2);
    cut = cuts_then x.cut λ a. (y a).cut;
  }

-- a number of bytes has some
pub word_bytes : (i v : ℕ) → 0 < length (enc_word (suc i) v)
unfolding enc_word
word_bytes i v = omega arith

pub value_exact : (t : Ty) → Exact (Held t) enc_value (λ s. read_value s t)
unfolding read_value enc_value
value_exact t =
    made_exact (guard_exact (word_exact value_bytes) (λ w h. word_bytes 3 w) (allowed t)) (value_of t) word
    (λ w h. let p = word_of_value t w h.0 h.1 in (p.0, rw p.1))
    (λ v h. let p = value_of_word t v h in ((p.0, p.1), p.2))

-- a value for each type
pub values_exact : (ts : List Ty) → Exact (Each Held ts) (flat enc_value) (λ s. read_values s ts)
unfolding read_values flat
values_exact [] = record {
  sound = λ s n. told (tt, done);
  complete = complete;
  cut = cuts_ok [];
}
  where
    complete : (s : List ℕ) (vs : List Val) (n m : ℕ) → Each Held [] vs → Stands s n (flat enc_value vs) m → ok [] n ≡ ok vs m
    complete s [] n m c w = rw (stands_none w)
    complete s (_ ∷ _) n m c w = elim c [ ]
values_exact (t ∷ ts) =
    made_exact (pair_exact (value_exact t) λ v. values_exact ts) (λ p. p.0 ∷ p.1) parts
    (λ p h. (h, refl))
    both_parts
  where
    parts : List Val → Val × List Val
    parts [] = (nat_val 0, [])
    parts (v ∷ vs) = (v, vs)

    both_parts : (vs : List Val) → Each Held (t ∷ ts) vs → ((Held t (parts vs).0) × (Each Held ts (parts vs).1)) × ((parts vs).0 ∷ (parts vs).1 ≡ vs)
    both_parts (v ∷ vs) h = (h, refl)
    both_parts [] h = elim h [ ]

module _ (pss : List (List Ty)) where
  pub record_exact : Exact (HeldRecord pss) enc_record (λ s. read_record pss s)
  unfolding read_record enc_record
  record_exact =
      made_exact (pair_exact (below_exact (length pss)) λ k. values_exact (get_or pss k []))
      (λ p. record { struct = p.0; values = p.1 }) (λ r. (r.struct, r.values))
      (λ p h. (h, refl))
      (λ r h. (h, refl))

  pub count_exact : Exact (λ n. n + length pss ≤ max_instances) (enc_word count_bytes) (λ s. read_count pss s)
  unfolding read_count
  count_exact =
      exact_iff (guard_exact (word_exact count_bytes) (λ n h. word_bytes 1 n) (λ n. leb (n + length pss) max_instances))
      λ n. (λ h. leb→le (n + length pss) max_instances h.1, λ h. (omega arith, le→leb (n + length pss) max_instances h))

  -- the records of a table, behind their number
  pub table_exact : Exact (HeldTable pss) enc_table (λ s. read_table pss s)
  unfolding read_table enc_table HeldTable
  table_exact =
      exact_iff (led_exact count_exact length (λ n rs h. h.0) λ n. row_exact record_exact (flat_row (HeldRecord pss) enc_record) n)
      λ rs. (λ h. (h.0, h.1.1), λ h. (h.0, (refl, h.1)))
