-- Each way through the readers of a record and of records in a row (01, 'Table and turns').
use Prim.Native.Nat.{ℕ, suc, ◌+◌, ◌-◌, ◌*◌, ◌<◌, ◌≤◌}
use Rattle.std.specs.Prelude.{Result as Answer, Ok, Err, ◌≡◌, refl, length, get_or}
use native.Mathlib.Omega.{arith}
use Rattle.std.proofs.Common.{add-zero, ◌∙◌}
use Rattle.std.proofs.Math.Nat.{sub-zero}
use Rattle.std.proofs.Math.Path.{ap}
use mathlib.Core.List.{List, [], ◌∷◌}
use Rattle.std.proofs.lemmas.List.Edits.{sets}
use Rattle.types.specs.Limits.{max_params}
use Rattle.types.specs.Numbers.{table_end, table_value}
use Rattle.types.specs.Values.{Val}
use Rattle.program.specs.Reader.{Result, Result.ok, Result.bad, then, pair, made, many, ranged}
use Rattle.read_exprs.specs.ByteWays.{byte_is, byte_stops, ranged_in, ranged_out, ranged_above}
use Rattle.table.specs.Table.{Record}
use Rattle.table.specs.TableReader.{read_values, read_record, table_number}
use Rattle.layout.specs.Layout.{head_size, row_size, new_head}
use Rattle.table_read.specs.Params.{lists_of}
use Rattle.table_read.specs.Laws.ParamsLaws.{lists_length, list_is}
use Rattle.table_read.specs.Laid.{values_laid, record_laid, records_laid, heads_laid, rows_laid}
use Rattle.table_read.specs.Told.{Laid, ValuesLaid, RecordLaid, RecordsLaid}
use Rattle.table_read.specs.Laws.ToldLaws.{laid_is, laid_stops}

-- A record -------------------------------------------------------------------------

module _ (cs ts s : List ℕ) (at : ℕ) (h c : List ℕ) (l : ℕ) where
  -- the struct byte is not there, or not below S
  refused : (q : Result ℕ) (n : ℕ) (h' c' : List ℕ) → (p : ℕ) × (q ≡ bad p n)
      → Laid (record_laid ts h c l) (made (λ p. record { struct = p.0; values = p.1 }) (pair q λ k m. read_values s (get_or (lists_of cs ts) k []) m))
      (Err (table_number n)) (h', c')
  unfolding pair made then
  refused q n h' c' e = rw e.1

  pub record_cut : length s ≤ at → (h' c' : List ℕ) → RecordLaid cs ts s at h c l (Err table_end) h' c'
  unfolding read_record table_number
  record_cut b h' c' =
      refused (ranged s 0 (length (lists_of cs ts)) at) 4 h' c'
      (byte_stops (ranged s 0 (length (lists_of cs ts)) at) 4 (ranged_out s 0 (length (lists_of cs ts)) at b))

  pub record_wrong : at < length s → length cs ≤ get_or s at 0 → (h' c' : List ℕ) → RecordLaid cs ts s at h c l (Err table_value) h' c'
  unfolding read_record table_number
  record_wrong b w h' c' =
      refused (ranged s 0 (length (lists_of cs ts)) at) 5 h' c'
      (byte_stops (ranged s 0 (length (lists_of cs ts)) at) 5
      (ranged_above s 0 (length (lists_of cs ts)) at b (omega arith) (rw (lists_length ts 0 cs) w)))

  -- the values behind it
  pub record_right : at < length s → (k : ℕ) → k ≡ get_or s at 0 → k < length cs → (h' : List ℕ) → h' ≡ sets h (head_size * l) (new_head k)
      → (r : Answer ℕ ℕ) (c' : List ℕ) → ValuesLaid s ts (max_params * k) (get_or cs k 0) (at + 1) c (row_size * l) r c'
      → RecordLaid cs ts s at h c l r h' c'
  unfolding read_record pair made then
  record_right b k e w h' g r c' v =
      let q : ranged s 0 (length (lists_of cs ts)) at ≡ ok k (at + 1) =
      byte_is (ranged s 0 (length (lists_of cs ts)) at) (get_or s at 0) (at + 1)
      (ranged_in s 0 (length (lists_of cs ts)) at b (omega arith) (rw (lists_length ts 0 cs, ← e) w))
      ∙ rw e
      in
      rw q (go (read_values s (get_or (lists_of cs ts) k []) (at + 1)) (rw (list_is cs ts k) v))
    where
      go : (q : Result (List Val)) → Laid (values_laid ts (max_params * k) c (row_size * l)) q r c'
          → Laid (record_laid ts h c l) (made (λ p. record { struct = p.0; values = p.1 }) (pair (ok k (at + 1)) λ k m. q)) r (h', c')
      go (ok vs j) x = (x.0, rw (g, x.1))
      go (bad p j) x = x

-- Records in a row -----------------------------------------------------------------

module _ (cs ts s : List ℕ) (n at : ℕ) (h c : List ℕ) (l : ℕ) where
  -- the first was read, and the others behind it
  records_more : (m : ℕ) (h' c' : List ℕ) → RecordLaid cs ts s at h c l (Ok m) h' c'
      → (r : Answer ℕ ℕ) (h'' c'' : List ℕ) → RecordsLaid cs ts s n m h' c' (suc l) r h'' c'' → RecordsLaid cs ts s (suc n) at h c l r h'' c''
  unfolding many then heads_laid rows_laid
  records_more m h' c' x r h'' c'' y =
      let (a, e, w) = laid_is (record_laid ts h c l) (read_record (lists_of cs ts) s at) m (h', c') x in
      rw e (go a (many [] ◌∷◌ (read_record (lists_of cs ts) s) n m) w y)
    where
      go : (a : Record) (q : Result (List Record)) → (h', c') ≡ record_laid ts h c l a → Laid (records_laid ts h' c' (suc l)) q r (h'', c'')
          → Laid (records_laid ts h c l) (then q λ b m. ok (a ∷ b) m) r (h'', c'')
      go a (ok rs j) w y = (y.0, y.1 ∙ ap (λ (p : List ℕ × List ℕ). records_laid ts p.0 p.1 (suc l) rs) w)
      go a (bad p j) w y = y

  -- the first was refused
  records_stop : (e : ℕ) (h' c' : List ℕ) → RecordLaid cs ts s at h c l (Err e) h' c'
      → (h'' c'' : List ℕ) → RecordsLaid cs ts s (suc n) at h c l (Err e) h'' c''
  unfolding many then
  records_stop e h' c' x h'' c'' =
      let (p, j, q, w) = laid_stops (record_laid ts h c l) (read_record (lists_of cs ts) s at) e (h', c') x in
      rw q (ap (λ k. Err k) w)

-- a loop over the records: what the rest comes to after i of them, the whole does
module _ (cs ts s : List ℕ) (n at : ℕ) (h c : List ℕ) (l : ℕ) where
  abbrev pub RecordsGo : ℕ → ℕ → List ℕ → List ℕ → Type 0
  RecordsGo i k h' c' = (r : Answer ℕ ℕ) (x y : List ℕ) → RecordsLaid cs ts s (n - i) k h' c' (l + i) r x y → RecordsLaid cs ts s n at h c l r x y

  pub records_begin : RecordsGo 0 at h c
  records_begin r x y w = rw (sub-zero n, add-zero l) at w

  module _ (i k : ℕ) (h' c' : List ℕ) (g : RecordsGo i k h' c') where
    pub records_turn : i < n → (m : ℕ) (h'' c'' : List ℕ) → RecordLaid cs ts s k h' c' (l + i) (Ok m) h'' c'' → RecordsGo (i + 1) m h'' c''
    records_turn b m h'' c'' f r x y w =
        let e : n - i ≡ suc (n - (i + 1)) = omega arith in
        let p : l + (i + 1) ≡ suc (l + i) = omega arith in
        g r x y (rw e (records_more cs ts s (n - (i + 1)) k h' c' (l + i) m h'' c'' f r x y (rw p at w)))

    pub records_refused : i < n → (e : ℕ) (h'' c'' : List ℕ) → RecordLaid cs ts s k h' c' (l + i) (Err e) h'' c''
        → (x y : List ℕ) → RecordsLaid cs ts s n at h c l (Err e) x y
    records_refused b e h'' c'' f x y =
        let p : n - i ≡ suc (n - (i + 1)) = omega arith in
        g (Err e) x y (rw p (records_stop cs ts s (n - (i + 1)) k h' c' (l + i) e h'' c'' f x y))

    pub records_end : n ≤ i → RecordsLaid cs ts s n at h c l (Ok k) h' c'
    unfolding many heads_laid rows_laid
    records_end b = let e : n - i ≡ 0 = omega arith in g (Ok k) h' c' (rw e (refl, refl))
