-- Each way through the reader of a table (01, 'Table and turns', and numbers 11 and 12).
use Rattle.std.specs.Prelude.{ℕ, ◌+◌, ◌-◌, ◌*◌, ◌<◌, ◌≤◌, Bool, get_or, leb, Result as Answer, Ok, Err, Some, None}
use Rattle.std.proofs.Common.{arith, ap, sym, ◌∙◌}
use Rattle.std.proofs.Math.Path.{◌≡◌, refl}
use Rattle.std.proofs.Math.Bool.{true, false}
use mathlib.Core.List.{List, [], ◌∷◌}
use Rattle.std.proofs.Math.ListN.{length}
use borrow.Author.Tests.{lt-ltb, le-ltb, le-leb, lt-leb}
use Rattle.types.specs.Limits.{max_instances, max_params, table_blocks}
use Rattle.types.specs.Numbers.{table_end, table_value}
use Rattle.types.specs.Types.{Ty}
use Rattle.types.specs.Stages.{Stage.went as table, Stage.stopped as no_table}
use Rattle.blocks.specs.Images.{fault, stream, table_number as block_number}
use Rattle.block.specs.declared.Fault.{Fault}
use Rattle.program.specs.Counts.{All}
use Rattle.program.specs.Reader.{Result, Result.ok, Result.bad, then, many, guard, ended, whole}
use Rattle.program.proofs.Laws.PartLaws.{told_is}
use Rattle.program.proofs.Laws.JoinLaws.{row_exact, flat_row}
use Rattle.table.specs.Table.{Record, count_bytes, enc_record, HeldRecord}
use Rattle.table.specs.TableReader.{read_record, read_count, read_table, references, table_number}
use Rattle.table.specs.TableReader.{table_answer, table_of_stream}
use Rattle.table.proofs.Laws.TableExact.{record_exact}
use Rattle.layout.specs.Layout.{head_size, row_size}
use Rattle.table_read.specs.Params.{lists_of, Tables}
use Rattle.table_read.specs.Laws.ParamsLaws.{lists_length, list_is, types_length}
use Rattle.table_read.specs.Laid.{records_laid, heads_laid, rows_laid, null_records, all_records}
use Rattle.table_read.specs.Laws.LaidLaws.{heads_append, rows_append, nulls_length}
use Rattle.table_read.specs.Refer.{Structs, rows_refer}
use Rattle.table_read.specs.Laws.ReferLaws.{laid_refers, laid_structs}
use Rattle.little_endian.specs.Numbers.{number_at}
use Rattle.table_read.specs.Told.{count_told, RecordsLaid}
use Rattle.table_read.specs.TableTold.{behind_count, table_told, TableLaid}
use Rattle.run.specs.Entry.{of_table_image, tabled}
use Rattle.table_read.specs.Laws.ToldLaws.{laid_is, laid_stops}
use Rattle.table_read.specs.Laws.ValueWays.{word_in, word_out}

-- N --------------------------------------------------------------------------------

module _ (s : List ℕ) (bytes : (i : ℕ) → get_or s i 0 < 256) (pss : List (List Ty)) where
  pub count_cut : length s < 2 → Err table_end ≡ count_told (read_count pss s 0)
  unfolding read_count then table_number
  count_cut h = let (p, e) = word_out s bytes 2 0 (omega arith) (omega arith) in rw e

  pub count_wrong : 2 ≤ length s → (n : ℕ) → n ≡ number_at 2 s 0 → max_instances < n + length pss → Err table_value ≡ count_told (read_count pss s 0)
  unfolding read_count then guard table_number
  count_wrong h n e w = rw (word_in s bytes 2 0 h, ← e, lt-leb (n + length pss) max_instances w)

  pub count_right : 2 ≤ length s → (n : ℕ) → n ≡ number_at 2 s 0 → n + length pss ≤ max_instances → Ok n ≡ count_told (read_count pss s 0)
  unfolding read_count then guard
  count_right h n e w = rw (word_in s bytes 2 0 h, ← e, le-leb (n + length pss) max_instances w)

-- The records behind N ---------------------------------------------------------------

-- records that were read are as many as they were to be, and held
records_held : (pss : List (List Ty)) (s : List ℕ) (n at : ℕ) (rs : List Record) (m : ℕ) → many [] ◌∷◌ (read_record pss s) n at ≡ ok rs m
    → (length rs ≡ n) × (All (HeldRecord pss) rs)
records_held pss s n at rs m e = (told_is ((row_exact (record_exact pss) (flat_row (HeldRecord pss) enc_record) n).sound s at) e).0

-- the records that were read, and memory h and c with all instances, by the lists h₀ and c₀ that it held before
pub record Got (cs ts s : List ℕ) (n : ℕ) (h₀ c₀ : List ℕ) (m : ℕ) (h c : List ℕ) : Type 0 where
  pub rs : List Record
  pub were : many [] ◌∷◌ (read_record (lists_of cs ts) s) n count_bytes ≡ ok rs m
  pub counted : length rs ≡ n
  pub held : All (HeldRecord (lists_of cs ts)) rs
  pub heads : h ≡ heads_laid h₀ 0 (all_records (lists_of cs ts) rs)
  pub cells : c ≡ rows_laid ts c₀ 0 (all_records (lists_of cs ts) rs)

module _ (cs ts s : List ℕ) (n : ℕ) where
  -- behind the null instances
  pub got : (h₀ c₀ h₁ c₁ : List ℕ) → h₁ ≡ heads_laid h₀ 0 (null_records 0 (lists_of cs ts)) → c₁ ≡ rows_laid ts c₀ 0 (null_records 0 (lists_of cs ts))
      → {r : Answer ℕ ℕ} (m : ℕ) (h c : List ℕ) → r ≡ Ok m → RecordsLaid cs ts s n count_bytes h₁ c₁ (length cs) r h c → Got cs ts s n h₀ c₀ m h c
  got h₀ c₀ h₁ c₁ e f m h c p w =
      let (rs, q, x) = laid_is (records_laid ts h₁ c₁ (length cs)) (many [] ◌∷◌ (read_record (lists_of cs ts) s) n count_bytes) m (h, c) (rw p at w) in
      go rs q x
    where
      place : length cs ≡ 0 + length (null_records 0 (lists_of cs ts))
      place = omega (arith, nulls_length 0 (lists_of cs ts), lists_length ts 0 cs)

      go : (rs : List Record) → many [] ◌∷◌ (read_record (lists_of cs ts) s) n count_bytes ≡ ok rs m → (h, c) ≡ records_laid ts h₁ c₁ (length cs) rs
          → Got cs ts s n h₀ c₀ m h c
      go rs q x =
          let k = records_held (lists_of cs ts) s n count_bytes rs m q in
          record {
            rs = rs;
            were = q;
            counted = k.0;
            held = k.1;
            heads = ap (λ (p : List ℕ × List ℕ). p.0) x ∙ rw (e, place) (sym (heads_append h₀ 0 (null_records 0 (lists_of cs ts)) rs));
            cells = ap (λ (p : List ℕ × List ℕ). p.1) x ∙ rw (f, place) (sym (rows_append ts c₀ 0 (null_records 0 (lists_of cs ts)) rs));
          }

  -- a record is refused
  pub behind_refused : (h₁ c₁ : List ℕ) {r : Answer ℕ ℕ} (e : ℕ) (h c : List ℕ) → r ≡ Err e
      → RecordsLaid cs ts s n count_bytes h₁ c₁ (length cs) r h c → behind_count (lists_of cs ts) s n ≡ no_table e
  unfolding behind_count then table_answer
  behind_refused h₁ c₁ e h c f w =
      let (p, j, q, x) =
      laid_stops (records_laid ts h₁ c₁ (length cs)) (many [] ◌∷◌ (read_record (lists_of cs ts) s) n count_bytes) e (h, c) (rw f at w) in
      go p j q x
    where
      go : (p j : ℕ) → many [] ◌∷◌ (read_record (lists_of cs ts) s) n count_bytes ≡ bad p j → e ≡ table_number j
          → behind_count (lists_of cs ts) s n ≡ no_table e
      go p j q x = rw (q, x)

module _ {cs ts s : List ℕ} {n : ℕ} {h₀ c₀ : List ℕ} {m : ℕ} {h c : List ℕ} (g : Got cs ts s n h₀ c₀ m h c) where
  -- the stream goes on after its end
  pub behind_more : m < length s → behind_count (lists_of cs ts) s n ≡ no_table table_end
  unfolding behind_count then ended table_answer table_number
  behind_more l = rw (g.were, ended, lt-ltb m (length s) l)

  -- it does not, and the references decide
  ends : length s ≤ m → (t : Bool) → references (lists_of cs ts) g.rs g.rs ≡ t
      → behind_count (lists_of cs ts) s n ≡ elim t [ true ↦ table g.rs | false ↦ no_table table_value ]
  unfolding behind_count then ended table_answer
  ends l t e = rw (g.were, ended, le-ltb m (length s) l, table_answer, e)

  module _ (tables : Tables cs ts) (bytes : (i : ℕ) → get_or ts i 0 < 256) (long : length h₀ ≡ head_size * max_instances)
      (wide : length c₀ ≡ row_size * max_instances) (room : n + length cs ≤ max_instances) where
    S : length (lists_of cs ts) ≡ length cs
    S = lists_length ts 0 cs

    all : length (lists_of cs ts) + length g.rs ≡ length cs + n
    all = omega (arith, S, g.counted)

    fits : head_size * (length (lists_of cs ts) + length g.rs) ≤ length h₀
    fits = omega (arith, all)

    pub behind_structs : Structs h (length cs + n) (length cs)
    behind_structs = rw (g.heads, ← all) (laid_structs cs ts bytes g.rs h₀ fits g.held)

    refers : rows_refer cs ts h c (length cs + n) (length cs) (length cs + n - length cs) ≡ references (lists_of cs ts) g.rs g.rs
    refers =
        let d : length cs + n - length cs ≡ length g.rs = omega (arith, g.counted) in
        rw (d, ← all, ← S, g.heads, g.cells)
        (laid_refers cs ts bytes g.rs h₀ fits c₀ (omega (arith, all))
        (λ k. rw (list_is cs ts k, types_length ts (max_params * k) (get_or cs k 0)) (tables.each k)) g.held)

    module _ (l : length s ≤ m) (t : Bool) (e : t ≡ rows_refer cs ts h c (length cs + n) (length cs) (length cs + n - length cs)) where
      pub behind_wrong : t ≡ false → behind_count (lists_of cs ts) s n ≡ no_table table_value
      behind_wrong w = ends l false (sym refers ∙ sym e ∙ w)

      -- the instances, and memory with all of them
      pub behind_right : t ≡ true
          → (Ok (length cs + n) ≡ table_told (length cs) (behind_count (lists_of cs ts) s n))
          × (TableLaid cs ts h₀ c₀ (behind_count (lists_of cs ts) s n) h c)
      behind_right w =
          rw (ends l true (sym refers ∙ sym e ∙ w)) (ap (λ k. Ok (length cs + k)) (sym g.counted), (g.heads, g.cells))

-- A whole stream -------------------------------------------------------------------

module _ (s : List ℕ) (pss : List (List Ty)) where
  -- N is refused
  pub table_refused : (e : ℕ) → Err e ≡ count_told (read_count pss s 0) → table_of_stream pss s ≡ no_table e
  unfolding table_of_stream whole read_table then table_answer
  table_refused e w = go (read_count pss s 0) refl w
    where
      go : (q : Result ℕ) → read_count pss s 0 ≡ q → Err e ≡ count_told q → table_of_stream pss s ≡ no_table e
      go (ok n m) f w = let z : ◌≡◌ {A = ℕ} 0 1 = cc in absurd (omega arith)
      go (bad p n) f w = let z : table_number n ≡ e = cc in rw (f, z)

  -- N, and what stands behind it
  pub table_behind : ((i : ℕ) → get_or s i 0 < 256) → 2 ≤ length s → (n : ℕ) → Ok n ≡ count_told (read_count pss s 0)
      → table_of_stream pss s ≡ behind_count pss s n
  unfolding table_of_stream whole read_table then guard read_count behind_count
  table_behind bytes h n w = rw (word_in s bytes 2 0 h) (go (leb (number_at 2 s 0 + length pss) max_instances) (rw (word_in s bytes 2 0 h) at w))
    where
      go : (t : Bool) → Ok n ≡ count_told (guard t 1 (number_at 2 s 0) 2)
          → table_answer pss (then (then (guard t 1 (number_at 2 s 0) 2) λ n k. many [] ◌∷◌ (read_record pss s) n k) (ended s)) ≡ behind_count pss s n
      go true w = let z : number_at 2 s 0 ≡ n = cc in rw z
      go false w = let z : ◌≡◌ {A = ℕ} 0 1 = cc in absurd (omega arith)

-- An image -------------------------------------------------------------------------

module _ (y : List ℕ) (pss : List (List Ty)) where
  pub image_refused : (f : Fault) → fault table_blocks y ≡ Some f → tabled pss y ≡ no_table (block_number f)
  unfolding of_table_image
  image_refused f e = rw e

  pub image_read : fault table_blocks y ≡ None → tabled pss y ≡ table_of_stream pss (stream y)
  unfolding of_table_image
  image_read e = rw e
