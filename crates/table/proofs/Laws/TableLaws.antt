-- What a table stream comes to (01, 'Table and turns'; 11 and 12 of 'Numbers from the input').
use Rattle.std.specs.Prelude.{ℕ, ◌↔◌, ◌⊎◌, Bool, length}
use Rattle.std.proofs.Common.{arith}
use Rattle.std.proofs.Math.Path.{◌≡◌, refl}
use Rattle.std.proofs.Math.Logic.{inl, inr}
use Rattle.std.proofs.Math.Bool.{true, false}
use mathlib.Core.List.{List, ◌∷◌, ◌++◌}
use Rattle.std.proofs.Math.Dec.{eqb}
use Rattle.types.specs.Types.{Ty}
use Rattle.types.specs.Stages.{Stage.went as table, Stage.stopped as no_table}
use Rattle.program.specs.Reader.{Result, Result.ok, Result.bad, wrong_end, whole}
use Rattle.program.proofs.Laws.StreamLaws.{exact, injective, trailing}
use Rattle.table.specs.Table.{Record, enc_table, HeldTable, References, TableRight}
use Rattle.table.specs.TableReader.{read_table, references, table_end, table_value, table_number}
use Rattle.table.specs.TableReader.{table_answer, table_of_stream}
use Rattle.table.proofs.Laws.TableExact.{table_exact}
use Rattle.table.proofs.Laws.ReferenceLaws.{references_exact}

module _ (pss : List (List Ty)) where
  -- a stream is read as a table exactly where the table is held and the stream is its bytes
  pub table_law : (s : List ℕ) (rs : List Record) (m : ℕ)
      → (whole (read_table pss) s ≡ ok rs m) ↔ ((HeldTable pss rs) × (s ≡ enc_table rs) × (m ≡ length s))
  table_law s rs m = exact (table_exact pss) s rs m

  -- what was read, refused or judged by its references
  pub of_refused : (s : List ℕ) {p k : ℕ} → whole (read_table pss) s ≡ bad p k → table_of_stream pss s ≡ no_table (table_number k)
  unfolding table_of_stream table_answer
  of_refused s e = rw e

  of_right : (s : List ℕ) {rs : List Record} {m : ℕ} → whole (read_table pss) s ≡ ok rs m → references pss rs rs ≡ true
      → table_of_stream pss s ≡ table rs
  unfolding table_of_stream table_answer
  of_right s e h = rw e (rw (h, table_answer))

  of_wrong : (s : List ℕ) {rs : List Record} {m : ℕ} → whole (read_table pss) s ≡ ok rs m → references pss rs rs ≡ false
      → table_of_stream pss s ≡ no_table table_value
  unfolding table_of_stream table_answer
  of_wrong s e h = rw e (rw (h, table_answer))

  -- a stream comes to a table exactly where the table is right and the stream is its bytes
  pub table_answer_exact : (s : List ℕ) (rs : List Record) → (table_of_stream pss s ≡ table rs) ↔ ((TableRight pss rs) × (s ≡ enc_table rs))
  unfolding TableRight
  table_answer_exact s rs = (λ e. go (whole (read_table pss) s) refl e, back)
    where
      judged : (qs : List Record) (m : ℕ) → whole (read_table pss) s ≡ ok qs m → table_of_stream pss s ≡ table rs
          → (t : Bool) → references pss qs qs ≡ t → (TableRight pss rs) × (s ≡ enc_table rs)
      judged qs m e f true h =
          let q : qs ≡ rs = cc (of_right s e h) in
          let p = (table_law s qs m).0 e in
          rw (← q) ((p.0, (references_exact pss qs).0 h), p.1)
      judged qs m e f false h = let z : ◌≡◌ {A = ℕ} 0 1 = cc (of_wrong s e h) in absurd (omega arith)

      go : (r : Result (List Record)) → whole (read_table pss) s ≡ r → table_of_stream pss s ≡ table rs → (TableRight pss rs) × (s ≡ enc_table rs)
      go (ok qs m) e f = judged qs m e f (references pss qs qs) refl
      go (bad p k) e f = let z : ◌≡◌ {A = ℕ} 0 1 = cc (of_refused s e) in absurd (omega arith)

      back : (TableRight pss rs) × (s ≡ enc_table rs) → table_of_stream pss s ≡ table rs
      back h = of_right s ((table_law s rs (length s)).1 (h.0.0, h.1, refl)) ((references_exact pss rs).1 h.0.1)

  -- what is written of a right table is read back as it
  pub table_back : (rs : List Record) → TableRight pss rs → table_of_stream pss (enc_table rs) ≡ table rs
  table_back rs h = (table_answer_exact (enc_table rs) rs).1 (h, refl)

  -- two held tables with the same bytes are one
  pub table_injective : (qs rs : List Record) → HeldTable pss qs → HeldTable pss rs → enc_table qs ≡ enc_table rs → qs ≡ rs
  table_injective qs rs h k e = injective (table_exact pss) qs rs h k e

  -- a refusal is 11 or 12
  pub table_numbers : (s : List ℕ) (n : ℕ) → table_of_stream pss s ≡ no_table n → (n ≡ table_end) ⊎ (n ≡ table_value)
  unfolding table_number
  table_numbers s n e = go (whole (read_table pss) s) refl
    where
      number : (k : ℕ) (t : Bool) → eqb k wrong_end ≡ t → (table_number k ≡ table_end) ⊎ (table_number k ≡ table_value)
      number k true h = inl (rw (h, table_number))
      number k false h = inr (rw (h, table_number))

      judged : (qs : List Record) (m : ℕ) → whole (read_table pss) s ≡ ok qs m → (t : Bool) → references pss qs qs ≡ t
          → (n ≡ table_end) ⊎ (n ≡ table_value)
      judged qs m f true h = let z : ◌≡◌ {A = ℕ} 0 1 = cc (of_right s f h) in absurd (omega arith)
      judged qs m f false h = inr (cc (of_wrong s f h))

      go : (r : Result (List Record)) → whole (read_table pss) s ≡ r → (n ≡ table_end) ⊎ (n ≡ table_value)
      go (ok qs m) f = judged qs m f (references pss qs qs) refl
      go (bad p k) f = let q : table_number k ≡ n = cc (of_refused s f) in rw q at (number k (eqb k wrong_end) refl)

  -- a stream that goes on after the end of a held table is 11, whatever its references
  pub table_trailing : (rs : List Record) (b : ℕ) (bs : List ℕ) → HeldTable pss rs → table_of_stream pss (enc_table rs ++ b ∷ bs) ≡ no_table table_end
  unfolding table_number
  table_trailing rs b bs h = of_refused (enc_table rs ++ b ∷ bs) (trailing (table_exact pss) rs b bs h)

  -- a held table with a wrong reference is 12
  pub table_wrong_reference : (rs : List Record) → HeldTable pss rs → ¬ References pss rs → table_of_stream pss (enc_table rs) ≡ no_table table_value
  table_wrong_reference rs h w = go (references pss rs rs) refl
    where
      go : (t : Bool) → references pss rs rs ≡ t → table_of_stream pss (enc_table rs) ≡ no_table table_value
      go true e = absurd (w ((references_exact pss rs).0 e))
      go false e = of_wrong (enc_table rs) ((table_law (enc_table rs) rs _).1 (h, refl, refl)) e
