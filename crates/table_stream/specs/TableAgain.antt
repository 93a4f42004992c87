-- The stream of an accepted table as numbers, and these as a stream, is that stream.
use Rattle.std.specs.Prelude.{ℕ, ◌+◌, ◌*◌, ◌/◌, ◌%◌, ◌<◌, ◌≡◌}
use Rattle.std.proofs.Common.{arith, ◌∙◌}
use Rattle.std.proofs.Math.Path.{refl, sym, ap}
use mathlib.Core.List.{List, [], ◌∷◌, ◌++◌, append_assoc}
use Rattle.std.proofs.Math.ListN.{length, get_or, length-append}
use Rattle.std.proofs.Math.Seq.{get_or_at}
use Rattle.types.specs.Types.{Ty}
use Rattle.types.specs.Values.{Val}
use Rattle.types.specs.Stages.{Stage.went as table}
use Rattle.program.specs.Encoding.{enc_word, flat}
use Rattle.program.specs.Counts.{All}
use Rattle.table.specs.Table.{Record, enc_value, enc_record, enc_table, Held, HeldRecord, HeldTable, TableRight}
use Rattle.table.proofs.Laws.EachLaws.{each_length}
use Rattle.table.specs.TableReader.{table_of_stream}
use Rattle.table.proofs.Laws.TableLaws.{table_answer_exact}
use Rattle.table_words.specs.TableWords.{arity_at, table_words}
use Rattle.table_stream.specs.TableStream.{stream_of}
use Rattle.table_stream.specs.StreamAgain.{Bytes, Ends, stream_again}

values_length : (vs : List Val) → length (flat enc_value vs) ≡ 4 * length vs
unfolding flat enc_value enc_word
values_length [] = refl
values_length (v ∷ vs) = omega (arith, values_length vs)

module _ (pss : List (List Ty)) (cs ts : List ℕ) (arities : (k : ℕ) → k < length pss → get_or cs k 0 ≡ length (get_or pss k [])) where
  -- records behind some bytes end where the stream does
  records_end : (p : List ℕ) (rs : List Record) → All (HeldRecord pss) rs → Ends cs ts (p ++ flat enc_record rs) (length rs) (length p)
  unfolding flat enc_record Ends
  records_end p [] h = omega (arith, length-append p [])
  records_end p (r ∷ rs) h =
      let b = enc_record r in
      let u = flat enc_record rs in
      let k : get_or (p ++ (b ++ u)) (length p) 0 ≡ r.struct = get_or_at p r.struct (flat enc_value r.values ++ u) 0 (length p) refl in
      let a : arity_at cs ts (p ++ (b ++ u)) (length p) ≡ length r.values =
      rw k (arities r.struct h.0.0 ∙ sym (each_length Held (get_or pss r.struct []) r.values h.0.1)) in
      let l : length b ≡ 1 + 4 * length r.values = omega (arith, values_length r.values) in
      let n : length p + 1 + 4 * arity_at cs ts (p ++ (b ++ u)) (length p) ≡ length (p ++ b) = omega (arith, a, l, length-append p b) in
      let rest : Ends cs ts (p ++ (b ++ u)) (length rs) (length (p ++ b)) = rw append_assoc at (records_end (p ++ b) rs h.1) in
      (omega (arith, n, length-append (p ++ b) u, ap length (append_assoc p b u)), rw n rest)

  -- S is how many structs there are
  pub table_again : (S : ℕ) (s : List ℕ) (rs : List Record) → Bytes s → table_of_stream pss s ≡ table rs → stream_of (table_words cs ts S s) ≡ s
  unfolding TableRight HeldTable enc_table enc_word
  table_again S s rs small e =
      let h = (table_answer_exact pss s rs).0 e in
      let n : get_or s 0 0 + 256 * get_or s 1 0 ≡ length rs = rw h.1 (omega (arith, h.0.0.0)) in
      let ends : Ends cs ts s (length rs) 2 = rw h.1 (records_end (length rs % 256 ∷ length rs / 256 % 256 ∷ []) rs h.0.0.1) in
      stream_again cs ts s small S (rw h.1 (omega arith)) (rw n ends)
