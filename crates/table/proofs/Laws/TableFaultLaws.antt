-- A table stream is refused with 11 and 12 exactly where their conditions hold, and each stream is a right table's or meets one of
-- the two (01, 'Table and turns'; 'Numbers from the input').
use Rattle.std.specs.Prelude.{ℕ, suc, ◌<◌, ◌≡◌, ◌↔◌, Bool, true, false, length, get_or, drop}
use Rattle.std.proofs.Common.{arith, ◌∙◌, drop-cons}
use Rattle.std.proofs.Math.Decide.{dec_lt}
use Rattle.std.proofs.Math.Path.{refl}
use mathlib.Core.List.{List, ◌∷◌, ◌++◌, append_assoc}
use Rattle.types.specs.Types.{Ty}
use Rattle.types.specs.Stages.{Stage.stopped as no_table}
use Rattle.program.specs.Encoding.{enc_word}
use Rattle.program.specs.Reader.{Result, Result.ok, Result.bad, wrong_end, wrong_byte, then, whole}
use Rattle.program.specs.Exact.{Stands}
use Rattle.program.proofs.Laws.StandsLaws.{stands_drop, stands_whole}
use Rattle.program.proofs.Laws.StreamLaws.{exact_at}
use Rattle.table.specs.Table.{Record, enc_table, HeldTable, TableRight}
use Rattle.table.specs.TableFaults.{field_bytes, TableEnds, TableEnds.ends_early, TableEnds.goes_on, TableOffends, TableOffends.not_allowed}
use Rattle.table.specs.TableFaults.{TableOffends.no_byte, TableOffends.wrong_reference}
use Rattle.table.specs.TableReader.{read_table, references, table_end, table_value, table_number, table_of_stream}
use Rattle.table.proofs.Laws.FieldLaws.{NumberFault.cut, NumberFault.strange, NumberFault.unfit}
use Rattle.table.proofs.Laws.RefusingLaws.{blames_is}
use Rattle.table.proofs.Laws.TableExact.{table_exact}
use Rattle.table.proofs.Laws.ReferenceLaws.{references_exact}
use Rattle.table.proofs.TableRefusing.{FieldAtFault, FieldAtFault.at_fault, table_refusing}
use Rattle.table.proofs.Laws.TableLaws.{of_refused, table_answer_exact, table_trailing, table_wrong_reference}

module _ (pss : List (List Ty)) where
  -- a stream that some field is at fault in comes to that fault's number
  faulty : (s : List ℕ) (k : ℕ) → FieldAtFault pss k s → table_of_stream pss s ≡ no_table (table_number k)
  unfolding whole then
  faulty s k f = let q = (table_refusing pss).complete s 0 k f in of_refused pss s {p = q.0} {k = k} (rw q.1)

  ends_number : (s : List ℕ) → TableEnds pss s → table_of_stream pss s ≡ no_table table_end
  unfolding table_number
  ends_number s (ends_early {u = u} {f = f} xs w c e) = faulty s wrong_end (at_fault f u xs w (cut c) e)
  ends_number s (goes_on rs b bs h e) = rw e (table_trailing pss rs b bs h)

  offends_number : (s : List ℕ) → TableOffends pss s → table_of_stream pss s ≡ no_table table_value
  unfolding table_number
  offends_number s (not_allowed {u = u} {f = f} w ys h l n e) =
      let xs = enc_word (field_bytes f) w in
      faulty s wrong_byte (at_fault f u (xs ++ ys) h (unfit w ys l n refl) (e ∙ append_assoc u xs ys))
  offends_number s (no_byte {u = u} {f = f} xs b ys h c l e) =
      faulty s wrong_byte (at_fault f u (xs ++ b ∷ ys) h (strange xs b ys c l refl) (e ∙ append_assoc u xs (b ∷ ys)))
  offends_number s (wrong_reference rs h w e) = rw e (table_wrong_reference pss rs h w)

  -- what a stream is: one of 11, one of 12, or a right table's
  pub data Outcome (s : List ℕ) : Type 0 where
    ends : TableEnds pss s → Outcome s
    offends : TableOffends pss s → Outcome s
    right : (rs : List Record) → TableRight pss rs → s ≡ enc_table rs → Outcome s

  -- every stream is one of these
  pub stream_outcome : (s : List ℕ) → Outcome s
  unfolding TableRight
  stream_outcome s = go (read_table pss s 0) refl
    where
      at_field : (k : ℕ) → FieldAtFault pss k s → Outcome s
      at_field k (at_fault f u t h (cut c) e) = ends (ends_early t h c e)
      at_field k (at_fault f u t h (strange xs b ys c l d) e) = offends (no_byte xs b ys h c l (rw (e, d, append_assoc u xs (b ∷ ys))))
      at_field k (at_fault f u t h (unfit w ys l n d) e) =
          offends (not_allowed w ys h l n (rw (e, d, append_assoc u (enc_word (field_bytes f) w) ys)))

      judged : (rs : List Record) → HeldTable pss rs → s ≡ enc_table rs → (t : Bool) → references pss rs rs ≡ t → Outcome s
      judged rs h e true r = right rs (h, (references_exact pss rs).0 r) e
      judged rs h e false r =
          offends (wrong_reference rs h (λ w. let q = (references_exact pss rs).1 w in let z : ◌≡◌ {A = ℕ} 0 1 = cc in omega arith) e)

      held : (rs : List Record) (m : ℕ) → (HeldTable pss rs) × (Stands s 0 (enc_table rs) m) → Dec (m < length s) → Outcome s
      held rs m h (yes l) = ends (goes_on rs (get_or s m 0) (drop (suc m) s) h.0 (stands_drop h.1 ∙ rw (drop-cons s m 0 l)))
      held rs m h (no l) = judged rs h.0 (stands_whole h.1 (omega arith)).0 (references pss rs rs) refl

      go : (r : Result (List Record)) → read_table pss s 0 ≡ r → Outcome s
      go (ok rs m) e = held rs m ((exact_at (table_exact pss) s rs 0 m).0 e) (dec_lt m (length s))
      go (bad p k) e = at_field k (blames_is ((table_refusing pss).sound s 0) e)

  -- a stream comes to 11 exactly where it ends early or goes on after its end
  pub table_ends_exactly : (s : List ℕ) → (table_of_stream pss s ≡ no_table table_end) ↔ TableEnds pss s
  table_ends_exactly s = (λ e. go e (stream_outcome s), ends_number s)
    where
      go : table_of_stream pss s ≡ no_table table_end → Outcome s → TableEnds pss s
      go e (ends h) = h
      go e (offends h) = let d = offends_number s h in let z : ◌≡◌ {A = ℕ} 11 12 = cc in absurd (omega arith)
      go e (right rs h q) = let d = (table_answer_exact pss s rs).1 (h, q) in let z : ◌≡◌ {A = ℕ} 0 1 = cc in absurd (omega arith)

  -- and to 12 exactly where N, a struct byte, a value or a reference is not allowed
  pub table_offends_exactly : (s : List ℕ) → (table_of_stream pss s ≡ no_table table_value) ↔ TableOffends pss s
  table_offends_exactly s = (λ e. go e (stream_outcome s), offends_number s)
    where
      go : table_of_stream pss s ≡ no_table table_value → Outcome s → TableOffends pss s
      go e (ends h) = let d = ends_number s h in let z : ◌≡◌ {A = ℕ} 11 12 = cc in absurd (omega arith)
      go e (offends h) = h
      go e (right rs h q) = let d = (table_answer_exact pss s rs).1 (h, q) in let z : ◌≡◌ {A = ℕ} 0 1 = cc in absurd (omega arith)

  -- no stream is one of 11 and of 12
  pub ends_or_offends : (s : List ℕ) → TableEnds pss s → TableOffends pss s → ⊥
  ends_or_offends s h k =
      let d = ends_number s h in
      let e = offends_number s k in
      let z : ◌≡◌ {A = ℕ} 11 12 = cc in
      omega arith

  -- and the stream of a right table is neither
  pub right_not_ends : (s : List ℕ) (rs : List Record) → TableRight pss rs → s ≡ enc_table rs → TableEnds pss s → ⊥
  right_not_ends s rs h e k =
      let c = (table_answer_exact pss s rs).1 (h, e) in
      let d = ends_number s k in
      let z : ◌≡◌ {A = ℕ} 0 1 = cc in
      omega arith

  pub right_not_offends : (s : List ℕ) (rs : List Record) → TableRight pss rs → s ≡ enc_table rs → TableOffends pss s → ⊥
  right_not_offends s rs h e k =
      let c = (table_answer_exact pss s rs).1 (h, e) in
      let d = offends_number s k in
      let z : ◌≡◌ {A = ℕ} 0 1 = cc in
      omega arith
