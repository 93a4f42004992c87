-- Each way behind a derivation (02 §1): names or declarations with 17, counts or bytes with 17, or a stream, as it stands in lent memory.
use Rattle.std.specs.Prelude.{ℕ, ◌+◌, ◌-◌, ◌<◌, ◌≤◌, ◌≡◌, List, length, get_or, take, drop, Option, Some, None, Result, Ok, Err}
use Rattle.std.specs.Option.{ok_or}
use Rattle.std.specs.Result.{IsErrAnd}
use Rattle.types.specs.Refusals.{numbered}
use Rattle.types.specs.declared.refusal.Refusal.TheVariants.{NoProgram}
use Rattle.types.specs.declared.refusal.Refusal.{Refusal}
use Rattle.std.proofs.Common.{arith, ◌∙◌, length-drop, length-take, get_or-take, get_or-drop, take_all}
use Rattle.std.proofs.Math.Path.{refl, sym, ap}
use Rattle.std.proofs.Math.Option.{none, some}
use Rattle.types.specs.Numbers.{no_program}
use Rattle.meaning.specs.Meant.{then}
use Rattle.derive.specs.Held.{held}
use Rattle.resolve.specs.Tables.{places, offsets}
use Rattle.resolve.specs.Checks.{part_of}
use Rattle.resolve.specs.Resolved.{resolved}
use Rattle.compose.specs.Header.{Rows}
use Rattle.compose.specs.Composed.{composed, composed_by, type_bytes}
use Rattle.compose.proofs.Laws.StreamLaws.{resolved_rows}
use Rattle.uses.specs.Declaring.{Tabled}
use Rattle.uses.specs.Lent.{numbered_in, Counted}
use Rattle.uses.specs.declared.NoProgram.{NoProgram as Unnumbered}
use Rattle.composing.specs.Placing.{placed_in}
use Rattle.read_text.specs.Ending.{Ending.stopped, ended, answer, answer_of, left}
use Rattle.read_text.specs.declared.Answer.{Answer}
use Rattle.read_text.specs.Roled.{Roled, stream_of}
use Rattle.read_text.specs.StreamLaws.{held_front, composed_long}
use Rattle.read_text.specs.TableLaws.{last_offset}
use Rattle.text_shape.specs.RoleNames.{new_par_role, first_type_role, last_par_type_role}
use Rattle.meaning.specs.Holds.{max_stream}
use Rattle.uses.specs.Layout.{offsets_place, types_place, struct_count_place, table_size}

-- The tables that are lent -------------------------------------------------------------------------

-- the offsets and the bytes of types, as parts of one table
module _ (x cs t : List ℕ) (r : Roled x cs) (ok : Rows (offsets new_par_role cs) (type_bytes x cs)) (b : Tabled x cs t) where
  abbrev structs : ℕ
  structs = get_or t struct_count_place 0

  abbrev count : ℕ
  count = get_or t (offsets_place + structs) 0

  offsets_lent : part_of t offsets_place (offsets_place + structs + 1) ≡ offsets new_par_role cs
  offsets_lent = ap (λ n. part_of t offsets_place n) (let e : offsets_place + structs + 1 ≡ offsets_place + 1 + structs = omega arith in e) ∙ b.rows

  offsets_long : length (offsets new_par_role cs) ≡ structs + 1
  offsets_long = sym (ap length offsets_lent) ∙ simp (length-take, length-drop) (omega (arith, b.booked.long, b.booked.structs))

  counted : count ≡ length (places first_type_role last_par_type_role cs)
  counted =
      let e : get_or (part_of t offsets_place (offsets_place + structs + 1)) structs 0 ≡ count =
      get_or-take (offsets_place + structs + 1 - offsets_place) (drop offsets_place t) structs 0 (omega arith) ∙ get_or-drop offsets_place t structs 0 in
      sym e ∙ ap (λ l. get_or l structs 0) offsets_lent ∙ last_offset x cs r.derivation r.stands structs (omega (arith, offsets_long))

  types_lent : part_of t types_place (types_place + count) ≡ type_bytes x cs
  types_lent = ap (λ n. part_of t types_place (types_place + n)) counted ∙ b.types

  -- they stand in the table
  pub within : (offsets_place + structs + 1 ≤ table_size) × (types_place + count ≤ table_size)
  within = (omega (arith, b.booked.structs), omega (arith, counted, b.few))

  pub rows_lent : Rows (part_of t offsets_place (offsets_place + structs + 1)) (part_of t types_place (types_place + count))
  rows_lent = rw (offsets_lent, types_lent) ok

  pub composed_lent : (ns : List ℕ) → composed_by (part_of t offsets_place (offsets_place + structs + 1))
      (part_of t types_place (types_place + count)) x cs ns ≡ composed x cs ns
  unfolding composed
  composed_lent ns = rw (offsets_lent, types_lent) refl

-- A refusal in place of nothing --------------------------------------------------------------------

module _ (r : Result ℕ Refusal) (e : Refusal) where
  pub ok_or_some : {p : ℕ} (o : Option ℕ) → r ≡ ok_or o e → r ≡ Ok p → o ≡ Some p
  ok_or_some (Some q) f g = cc
  ok_or_some None f g = absurd (let z : ◌≡◌ {A = ℕ} 0 1 = cc in omega arith)

  pub ok_or_none : {f : Refusal} (o : Option ℕ) → r ≡ ok_or o e → r ≡ Err f → (o ≡ None) × (f ≡ e)
  ok_or_none None f g = (refl, cc)
  ok_or_none (Some q) f g = absurd (let z : ◌≡◌ {A = ℕ} 0 1 = cc in omega arith)

-- by the refusal of a text that is no program
pub none_refused : (r : Result ℕ Refusal) → IsErrAnd r (λ e. e ≡ NoProgram) → answer_of (numbered r) ≡ answer (stopped no_program)
none_refused (Err e) h = ap (λ e. answer_of (numbered {A = ℕ} (Err e))) h
none_refused (Ok k) h = absurd h

pub same_refused : (r : Result ℕ Refusal) {f : Refusal} → f ≡ NoProgram → IsErrAnd r (λ e. e ≡ f) → answer_of (numbered r) ≡ answer (stopped no_program)
same_refused (Err e) g h = ap (λ e. answer_of (numbered {A = ℕ} (Err e))) (h ∙ g)
same_refused (Ok k) g h = absurd h

-- The ways -------------------------------------------------------------------------------------------

-- 17 where there is no stream
none_ends : (x cs out : List ℕ) → stream_of x cs ≡ none → (a : Answer) → a ≡ answer (stopped no_program)
    → (a ≡ answer (ended (stream_of x cs) out)) × (out ≡ left (ended (stream_of x cs) out) out)
unfolding ended left
none_ends x cs out e a f = rw (e, f) (refl, refl)

module _ (x cs out l : List ℕ) (r : Result ℕ Unnumbered) (e : numbered_in l r ≡ resolved x cs) where
  unnamed : (p : Unnumbered) → r ≡ Err p → stream_of x cs ≡ none
  unfolding numbered_in then
  unnamed p f = rw (← e, f) refl

  pub unnamed_ends : (p : Unnumbered) → r ≡ Err p → (a : Answer) → a ≡ answer (stopped no_program)
      → (a ≡ answer (ended (stream_of x cs) out)) × (out ≡ left (ended (stream_of x cs) out) out)
  unnamed_ends p f = none_ends x cs out (unnamed p f)

  module _ (n : ℕ) (f : r ≡ Ok n) where
    named : resolved x cs ≡ some (held l n)
    unfolding numbered_in
    named = sym e ∙ rw f refl

    pub rows_there : Roled x cs → Rows (offsets new_par_role cs) (type_bytes x cs)
    rows_there s = resolved_rows x cs (held l n) s.derivation s.stands named

    pub count_told : {A : Type 0} → Counted l r A → (n ≤ length l) × A
    unfolding Counted
    count_told h = rw f at h

    module _ (b : n ≤ length l) (o : List ℕ) (q : Option ℕ) (g : placed_in o q ≡ composed x cs (held (take n l) (length (take n l)))) where
      streamed : stream_of x cs ≡ placed_in o q
      unfolding then
      streamed = rw named (sym (g ∙ ap (composed x cs) (held_front l n b)))

      over : q ≡ None → stream_of x cs ≡ none
      unfolding placed_in
      over h = streamed ∙ rw h refl

      pub over_ends : q ≡ None → (a : Answer) → a ≡ answer (stopped no_program)
          → (a ≡ answer (ended (stream_of x cs) out)) × (out ≡ left (ended (stream_of x cs) out) out)
      over_ends h = none_ends x cs out (over h)

      module _ (p : ℕ) (h : q ≡ Some p) where
        at_place : stream_of x cs ≡ some (drop p o)
        unfolding placed_in
        at_place = streamed ∙ rw h refl

        long : (1 ≤ length (drop p o)) × (length (drop p o) ≤ max_stream)
        unfolding composed placed_in
        long = composed_long (offsets new_par_role cs) (type_bytes x cs) x cs (held (take n l) (length (take n l))) (drop p o) (sym g ∙ rw h refl)

        pub inside : p < length o
        inside = let k = length-drop p o in omega (arith, long.0)

        -- the stream is the part from there on
        module _ (m : ℕ) (k : length o ≡ m) where
          part_is : take (m - p) (drop p o) ≡ drop p o
          part_is = take_all (m - p) (drop p o) (let d = length-drop p o in omega arith)

          pub stream_long : (1 ≤ length (take (m - p) (drop p o))) × (length (take (m - p) (drop p o)) ≤ max_stream)
          stream_long = rw part_is long

          pub at_ends : (a : Answer) (u : List ℕ)
              → (a ≡ answer (ended (some (take (m - p) (drop p o))) out)) × (u ≡ left (ended (some (take (m - p) (drop p o))) out) out)
              → (a ≡ answer (ended (stream_of x cs) out)) × (u ≡ left (ended (stream_of x cs) out) out)
          at_ends a u w = rw (at_place, ← part_is) w
