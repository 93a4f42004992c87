-- What memory tells is what the machine has (docs/FORMAT.md, 'Traces'): the values on a stack with their types, the stability entries, the position and
-- the text of a command, where memory is ready for the machine.
use Prim.Native.Nat.{ℕ, zero, suc, ◌+◌, ◌-◌, ◌*◌, ◌/◌, ◌%◌, ◌<◌, ◌≤◌}
use native.Mathlib.Omega.{arith}
use Rattle.std.proofs.Math.Decide.{ℕ_discrete}
use Rattle.std.specs.Prelude.{◌≡◌, Bool, true, false, ltb, get_or, take, drop}
use Rattle.std.proofs.Math.Path.{refl, ap}
use Rattle.std.proofs.Common.{sym, ◌∙◌, subst, length-drop, length-take-le}
use Rattle.std.proofs.Math.Option.{Option, none, some}
use mathlib.Core.List.{List, [], ◌∷◌, ◌++◌, map}
use Rattle.std.proofs.Math.ListN.{length, get_elem?, length-map}
use borrow.Author.Tests.{lt-ltb, le-ltb}
use Rattle.types.specs.Limits.{max_structs, max_instances, step_names}
use Rattle.types.specs.Types.{Ty, Ty.int, Ty.nat, Ty.bool, Ty.ref, struct_code, IsType, code}
use Rattle.types.specs.Values.{Val, word}
use Rattle.types.specs.TypeBytes.{ValueOf}
use Rattle.program.specs.Tree.{Stmts, Program}
use Rattle.program.specs.Counts.{All}
use Rattle.commands.specs.Commands.{commands}
use Rattle.commands.specs.Coding.{words, command_word}
use Rattle.commands.specs.Context.{context, step_of}
use Rattle.commands.specs.Noted.{Note, Note.n_push, Note.n_this, Note.n_not, Note.n_rd, Note.n_wr, Note.n_get, Note.n_set, Note.n_cons, Note.n_op}
use Rattle.commands.specs.Noted.{Note.n_if, erase, noted}
use Rattle.commands.proofs.Laws.NotedLaws.{erased}
use Rattle.operators.specs.Ranges.{Of as Range, Of.of_int, Of.of_nat, Of.of_bool, Of.of_ref}
use Rattle.table.specs.Table.{Each}
use Rattle.machine.specs.Published.{Sched, structs}
use Rattle.machine.specs.Machine.{Tagged, Instance, Machine}
use Rattle.sound.specs.Needs.{ValueAmong}
use Rattle.sound.specs.Invariant.{Job, Fits, Place, Place.resting, Place.passing}
use Rattle.sound.specs.Sized.{Lasting, Lasting.an_int, Lasting.a_nat, Lasting.a_bool, Lasting.a_null, Sized}
use Rattle.sound.proofs.Laws.ValueLaws.{ranges}
use Rattle.layout.specs.Layout.{head, struct_of, height_of, next_of, end_of, stacked, cell, type_byte, operand}
use Rattle.layout.specs.State.{State, of_head}
use Rattle.memory.specs.Act.{next_word}
use Rattle.memory.specs.Plan.{from, to, Spans, At}
use Rattle.memory.specs.Stands.{Shows, Stack, Held, Stands, note_words, bits}
use Rattle.memory.proofs.Laws.CellLaws.{shown_type, shown_operand}
use Rattle.memory.proofs.Laws.HeldLaws.{holds_word}
use Rattle.memory.proofs.Laws.StandsLaws.{has_row}
use Rattle.memory.proofs.Laws.ActorLaws.{good_slim, actor_sized}
use Rattle.interpreter.specs.Ready.{Ready}
use Rattle.text.specs.Listing.{decimal, value_text, text}
use Rattle.text.specs.CommandText.{shown, Listed}
use Rattle.text.specs.CommandTextLaws.{value_shown, text_command}
use Rattle.trace.specs.LineText.{tagged_text, stack_text, bits as entry_bits, stability_text, step_size, position, next_text}
use Rattle.trace_lines.specs.Parts.{tag_of, worth, cell_text, cells_text, CellFits, StackFits, bit_text, entries_text, position_of}

-- a cell shows its value
pub worth_shown : (c : ℕ) (v : Val) → Shows c v → worth c ≡ shown v
worth_shown c v s = rw (shown_type c v s, shown_operand c v s) (value_shown s.by v s.held)

-- Entries ----------------------------------------------------------------------

entry_digits : (b : List Bool) → bit_text (length b) (bits b) ≡ entry_bits b
unfolding bit_text bits entry_bits
entry_digits [] = refl
entry_digits (true ∷ b) =
    let e : suc (2 * bits b) % 2 ≡ 1 = omega arith in
    let f : suc (2 * bits b) / 2 ≡ bits b = omega arith in
    rw (e, f, entry_digits b)
entry_digits (false ∷ b) =
    let e : (2 * bits b) % 2 ≡ 0 = omega arith in
    let f : (2 * bits b) / 2 ≡ bits b = omega arith in
    rw (e, f, entry_digits b)

-- those of a machine that memory holds
pub stands_text : {list : List ℕ} {P : ℕ → Sched → Type 0} {m : Machine} {z : State} → Stands list P m z
    → entries_text z.machine.fixes z.machine.stable ≡ stability_text m.stability
unfolding entries_text stability_text
stands_text {m = m} s = rw (s.opened, s.entries, entry_digits m.stability)

-- Commands ---------------------------------------------------------------------

-- a command that carries what is in its range is listed
lasting_listed : {S : ℕ} {t : Ty} {v : Val} → S ≤ max_structs → Lasting S t v → (IsType max_structs t) × (ValueOf t v)
lasting_listed h (an_int r) = (tt, r)
lasting_listed h (a_nat r) = (tt, r)
lasting_listed h a_bool = (tt, tt)
lasting_listed h (a_null r) = (omega arith, omega arith)

sized_listed : {S : ℕ} → S ≤ max_structs → (n : Note) → Sized S n → Listed (erase n)
unfolding erase
sized_listed h (n_push t v) s = lasting_listed h s
sized_listed h n_this s = tt
sized_listed h n_not s = tt
sized_listed h (n_rd k x) s = tt
sized_listed h (n_wr k x) s = tt
sized_listed h (n_get t x) s = tt
sized_listed h (n_set d t x) s = tt
sized_listed h (n_cons k) s = tt
sized_listed h (n_op o) s = tt
sized_listed h (n_if n) s = tt

-- as many words as commands
part_length : (list : List ℕ) (a e : ℕ) (ws : List ℕ) → e ≤ length list → take (e - a) (drop a list) ≡ ws → e - a ≡ length ws
part_length list a e ws h q =
    let d = length-drop a list in
    sym (length-take-le (e - a) (drop a list) (omega arith)) ∙ ap length q

step_length : (p : Program) (list : List ℕ) (k a e : ℕ) (o : Option Stmts) → Spans list a e o → e - a ≡ step_size p k o
unfolding step_size words
step_length p list k a e none s = omega arith
step_length p list k a e (some b) s =
    part_length list a e (words (commands b)) s.1 s.2
    ∙ length-map (commands b) command_word ∙ ap length (sym (erased (context p k b) b)) ∙ length-map (noted (context p k b) b) erase

-- Types ------------------------------------------------------------------------

-- each value of a stack is of the type by what put it there
abbrev Among : List Instance → Tagged → Type 0
Among is x = ValueAmong is x.by x.is

each_among : (is : List Instance) (ts : List Ty) (χ : List Tagged) → Each (Fits is) ts χ → All (Among is) χ
each_among is [] [] e = tt
each_among is [] (x ∷ χ) e = absurd e
each_among is (t ∷ ts) [] e = absurd e
each_among is (t ∷ ts) (x ∷ χ) (f, e) = (rw f.0 f.1, each_among is ts χ e)

place_among : {p : Program} {r : Option Job} {is : List Instance} {l : ℕ} (i : Instance) → Place p r is l i → All (Among is) i.stack
place_among i (resting c s) = rw s tt
place_among {is = is} i (passing g e) = each_among is g.place.stack i.stack g.stacked

module _ {p : Program} {counts list items spans : List ℕ} {m : Machine} {z : State} (r : Ready p counts list items spans m z) where
  -- the row of an instance, and its struct
  pub row_of : (l : ℕ) (i : Instance) → get_elem? m.instances l ≡ some i → (l < max_instances) × (of_head z l struct_of < max_structs) ×
      (i.struct < structs p)
  row_of l i at =
      let a : l < z.machine.count = has_row list (At items) m z r.stands l i at in
      let b : z.machine.count ≤ max_instances = r.stands.few in
      let k : i.struct < structs p = (r.tabled.each l i at).0 in
      let s : structs p ≤ max_structs = r.prepared.bounded.few in
      let e : of_head z l struct_of ≡ i.struct = (r.stands.each l i at).struct in
      (omega arith, omega arith, k)

  -- Stacks -----------------------------------------------------------------------

  -- the type byte, or the struct of the label's instance
  typed : {t : Ty} {v : Val} (u : Ty) → Range t v → ValueAmong m.instances t v → ValueOf u v
      → tag_of z.heads (code u) (word v) ≡ code t
  unfolding tag_of code word
  typed int (of_int h) a b = refl
  typed int (of_nat h) a b = absurd b
  typed int of_bool a b = absurd b
  typed int of_ref a b = absurd b
  typed nat (of_int h) a b = absurd b
  typed nat (of_nat h) a b = refl
  typed nat of_bool a b = absurd b
  typed nat of_ref a b = absurd b
  typed bool (of_int h) a b = absurd b
  typed bool (of_nat h) a b = absurd b
  typed bool of_bool a b = refl
  typed bool of_ref a b = absurd b
  typed (ref k) (of_int h) a b = absurd b
  typed (ref k) (of_nat h) a b = absurd b
  typed (ref k) of_bool a b = absurd b
  typed (ref k) (of_ref {l = l}) (i, at, s) b =
      rw (tag_of, le-ltb (struct_code + k) struct_code (omega arith)) (ap (λ (n : ℕ). struct_code + n) ((r.stands.each l i at).struct ∙ s))

  -- a label's instance has a row
  labelled : {t : Ty} {v : Val} (u : Ty) → Range t v → ValueAmong m.instances t v → ValueOf u v → struct_code ≤ code u
      → (head (word v) struct_of < length z.heads) × (of_head z (word v) struct_of < max_structs)
  unfolding code word
  labelled int q a b h = absurd (omega arith)
  labelled nat q a b h = absurd (omega arith)
  labelled bool q a b h = absurd (omega arith)
  labelled (ref k) (of_int g) a b h = absurd b
  labelled (ref k) (of_nat g) a b h = absurd b
  labelled (ref k) of_bool a b h = absurd b
  labelled (ref k) (of_ref {l = l}) (i, at, s) b h =
      let (x, y, w) = row_of l i at in
      let e = r.stands.heads_long in
      (omega arith, y)

  module _ (c : ℕ) (x : Tagged) (s : Shows c x.is) (a : Among m.instances x) where
    cell_fits : CellFits z.heads c
    cell_fits =
        let e = shown_type c x.is s in
        let f = shown_operand c x.is s in
        let g = labelled s.by (ranges m.instances x.by x.is a) a s.held in
        record { row = λ h. rw f (g (rw e at h)).0; known = λ h. rw f (g (rw e at h)).1 }

    cell_is : cell_text z.heads c ≡ 32 ∷ tagged_text x
    unfolding cell_text tagged_text
    cell_is =
        let q = typed s.by (ranges m.instances x.by x.is a) a s.held in
        rw (worth_shown c x.is s, shown_type c x.is s, shown_operand c x.is s, q)

  stack_is : (l : ℕ) (χ : List Tagged) → Stack z.cells l χ → All (Among m.instances) χ
      → (cells_text z.heads z.cells l (length χ) ≡ stack_text χ)
      × ((h : ℕ) → h < length χ → CellFits z.heads (get_or z.cells (stacked l h) 0))
  unfolding cells_text stack_text
  stack_is l [] s a = (refl, λ h b. absurd (omega arith))
  stack_is l (x ∷ χ) (s, S) (a, A) =
      let (e, f) = stack_is l χ S A in (
        rw (e, cell_is (get_or z.cells (stacked l (length χ)) 0) x s a),
        λ h b. at h b f (ℕ_discrete h (length χ)),
      )
    where
      at : (h : ℕ) → h < suc (length χ) → ((k : ℕ) → k < length χ → CellFits z.heads (get_or z.cells (stacked l k) 0)) → Dec (h ≡ length χ)
          → CellFits z.heads (get_or z.cells (stacked l h) 0)
      at h b f (yes q) = rw q (cell_fits (get_or z.cells (stacked l (length χ)) 0) x s a)
      at h b f (no q) = f h (omega (arith, b, q))

  -- Instances --------------------------------------------------------------------

  module _ (l : ℕ) (i : Instance) (at : get_elem? m.instances l ≡ some i) where
    held : Held list z l i
    held = r.stands.each l i at

    whole : (cells_text z.heads z.cells l (length i.stack) ≡ stack_text i.stack)
        × ((h : ℕ) → h < length i.stack → CellFits z.heads (get_or z.cells (stacked l h) 0))
    whole = stack_is l i.stack held.stack (place_among i (r.good.all.each l i at).place)

    pub stack_fits : StackFits z.heads z.cells l
    stack_fits =
        let (a, b, c) = row_of l i at in
        let h = r.stands.heads_long in
        let w = r.stands.cells_long in
        let e : of_head z l height_of ≡ length i.stack = held.height in
        let d = (good_slim r.prepared.firm r.prepared.bounded r.good l i at).low in
        record { row = omega arith; low = omega arith; wide = omega arith; each = λ k g. whole.1 k (omega arith) }

    pub stack_told : cells_text z.heads z.cells l (of_head z l height_of) ≡ stack_text i.stack
    stack_told = rw held.height whole.0

    pub position_told : (n : ℕ) → n < step_names → position_of spans z.heads l n ≡ position p i.struct n i.code
    unfolding position_of position words
    position_told n h =
        let (a, b, c) = row_of l i at in
        let s = step_length p list i.struct (from spans i.struct n) (to spans i.struct n) (step_of p i.struct n)
        (r.prepared.located i.struct n c h) in
        let e = part_length list (of_head z l next_of) (of_head z l end_of) (note_words i.code) held.within held.code
        ∙ length-map (map erase i.code) command_word ∙ length-map i.code erase in
        rw (held.struct, s, e)

    pub command_told : (n : Note) (c : List Note) → i.code ≡ n ∷ c → text (next_word list z l) ≡ next_text i.code
    unfolding next_text
    command_told n c e =
        let few : structs p ≤ max_structs = r.prepared.bounded.few in
        let s = sized_listed few n (actor_sized r.prepared.firm r.prepared.bounded r.good l i at n c e) in
        ap text (holds_word list z l i held n c e) ∙ text_command (erase n) s ∙ rw e
