-- Commands on the actor's own stack come to the same in memory (000's rules ComPush, ComPushThis, ComNot, ComIfT, ComIfF, ComOp).
use Prim.Native.Nat.{ℕ, suc, ◌+◌, ◌-◌, ◌<◌, ◌≤◌}
use Rattle.std.proofs.Common.{arith, sym, ◌∙◌}
use Rattle.std.specs.Prelude.{◌≡◌, Bool, not, List, ◌∷◌, drop}
use Rattle.std.proofs.Math.Path.{refl, ap, subst}
use Rattle.std.proofs.Math.Bool.{true, false}
use Rattle.std.proofs.Math.Option.{some}
use Rattle.std.proofs.Math.ListN.{length, get_elem?}
use Rattle.std.proofs.Math.Dec.{eqb}
use Rattle.types.specs.Limits.{max_structs, max_instances, max_depth}
use Rattle.types.specs.Types.{Ty, Ty.bool, Ty.ref, code}
use Rattle.types.specs.Values.{Val, Val.bool_val, Val.label, word}
use Rattle.program.specs.Tree.{Op, Program}
use Rattle.program.specs.Encoding.{op_code}
use Rattle.commands.specs.Typing.{sort, Takes}
use Rattle.commands.specs.Tags.{result_type}
use Rattle.commands.specs.Noted.{Note, Note.n_push, Note.n_this, Note.n_not, Note.n_op, Note.n_if, now_written}
use Rattle.operators.specs.Apply.{Answer, Answer.value, Answer.outside, Answer.unfit, apply}
use Rattle.operators.specs.Ranges.{Fits as Answers}
use Rattle.operators.proofs.Laws.RangesLaws.{apply_fits}
use Rattle.operators.specs.Words.{apply_word, answered as as_words}
use Rattle.machine.specs.Published.{Sched, structs}
use Rattle.machine.specs.Machine.{Tagged, tagged, Source.result, Instance, Machine, with_code, with_written, put, operated, perform}
use Rattle.sound.specs.Invariant.{Good}
use Rattle.sound.specs.Firm.{Firm}
use Rattle.sound.proofs.Laws.ValueLaws.{bool_value, ranges}
use Rattle.sound.proofs.Laws.Outcomes.{negated, branched, operates}
use Rattle.layout.specs.Layout.{struct_of, cell, type_byte, operand, label_cell}
use Rattle.layout.specs.State.{State, of_head}
use Rattle.memory.specs.Act.{height, after, top, beneath, bool_byte, result_byte, do_push, do_this, do_not, do_if, do_op, answered}
use Rattle.memory.specs.Stands.{Shows, Stack, Stands}
use Rattle.memory.specs.Frame.{AllSlim, Bounded, After, Goes}
use Rattle.memory.proofs.Laws.CellLaws.{lasting_shows, label_shows, not_shows, shown_type, shown_operand, apply_shown, result_shows}
use Rattle.memory.proofs.Laws.HeldLaws.{holds_after, holds_over, holds_top, holds_beneath}
use Rattle.memory.proofs.Laws.StandsLaws.{has_row, gone_stands, pushed_stands}
use Rattle.memory.proofs.Laws.ActorLaws.{good_slim, actor_needs, actor_sized, actor_struct, push_room, this_room}

module _ {p : Program} {counts : List ℕ} (firm : Firm p) (bound : Bounded p counts) {m : Machine} (good : Good p m)
    (list : List ℕ) (P : ℕ → Sched → Type 0) (z : State) (st : Stands list P m z)
    (l : ℕ) (i : Instance) (at : get_elem? m.instances l ≡ some i) (c : List Note) where
  slim : AllSlim m.instances
  slim = good_slim firm bound good

  abbrev acting : Note → Instance
  acting n = with_written i (now_written n i.written)

  pub pushes : (t : Ty) (v : Val) → Goes p counts m list P z l i c (n_push t v)
  unfolding perform do_push
  pushes t v e =
      let held = st.each l i at in
      let h : height counts l z ≡ length i.stack = held.height in
      let r : length i.stack < max_depth = push_room firm bound good l i at c t v e in
      pushed_stands list P m z st slim l i at c i.stack (now_written (n_push t v) i.written) (height counts l z) (after counts l z) h held.stack
      (holds_after list z l i held (n_push t v) c e counts)
      (tagged t v)
      (cell (code t) (word v))
      (omega arith)
      (lasting_shows bound.few (actor_sized firm bound good l i at (n_push t v) c e))

  pub pushes_this : Goes p counts m list P z l i c n_this
  unfolding perform do_this
  pushes_this e =
      let held = st.each l i at in
      let h : height counts l z ≡ length i.stack = held.height in
      let r : length i.stack < max_depth = this_room firm bound good l i at c e in
      let k : of_head z l struct_of ≡ i.struct = held.struct in
      let a : i.struct < structs p = actor_struct firm bound good l i at n_this c e in
      let b : structs p ≤ max_structs = bound.few in
      let q : l < z.machine.count = has_row list P m z st l i at in
      let f : z.machine.count ≤ max_instances = st.few in
      pushed_stands list P m z st slim l i at c i.stack (now_written n_this i.written) (height counts l z) (after counts l z) h held.stack
      (holds_after list z l i held n_this c e counts)
      (tagged (ref i.struct) (label l))
      (label_cell (of_head z l struct_of) l)
      (omega arith)
      (label_shows (of_head z l struct_of) l (omega arith) (omega arith))

  pub negates : Goes p counts m list P z l i c n_not
  unfolding perform do_not
  negates e =
      let (x, (χ, s), (t, o)) = actor_needs firm bound good l i at n_not c e in
      let (b, q) = bool_value m.instances x.is o in
      let held = st.each l i at in
      let v : Stack z.cells l (x ∷ χ) = rw s at held.stack in
      let w : operand (top counts l z) ≡ word (bool_val b) = shown_operand (top counts l z) x.is (holds_top list z l i held counts x χ s) ∙ ap word q in
      let h : height counts l z ≡ length i.stack = held.height in
      let k : length i.stack ≡ suc (length χ) = ap length s in
      let r : length i.stack ≤ max_depth = (slim l i at).low in
      subst (After list P z (do_not counts l z)) (sym (negated p m l (acting n_not) c (s ∙ ap (λ u. tagged x.by u ∷ χ) q)))
      (pushed_stands list P m z st slim l i at c χ (now_written n_not i.written) (height counts l z - 1) (after counts l z) (omega arith) v.1
      (holds_after list z l i held n_not c e counts)
      (tagged bool (bool_val (not b)))
      (cell bool_byte (1 - operand (top counts l z)))
      (omega arith)
      (not_shows b (operand (top counts l z)) w))

  -- on where the condition holds, over the body where it does not
  branched_to : (n : ℕ) → i.code ≡ n_if n ∷ c → (χ : List Tagged) → height counts l z - 1 ≡ length χ → Stack z.cells l χ
      → (b : Bool) → operand (top counts l z) ≡ word (bool_val b)
      → Stands list P (put m l (with_code (acting (n_if n)) (elim b [ true ↦ c | false ↦ drop n c ]) χ)) (do_if counts l z n)
  unfolding do_if word
  branched_to n e χ h s true q =
      let t : eqb (operand (top counts l z)) 0 ≡ false = ap (λ (w : ℕ). eqb w 0) q in
      rw t
      (gone_stands list P m z st slim l i at c χ (now_written (n_if n) i.written) (height counts l z - 1) (after counts l z) h s
      (holds_after list z l i (st.each l i at) (n_if n) c e counts))
  branched_to n e χ h s false q =
      let t : eqb (operand (top counts l z)) 0 ≡ true = ap (λ (w : ℕ). eqb w 0) q in
      rw t
      (gone_stands list P m z st slim l i at (drop n c) χ (now_written (n_if n) i.written) (height counts l z - 1) (after counts l z + n) h s
      (holds_over list z l i (st.each l i at) (n_if n) c e counts n))

  pub branches : (n : ℕ) → Goes p counts m list P z l i c (n_if n)
  unfolding perform
  branches n e =
      let (x, (χ, s), (t, o)) = actor_needs firm bound good l i at (n_if n) c e in
      let (b, q) = bool_value m.instances x.is o in
      let held = st.each l i at in
      let v : Stack z.cells l (x ∷ χ) = rw s at held.stack in
      let w : operand (top counts l z) ≡ word (bool_val b) = shown_operand (top counts l z) x.is (holds_top list z l i held counts x χ s) ∙ ap word q in
      let h : height counts l z ≡ length i.stack = held.height in
      let k : length i.stack ≡ suc (length χ) = ap length s in
      subst (After list P z (do_if counts l z n)) (sym (branched p m l (acting (n_if n)) c n (s ∙ ap (λ u. tagged x.by u ∷ χ) q)))
      (branched_to n e χ (omega arith) v.1 b w)

  module _ (o : Op) (e : i.code ≡ n_op o ∷ c) (t u : Ty) (k : Takes (sort o) t u) (y x : Tagged) (χ : List Tagged) (s : i.stack ≡ y ∷ x ∷ χ) where
    -- a result on the stack, or number 35
    operates_to : (b : Shows (beneath counts l z) x.is) (w : Answer) → Answers u w
        → ((v : Val) → Answers u (value v) → Shows (cell (result_byte (op_code o) (type_byte (beneath counts l z))) (word v)) v)
        → After list P z (answered counts l z (result_byte (op_code o) (type_byte (beneath counts l z))) (as_words w))
        (operated p m l (acting (n_op o)) c χ (result o x.by) w)
    unfolding answered as_words operated
    operates_to b (value v) a f =
        let held = st.each l i at in
        let d : Stack z.cells l (y ∷ x ∷ χ) = rw s at held.stack in
        let h : height counts l z ≡ length i.stack = held.height in
        let k : length i.stack ≡ suc (suc (length χ)) = ap length s in
        let r : length i.stack ≤ max_depth = (slim l i at).low in
        pushed_stands list P m z st slim l i at c χ (now_written (n_op o) i.written) (height counts l z - 2) (after counts l z) (omega arith) d.1.1
        (holds_after list z l i held (n_op o) c e counts)
        (tagged (result_type (sort o) x.by) v)
        (cell (result_byte (op_code o) (type_byte (beneath counts l z))) (word v))
        (omega arith)
        (f v a)
    operates_to b outside a f = refl
    operates_to b unfit a f = absurd a

  pub operates_on : (o : Op) → Goes p counts m list P z l i c (n_op o)
  unfolding perform do_op
  operates_on o e =
      let (x, y, (χ, s), t, u, k, (a, f), (b, g)) = actor_needs firm bound good l i at (n_op o) c e in
      let held = st.each l i at in
      let sx = holds_beneath list z l i held counts y x χ s in
      let sy = holds_top list z l i held counts y (x ∷ χ) s in
      let rx = ranges m.instances t x.is f in
      let ry = ranges m.instances t y.is g in
      let tx : type_byte (beneath counts l z) ≡ code sx.by = shown_type (beneath counts l z) x.is sx in
      let ox : operand (beneath counts l z) ≡ word x.is = shown_operand (beneath counts l z) x.is sx in
      let oy : operand (top counts l z) ≡ word y.is = shown_operand (top counts l z) y.is sy in
      let q : apply_word (op_code o) (type_byte (beneath counts l z)) (operand (beneath counts l z)) (operand (top counts l z))
      ≡ as_words (apply o x.is y.is) =
      rw (tx, ox, oy) (apply_shown o sx.by sx.held rx ry) in
      subst (After list P z (do_op counts l z (op_code o))) (sym (operates p m l (acting (n_op o)) c o s))
      (subst
      (λ w. After list P z (answered counts l z (result_byte (op_code o) (type_byte (beneath counts l z))) w)
      (operated p m l (acting (n_op o)) c χ (result o x.by) (apply o x.is y.is)))
      (sym q)
      (operates_to o e t u k y x χ s sx (apply o x.is y.is) (apply_fits o k rx ry)
      (λ v r. subst (λ (d : ℕ). Shows (cell (result_byte (op_code o) d) (word v)) v) (sym tx) (result_shows o sx.by k sx.held rx r))))
