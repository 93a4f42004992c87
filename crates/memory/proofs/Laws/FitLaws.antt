-- The next command of an instance fits memory that holds a machine with the invariant (01, 'The words of demand 3').
use Rattle.std.specs.Prelude.{ℕ, suc, ◌+◌, ◌-◌, ◌%◌, ◌<◌, ◌≤◌, ◌≡◌, Bool, true, false, List, ◌∷◌, ◌++◌, reverse, length, get_or, Ok}
use Rattle.std.proofs.Common.{arith, ap, sym, ◌∙◌, subst, length-append}
use Rattle.std.proofs.Math.Option.{some}
use Rattle.std.proofs.Math.ListN.{get_elem?}
use Rattle.std.proofs.lemmas.List.{length-reverse}
use Rattle.types.specs.Limits.{nat_end, max_structs, max_depth, first_local, max_locals, variables}
use Rattle.types.specs.Types.{Ty, Ty.int, Ty.nat, Ty.bool}
use Rattle.types.specs.Values.{Val, Val.int_val, Val.nat_val, Val.bool_val, Val.label, word}
use Rattle.program.specs.Tree.{Op, Program}
use Rattle.program.specs.Encoding.{op_code}
use Rattle.program.proofs.Laws.ExprLaws.{op_range}
use Rattle.commands.specs.Context.{params_of}
use Rattle.commands.specs.Typing.{Sort, sort, Takes, Takes.any_equal, Takes.order_int, Takes.order_nat, Takes.arith_int, Takes.arith_nat, Takes.logic_bool}
use Rattle.commands.specs.Noted.{Note, Note.n_push, Note.n_this, Note.n_not, Note.n_rd, Note.n_wr, Note.n_get, Note.n_set, Note.n_cons, Note.n_op, Note.n_if}
use Rattle.operators.specs.Apply.{Answer, Answer.value, Answer.outside, Answer.unfit, apply}
use Rattle.operators.specs.Ranges.{Of as Range, Of.of_int, Of.of_nat, Of.of_bool, Fits as Answers}
use Rattle.operators.proofs.Laws.RangesLaws.{apply_fits}
use Rattle.operators.specs.Words.{apply_word, answered}
use Rattle.machine.specs.Published.{Sched, structs, arity}
use Rattle.machine.specs.Machine.{Tagged, Instance, Machine}
use Rattle.sound.specs.Needs.{ValueAmong, Operand}
use Rattle.sound.specs.Invariant.{Good}
use Rattle.sound.specs.Firm.{Firm}
use Rattle.sound.proofs.Laws.EachLaws.{each_length}
use Rattle.sound.proofs.Laws.ValueLaws.{bool_value, label_value, ranges}
use Rattle.layout.specs.Layout.{struct_of, next_of, end_of, type_byte, operand}
use Rattle.layout.specs.State.{State, of_head}
use Rattle.memory.specs.Act.{height, top, beneath, next_word}
use Rattle.memory.specs.Stands.{Stands}
use Rattle.memory.specs.Frame.{Bounded, kind_of, operand_of}
use Rattle.memory.specs.Fit.{RdFit, WrFit, ConsFit, TruthFit, OpFit, Needed, Fit}
use Rattle.memory.proofs.Laws.CellLaws.{word_below, shown_type, shown_operand, shown_below, apply_shown}
use Rattle.memory.proofs.Laws.HeldLaws.{holds_next, holds_within, holds_word, holds_top, holds_label, holds_beneath}
use Rattle.memory.proofs.Laws.StandsLaws.{has_row}
use Rattle.memory.proofs.Laws.ActorLaws.{counts_length, count_of, has_param, good_slim, actor_needs, actor_sized, actor_jump, actor_struct}
use Rattle.memory.proofs.Laws.ActorLaws.{push_room, this_room, cons_room}
use Rattle.memory.proofs.Laws.VarActs.{own_local}
use Rattle.memory.proofs.Laws.Acts.{kind_bounds, word_says}

-- Words of results --------------------------------------------------------------------

truth_word : (b : Bool) → word (bool_val b) ≤ 1
unfolding word
truth_word true = omega arith
truth_word false = omega arith

result_below : {s : Sort} {t u : Ty} {w : Val} → Takes s t u → Range u w → word w < nat_end
result_below any_equal (of_bool {t = b}) = word_below bool (bool_val b) tt
result_below order_int (of_bool {t = b}) = word_below bool (bool_val b) tt
result_below order_nat (of_bool {t = b}) = word_below bool (bool_val b) tt
result_below arith_int (of_int {z = x} h) = word_below int (int_val x) h
result_below arith_nat (of_nat {n = n} h) = word_below nat (nat_val n) h
result_below logic_bool (of_bool {t = b}) = word_below bool (bool_val b) tt

answer_below : {s : Sort} {t u : Ty} → Takes s t u → (w : Answer) → Answers u w → (v : ℕ) → answered w ≡ Ok v → v < nat_end
unfolding answered
answer_below k (value x) a v e = let q : word x ≡ v = cc in rw (← q) (result_below k a)
answer_below k outside a v e = let z : ◌≡◌ {A = ℕ} 0 1 = cc in absurd (omega arith)
answer_below k unfit a v e = absurd a

-- The command fits ---------------------------------------------------------------------

module _ {p : Program} {counts : List ℕ} (firm : Firm p) (bound : Bounded p counts) {m : Machine} (good : Good p m)
    (list : List ℕ) (P : ℕ → Sched → Type 0) (z : State) (st : Stands list P m z)
    (l : ℕ) (i : Instance) (at : get_elem? m.instances l ≡ some i) (c : List Note) where
  stack_high : height counts l z ≡ length i.stack
  stack_high = (st.each l i at).height

  stack_low : height counts l z ≤ max_depth
  stack_low = let a = stack_high in let b = (good_slim firm bound good l i at).low in omega arith

  truth_fit : (x : Tagged) (χ : List Tagged) → i.stack ≡ x ∷ χ → ValueAmong m.instances bool x.is → TruthFit (height counts l z) (top counts l z)
  truth_fit x χ s o =
      let (b, q) = bool_value m.instances x.is o in
      let a = stack_high in
      let k : length i.stack ≡ suc (length χ) = ap length s in
      let w : operand (top counts l z) ≡ word (bool_val b) =
      shown_operand (top counts l z) x.is (holds_top list z l i (st.each l i at) counts x χ s) ∙ ap word q in
      record { one = omega arith; low = stack_low; truth = rw w (truth_word b) }

  rd_fit : (v : ℕ) → v < variables → (x : Tagged) (χ : List Tagged) → i.stack ≡ x ∷ χ → (r : ℕ) → x.is ≡ label r
      → (j : Instance) → get_elem? m.instances r ≡ some j
      → RdFit (height counts l z) (top counts l z) z.machine.count v
  rd_fit v b x χ s r q j at' =
      let a = stack_high in
      let k : length i.stack ≡ suc (length χ) = ap length s in
      record {
        one = omega arith;
        low = stack_low;
        target = rw (holds_label list z l i (st.each l i at) counts x χ s r q) (has_row list P m z st r j at');
        var = b;
      }

  wr_fit : (v : ℕ) → v < variables → (y x : Tagged) (χ : List Tagged) → i.stack ≡ y ∷ x ∷ χ → (r : ℕ) → y.is ≡ label r
      → (j : Instance) → get_elem? m.instances r ≡ some j → j.struct < structs p
      → WrFit (height counts l z) (top counts l z) z.machine.count v (of_head z (operand (top counts l z)) struct_of) (length counts)
  wr_fit v b y x χ s r q j at' f =
      let a = stack_high in
      let k : length i.stack ≡ suc (suc (length χ)) = ap length s in
      let w : operand (top counts l z) ≡ r = holds_label list z l i (st.each l i at) counts y (x ∷ χ) s r q in
      let d : of_head z r struct_of ≡ j.struct = (st.each r j at').struct in
      let g : length counts ≡ structs p = counts_length bound in
      record {
        two = omega arith;
        low = stack_low;
        target = rw w (has_row list P m z st r j at');
        var = b;
        struct = rw w (omega arith);
      }

  op_fit : (o : Op) (t u : Ty) → Takes (sort o) t u → (y x : Tagged) (χ : List Tagged) → i.stack ≡ y ∷ x ∷ χ
      → ValueAmong m.instances t x.is → ValueAmong m.instances t y.is
      → OpFit (height counts l z) (beneath counts l z) (top counts l z) (op_code o)
  op_fit o t u k y x χ s f g =
      let a = stack_high in
      let n : length i.stack ≡ suc (suc (length χ)) = ap length s in
      let sx = holds_beneath list z l i (st.each l i at) counts y x χ s in
      let sy = holds_top list z l i (st.each l i at) counts y (x ∷ χ) s in
      let rx = ranges m.instances t x.is f in
      let ry = ranges m.instances t y.is g in
      let tx = shown_type (beneath counts l z) x.is sx in
      let ox = shown_operand (beneath counts l z) x.is sx in
      let oy = shown_operand (top counts l z) y.is sy in
      let q : apply_word (op_code o) (type_byte (beneath counts l z)) (operand (beneath counts l z)) (operand (top counts l z))
      ≡ answered (apply o x.is y.is) =
      rw (tx, ox, oy) (apply_shown o sx.by sx.held rx ry) in
      record {
        two = omega arith;
        low = stack_low;
        byte = omega (arith, op_range o);
        left = shown_below (beneath counts l z) x.is sx;
        right = shown_below (top counts l z) y.is sy;
        result = λ v e. answer_below k (apply o x.is y.is) (apply_fits o k rx ry) v (sym q ∙ e);
      }

  cons_fit : (k : ℕ) → i.code ≡ n_cons k ∷ c → ConsFit counts (height counts l z) k
  cons_fit k e =
      let (xs, (χ, s), f) = actor_needs firm bound good l i at (n_cons k) c e in
      let a = stack_high in
      let b : length i.stack ≡ length (reverse xs ++ χ) = ap length s in
      let d : length (reverse xs ++ χ) ≡ length (reverse xs) + length χ = length-append (reverse xs) χ in
      let g : length (reverse xs) ≡ length xs = length-reverse xs in
      let h : length xs ≡ arity p k = each_length (Operand p m) (params_of p k) xs f in
      let n : get_or counts k 0 ≡ arity p k = count_of bound k in
      let w : length (params_of p k) ≤ first_local = firm.few k in
      let r : length i.stack - arity p k < max_depth = cons_room firm bound good l i at c k e in
      let q : k < structs p = actor_sized firm bound good l i at (n_cons k) c e in
      let v : structs p ≤ max_structs = bound.few in
      let y : length counts ≡ structs p = counts_length bound in
      record { known = omega arith; struct = omega arith; params = omega arith; enough = omega arith; low = stack_low; room = omega arith }

  fits_note : (n : Note) → i.code ≡ n ∷ c → Needed counts l z (kind_of n) (operand_of n)
  fits_note (n_push t v) e =
      let a = stack_high in
      let r : length i.stack < max_depth = push_room firm bound good l i at c t v e in
      record { room = omega arith }
  fits_note n_this e =
      let a = stack_high in
      let r : length i.stack < max_depth = this_room firm bound good l i at c e in
      let k : of_head z l struct_of ≡ i.struct = (st.each l i at).struct in
      let b : i.struct < structs p = actor_struct firm bound good l i at n_this c e in
      let f : structs p ≤ max_structs = bound.few in
      record { room = omega arith; struct = omega arith }
  fits_note n_not e = let (x, (χ, s), (t, o)) = actor_needs firm bound good l i at n_not c e in truth_fit x χ s o
  fits_note (n_if n) e =
      let (x, (χ, s), (t, o)) = actor_needs firm bound good l i at (n_if n) c e in
      let b : n ≤ length c = actor_jump firm bound good l i at (n_if n) c e in
      let w : suc (of_head z l next_of) + n ≤ of_head z l end_of = holds_within list z l i (st.each l i at) (n_if n) c e n b in
      record { test = truth_fit x χ s o; over = omega arith }
  fits_note (n_op o) e =
      let (x, y, (χ, s), t, u, k, (a, f), (b, g)) = actor_needs firm bound good l i at (n_op o) c e in
      op_fit o t u k y x χ s f g
  fits_note (n_rd k v) e =
      let (x, (χ, s), b, (f, o)) = actor_needs firm bound good l i at (n_rd k v) c e in
      let (r, q, j, at', w) = label_value m.instances k x.is o in
      let g : length (params_of p k) ≤ first_local = firm.few k in
      rd_fit v (omega arith) x χ s r q j at'
  fits_note (n_get t v) e =
      let (x, (χ, s), (f, q), (d, y, g, o)) = actor_needs firm bound good l i at (n_get t v) c e in
      rd_fit (first_local + v) ((good_slim firm bound good l i at).near (first_local + v) y g) x χ s l q i at
  fits_note (n_wr k v) e =
      let (x, y, (χ, s), b, (f, o), (g, a)) = actor_needs firm bound good l i at (n_wr k v) c e in
      let (r, q, j, at', w) = label_value m.instances k y.is o in
      let h : length (params_of p k) ≤ first_local = firm.few k in
      wr_fit v (omega arith) y x χ s r q j at' (rw w (has_param bound k v b))
  fits_note (n_set d t v) e =
      let (x, y, χ, s, q) = own_local firm bound good list P z st l i at c d t v (actor_needs firm bound good l i at (n_set d t v) c e) in
      let b : v < max_locals = actor_sized firm bound good l i at (n_set d t v) c e in
      wr_fit (first_local + v) (omega arith) y x χ s l q i at (actor_struct firm bound good l i at (n_set d t v) c e)
  fits_note (n_cons k) e = cons_fit k e

  -- the next command of an instance that holds one fits
  pub fits : (n : Note) → i.code ≡ n ∷ c → Fit list counts l z
  fits n e =
      let held = st.each l i at in
      let w = word_says bound.few n (actor_sized firm bound good l i at n c e) (next_word list z l) (holds_word list z l i held n c e) in
      let b = kind_bounds n in
      let k : next_word list z l % 256 ≡ kind_of n = w.0 in
      record {
        chosen = has_row list P m z st l i at;
        few = st.few;
        heads_long = st.heads_long;
        cells_long = st.cells_long;
        next = holds_next list z l i held n c e;
        within = held.within;
        least = rw k b.0;
        greatest = rw k b.1;
        needed =
            subst (λ (a : ℕ). Needed counts l z a (operand (next_word list z l))) (sym k)
            (subst (λ (a : ℕ). Needed counts l z (kind_of n) a) (sym w.1) (fits_note n e));
      }
