-- cons comes to the same in memory (000, rule ComCons; 01, number 34).
use Rattle.std.specs.Prelude.{ℕ, suc, ◌+◌, ◌-◌, ◌*◌, ◌<◌, ◌≤◌, ◌≡◌, refl, Bool, true, get_or, set, take, drop, ltb}
use Rattle.std.proofs.Common.{arith, ap, sym, ◌∙◌, length-append, length-take, length-drop, ltb-true}
use Rattle.std.proofs.Math.Path.{subst}
use Rattle.std.proofs.Math.Bool.{false}
use Rattle.std.proofs.Math.Option.{some}
use mathlib.Core.List.{List, [], ◌∷◌, ◌++◌, map, reverse}
use Rattle.std.proofs.Math.ListN.{length, get_elem?}
use Rattle.std.proofs.lemmas.List.{length-map, length-reverse, set-append_left}
use Rattle.types.specs.Limits.{max_structs, max_instances, max_depth, first_local}
use Rattle.types.specs.Types.{Ty.ref}
use Rattle.types.specs.Values.{Val, Val.label}
use Rattle.program.specs.Tree.{Program}
use Rattle.commands.specs.Context.{params_of}
use Rattle.commands.specs.Noted.{Note, Note.n_cons, now_written}
use Rattle.machine.specs.Published.{Sched, structs, arity}
use Rattle.machine.specs.Machine.{Tagged, tagged, Instance, Machine, with_code, with_written, with_instances, with_stability, put, construct, perform}
use Rattle.machine.specs.Rules.{meet}
use Rattle.run.specs.Begin.{resting}
use Rattle.sound.specs.Needs.{Operand}
use Rattle.sound.specs.Invariant.{Good}
use Rattle.sound.specs.Firm.{Firm}
use Rattle.sound.proofs.Laws.ElemLaws.{at_append, at_below}
use Rattle.sound.proofs.Laws.EachLaws.{each_length}
use Rattle.sound.proofs.Laws.Outcomes.{constructs, finds_full}
use Rattle.layout.specs.Layout.{head, head_size, next_of, end_of, row_size, stacked, label_cell, new_head}
use Rattle.layout.specs.State.{State, of_head, refused}
use Rattle.memory.specs.Act.{full, pushed, height, after, do_cons, made}
use Rattle.memory.specs.Stands.{Shows, Stack, note_words, Stands}
use Rattle.memory.specs.Frame.{AllSlim, Bounded, After, Goes}
use Rattle.memory.proofs.Laws.CellLaws.{label_shows}
use Rattle.memory.proofs.Laws.RowLaws.{sets_other}
use Rattle.memory.proofs.Laws.HeldLaws.{stack_under, holds_after}
use Rattle.memory.proofs.Laws.EntriesLaws.{times_zero}
use Rattle.memory.proofs.Laws.StandsLaws.{has_row, settles, pushed_stands}
use Rattle.memory.proofs.Laws.MadeLaws.{with_new, new_stands, new_slim, row_shows}
use Rattle.memory.proofs.Laws.ActorLaws.{count_of, good_slim, actor_needs, actor_sized, cons_room}

-- a cons on memory, by its test
module _ (counts : List ℕ) (l : ℕ) (z : State) (k a : ℕ) (count : get_or counts k 0 ≡ a) where
  cons_makes : ltb z.machine.count max_instances ≡ true → do_cons counts l z k ≡ made counts l z k a
  unfolding do_cons
  cons_makes h = rw (do_cons, h, count)

  cons_full : ltb z.machine.count max_instances ≡ false → do_cons counts l z k ≡ refused full z
  unfolding do_cons
  cons_full h = rw (do_cons, h)

module _ {p : Program} {counts : List ℕ} (firm : Firm p) (bound : Bounded p counts) {m : Machine} (good : Good p m)
    (list : List ℕ) (P : ℕ → Sched → Type 0) (z : State) (st : Stands list P m z)
    (l : ℕ) (i : Instance) (at : get_elem? m.instances l ≡ some i) (c : List Note) (k : ℕ) (e : i.code ≡ n_cons k ∷ c)
    (ξ χ : List Tagged) (s : i.stack ≡ ξ ++ χ) (size : length ξ ≡ arity p k) where
  slim : AllSlim m.instances
  slim = good_slim firm bound good

  abbrev acting : Instance
  acting = with_written i (now_written (n_cons k) i.written)

  -- the values on top, the lowest first, and the cells that show them
  abbrev vs : List Val
  vs = reverse (map (λ x. x.is) ξ)

  abbrev base : ℕ
  base = height counts l z - length ξ

  abbrev ws : List ℕ
  ws = take (length ξ) (drop (stacked l base) z.cells)

  vs_length : length vs ≡ length ξ
  vs_length = length-reverse (map (λ x. x.is) ξ) ∙ length-map ξ (λ x. x.is)

  few_params : length ξ ≤ first_local
  few_params = let f : length (params_of p k) ≤ first_local = firm.few k in omega arith

  base_is : base ≡ length χ
  base_is =
      let h : height counts l z ≡ length i.stack = (st.each l i at).height in
      let a : length i.stack ≡ length (ξ ++ χ) = ap length s in
      let b : length (ξ ++ χ) ≡ length ξ + length χ = length-append ξ χ in
      omega arith

  row : l < max_instances
  row = let b = has_row list P m z st l i at in let f = st.few in omega arith

  ws_length : length ws ≡ length ξ
  ws_length =
      let h : height counts l z ≡ length i.stack = (st.each l i at).height in
      let f : length i.stack ≤ max_depth = (slim l i at).low in
      let long : length z.cells ≡ row_size * max_instances = st.cells_long in
      let b : l < max_instances = row in
      let d : length (drop (stacked l base) z.cells) ≡ length z.cells - stacked l base = length-drop (stacked l base) z.cells in
      let g : length ξ ≤ first_local = few_params in
      let q : length χ ≤ max_depth = low in
      let r : base ≡ length χ = base_is in
      length-take (length ξ) (drop (stacked l base) z.cells) ∙ omega arith
    where
      low : length χ ≤ max_depth
      low =
          let f : length i.stack ≤ max_depth = (slim l i at).low in
          let a : length i.stack ≡ length (ξ ++ χ) = ap length s in
          let b : length (ξ ++ χ) ≡ length ξ + length χ = length-append ξ χ in
          omega arith

  module _ (room : length m.instances < max_instances) where
    abbrev m' : Machine
    m' = with_instances m (m.instances ++ resting k vs ∷ [])

    -- with the new instance
    made_stands : Stands list P m' (with_new z k ws)
    made_stands =
        let a : length vs ≡ length ξ = vs_length in
        let b : length ws ≡ length ξ = ws_length in
        let f : length ξ ≤ first_local = few_params in
        new_stands list P m z st slim (rw st.counted room) k ws vs (a ∙ sym b) (omega arith)
        (row_shows z.cells l base ξ χ base_is (rw s at (st.each l i at).stack))

    at' : get_elem? (m.instances ++ resting k vs ∷ []) l ≡ some i
    at' = at_append m.instances (resting k vs ∷ []) l i at

    next_same : of_head (with_new z k ws) l next_of ≡ of_head z l next_of
    next_same =
        let b : l < z.machine.count = has_row list P m z st l i at in
        sets_other z.heads (head_size * z.machine.count) (new_head k) (head l next_of) (λ e f. omega arith)

    abbrev actor : Instance
    actor = with_code acting c (tagged (ref k) (label (length m.instances)) ∷ χ)

    -- and its label on the actor's stack
    labelled : Stands list P (put m' l actor) (pushed (with_new z k ws) l base (label_cell k z.machine.count) (after counts l z))
    labelled =
        let held = made_stands.each l i at' in
        let v : Stack (with_new z k ws).cells l (ξ ++ χ) = rw s at held.stack in
        let d = holds_after list (with_new z k ws) l i held (n_cons k) c e counts in
        let n : z.machine.count ≡ length m.instances = st.counted in
        let h : height counts l z ≡ length i.stack = (st.each l i at).height in
        let g : length i.stack - arity p k < max_depth = cons_room firm bound good l i at c k e in
        let b : k < structs p = actor_sized firm bound good l i at (n_cons k) c e in
        let f : structs p ≤ max_structs = bound.few in
        let x : Shows (label_cell k z.machine.count) (label z.machine.count) = label_shows k z.machine.count (omega arith) (omega arith) in
        let a : length vs ≡ length ξ = vs_length in
        let q : length ξ ≤ first_local = few_params in
        pushed_stands list P m' (with_new z k ws) made_stands (new_slim m.instances slim k vs (omega arith)) l i at' c χ
        (now_written (n_cons k) i.written) base
        (after counts l z)
        base_is
        (stack_under (with_new z k ws).cells l ξ χ v)
        (subst (λ (a : ℕ). take (of_head (with_new z k ws) l end_of - suc a) (drop (suc a) list) ≡ note_words c) next_same d)
        (tagged (ref k) (label (length m.instances)))
        (label_cell k z.machine.count)
        (omega arith)
        (subst (λ (a : ℕ). Shows (label_cell k z.machine.count) (label a)) n x)

    makes : Stands list P
        (with_stability (with_instances m (set m.instances l actor ++ resting k vs ∷ [])) (meet false m.stability))
        (made counts l z k (length ξ))
    unfolding made
    makes =
        let b : l < length m.instances = at_below m.instances l i at in
        let y : State = pushed (with_new z k ws) l base (label_cell k z.machine.count) (after counts l z) in
        subst
        (λ (js : List Instance). Stands list P (with_stability (with_instances m js) (meet false m.stability)) (made counts l z k (length ξ)))
        (set-append_left m.instances (resting k vs ∷ []) l actor b)
        (subst (Stands list P (with_stability (put m' l actor) (meet false m.stability))) (times_zero y) (settles list P (put m' l actor) y labelled false))

  constructs_to : (t : Bool) → ltb (length m.instances) max_instances ≡ t → After list P z (do_cons counts l z k) (construct p m l acting k c i.stack)
  constructs_to true q =
      let h : ltb z.machine.count max_instances ≡ true = rw st.counted q in
      let n : get_or counts k 0 ≡ length ξ = count_of bound k ∙ sym size in
      let room : length m.instances < max_instances = ltb-true (length m.instances) max_instances q in
      subst (After list P z (do_cons counts l z k)) (sym (constructs p m l acting c k ξ χ s size q))
      (subst
      (λ (u : State).
      Stands list P
      (with_stability
      (with_instances m (set m.instances l (with_code acting c (tagged (ref k) (label (length m.instances)) ∷ χ)) ++ resting k vs ∷ []))
      (meet false m.stability))
      u)
      (sym (cons_makes counts l z k (length ξ) n h))
      (makes room))
  constructs_to false q =
      let h : ltb z.machine.count max_instances ≡ false = rw st.counted q in
      subst (After list P z (do_cons counts l z k)) (sym (finds_full p m l acting c k i.stack q))
      (cons_full counts l z k (arity p k) (count_of bound k) h)

pub constructs_one : {p : Program} {counts : List ℕ} → Firm p → Bounded p counts → {m : Machine} → Good p m
    → (list : List ℕ) (P : ℕ → Sched → Type 0) (z : State) → Stands list P m z
    → (l : ℕ) (i : Instance) → get_elem? m.instances l ≡ some i → (c : List Note) (k : ℕ)
    → Goes p counts m list P z l i c (n_cons k)
unfolding perform
constructs_one {p} firm bound {m} good list P z st l i at c k e =
    let (xs, (χ, s), f) = actor_needs firm bound good l i at (n_cons k) c e in
    let a : length (reverse xs) ≡ length xs = length-reverse xs in
    let b : length xs ≡ arity p k = each_length (Operand p m) (params_of p k) xs f in
    constructs_to firm bound good list P z st l i at c k e (reverse xs) χ s (a ∙ b) (ltb (length m.instances) max_instances) refl
