-- A machine whose commands construct nothing, and one order from it that touches apart: every order comes to the same end (02 §11).
use Rattle.std.specs.Prelude.{ℕ, zero, suc, ◌≤◌, ◌≡◌, refl, Bool, true, false, List, [], ◌∷◌, length, take, drop}
use Rattle.std.proofs.Common.{arith, sym, ap, subst, ◌∙◌, inl, inr}
use Rattle.std.proofs.Math.Option.{some}
use Rattle.std.proofs.Math.ListN.{get_elem?}
use Rattle.types.specs.Values.{Val}
use Rattle.program.specs.Tree.{Program}
use Rattle.commands.specs.Commands.{Com, Coms, Coms.nil, Coms.act}
use Rattle.machine.specs.Published.{Sched, Env, Inst, Inst.inst, State, State.state}
use Rattle.machine.specs.Stops.{Full, Full.no_label, Exceeded, Exceeded.no_result, full, exceeded}
use Rattle.machine.specs.Machine.{Instance, Machine, Out.refused, command}
use Rattle.machine.specs.Represents.{Represents}
use Rattle.machine.proofs.Laws.RepresentsLaws.{instance_at, no_code, Still, still_done, represents_unique}
use Rattle.machine.proofs.Laws.CommandAgrees.{command_full, command_exceeded}
use Rattle.run.specs.Turns.{holders_of, chosen}
use Rattle.run.specs.Holders.{holders, due}
use Rattle.run.specs.Runs.{Due, Config, Config.config, picked, Halts, Halts.at_end, Halts.at_33, Halts.at_34, Halts.at_35}
use Rattle.run.specs.Runs.{Step as RunStep, Step.takes}
use Rattle.run.specs.Steps.{Steps, Steps.here, Steps.reads as taking}
use Rattle.run.proofs.Laws.TurnLaws.{due_still, chosen_holds, holders_represent}
use Rattle.sound.specs.Firm.{Firm}
use Rattle.sound.proofs.Laws.ElemLaws.{all_elem}
use Rattle.orders.specs.Orders.{Ordered, Ordered.no_turn, Ordered.a_turn, Refused, Turns, Turns.no_byte, Turns.a_byte}
use Rattle.orders.specs.Touches.{Apart}
use Rattle.orders.specs.OrderFree.{OrderFree}
use Rattle.orders.specs.Deeds.{Act, Deed, Clash}
use Rattle.orders.proofs.Laws.Commuting.{Traced, Traced.stay, Traced.go_on, Apart as ApartDeeds, front, along, next_step, Onward}
use Rattle.orders.proofs.Laws.Swap.{Step}
use Rattle.orders.proofs.Laws.PlanCommand.{step_command}
use Rattle.orders.proofs.Laws.CommandPlan.{refused_next}
use Rattle.orders.proofs.Laws.Holding.{Holds, Any, commuting, counted}
use Rattle.orders.proofs.Laws.OrderSteps.{Stood, Order, step_rule, ordered_traced, order_apart}

-- Holders --------------------------------------------------------------------------------

filled : (c : Coms) {f : Com} {d : Coms} → c ≡ act f d → c ≡ nil → ⊥
filled c e f = let z : ◌≡◌ {A = ℕ} 0 1 = cc in omega arith

-- an instance of the state that holds commands is one of the machine that does
holds_at : (m : Machine) (s : Sched) (σ : List Inst) (b : List Bool) → Represents m (state s σ b) → (l : ℕ) {k : ℕ} {c : Coms} {χ : List Val} {ξ : Env}
    → get_elem? σ l ≡ some (inst k c χ ξ) → (c ≡ nil → ⊥) → Holds l m
holds_at m s σ b R l {c = c} g h =
    let (i, f, r) = instance_at m.instances σ l R.1 g in
    (i, f, λ e. h ((no_code i.code c r.1).0 e))

-- where one does, no move is due
pub holds_due : (m : Machine) (st : State) (l : ℕ) → Represents m st → Holds l m → Due st → ⊥
holds_due m (state s σ b) l R (i, e, h) d =
    h (all_elem (λ (x : Instance). x.code ≡ []) m.instances l i ((still_done m.instances σ R.1).1 d) e)

some_false : (m : Machine) → ((Still m.instances) → ⊥) → due m ≡ false
some_false m h = go (due m) refl
  where
    go : (t : Bool) → due m ≡ t → t ≡ false
    go true e = absurd (h (due_still m e))
    go false e = refl

-- a byte picks an instance that holds commands
picked_holds : (m : Machine) (st : State) → Represents m st → (Due st → ⊥) → (a e : ℕ) → Holds (picked a e st) m
picked_holds m (state s σ b) R h a e =
    let n = counted a m in
    let q : due n ≡ false = some_false n (λ t. h ((still_done m.instances σ R.1).0 t)) in
    let w : holders n ≡ holders_of a σ = holders_represent n a σ (refl, R) in
    subst (λ x. Holds (chosen x e) m) w (chosen_holds n e q)

-- Orders of bytes ---------------------------------------------------------------------------

abbrev pub state_of : Config → State
state_of (config n st) = st

pub turns_ordered : {p : Program} {c d : Config} {es : List ℕ} → Turns p c es d
    → (ls : List ℕ) × (Ordered p (state_of c) ls (state_of d)) × (length ls ≡ length es)
turns_ordered no_byte = ([], no_turn, refl)
turns_ordered (a_byte {n = n} {e = e} {st = st} h r t) =
    let (ls, o, q) = turns_ordered t in (picked n e st ∷ ls, a_turn r o, ap suc q)

-- the turns of an order are those of a run with these bytes
pub turns_run : {p : Program} (n : ℕ) (es : List ℕ) {c d : Config} → n ≤ length es → Turns p c (take n es) d → Steps (RunStep p) c es n d (drop n es)
turns_run zero es h no_byte = here
turns_run (suc n) [] h t = absurd (omega (arith, h))
turns_run (suc n) (e ∷ es) h (a_byte k r t) = taking (takes k r) (turns_run n es (omega (arith, h)) t)

halts_34 : {c : Config} {fs : List ℕ} {n : ℕ} → Halts c fs n → n ≡ full → (l : ℕ) × Full l (state_of c)
halts_34 (at_end d) e = absurd (omega (arith, e))
halts_34 (at_33 h) e = absurd (omega (arith, e))
halts_34 (at_34 {n = n} {e = b} {st = st} h f) e = (picked n b st, f)
halts_34 (at_35 h f) e = absurd (omega (arith, e))

halts_35 : {c : Config} {fs : List ℕ} {n : ℕ} → Halts c fs n → n ≡ exceeded → (l : ℕ) × Exceeded l (state_of c)
halts_35 (at_end d) e = absurd (omega (arith, e))
halts_35 (at_33 h) e = absurd (omega (arith, e))
halts_35 (at_34 h f) e = absurd (omega (arith, e))
halts_35 (at_35 {n = n} {e = b} {st = st} h f) e = (picked n b st, f)

-- The law, from a machine that stands for the started state ----------------------------------

none_left : {m z : Machine} {p : Program} {ds : List (Act Deed)} → Traced (Step p) Holds Any Clash m ds z → length ds ≡ 0 → m ≡ z
none_left stay e = refl
none_left (go_on s t) e = absurd (omega (arith, e))

-- whom a number is due for holds commands
refused_holds : (m : Machine) (st : State) (l : ℕ) → Represents m st → Refused l st → Holds l m
refused_holds m st l R (inl (no_label {s = s} {σ = σ} {b = b} {c = c} g f)) = holds_at m s σ b R l g (λ e. filled _ refl e)
refused_holds m st l R (inr (no_result {s = s} {σ = σ} {b = b} {c = c} g f)) = holds_at m s σ b R l g (λ e. filled _ refl e)

module _ {p : Program} (firm : Firm p) where
  -- its command is refused
  refusing : (m : Machine) (st : State) (l : ℕ) → Represents m st → Refused l st → (n : ℕ) × (command p l m ≡ refused n)
  refusing m st l R (inl f) = (full, (command_full p l m st R).1 f)
  refusing m st l R (inr f) = (exceeded, (command_exceeded p l m st R).1 f)

  -- a list of bytes leads along
  byte_turns : (k : ℕ) {m n : Machine} {st z : State} {ds : List (Act Deed)} → Stood p m st → Represents n z → ((l : ℕ) → Holds l n → ⊥)
      → Traced (Step p) Holds Any Clash m ds n → ApartDeeds (Step p) Holds Any Clash ds → length ds ≡ k
      → (a : ℕ) (es : List ℕ) → k ≤ length es → (a' : ℕ) × Turns p (config a st) (take k es) (config a' z)
  byte_turns zero {m} {n} {st} {z} S R idle t apart e a es h =
      let q : st ≡ z = represents_unique n st z (subst (λ x. Represents x st) (none_left t e) S.stands) R in
      (a, subst (λ x. Turns p (config a st) [] (config a x)) q no_byte)
  byte_turns (suc k) S R idle stay apart e a es h = absurd (omega (arith, e))
  byte_turns (suc k) S R idle (go_on s t) apart e a [] h = absurd (omega (arith, h))
  byte_turns (suc k) {m} {n} {st} {z} S R idle (go_on {l = l} s t) apart e a (b ∷ es) h =
      let busy : Due st → ⊥ = holds_due m st l S.stands ((commuting firm).acts s) in
      let l' = picked a b st in
      let f = front (Step p) Holds Any Clash (commuting firm) l' tt (picked_holds m st S.stands busy a b) (idle l') (go_on s t) apart in
      let (st', r, S') = step_rule firm S f.step in
      let (a', u) =
      byte_turns k S' R idle f.traced (λ x y v w. apart x y (f.others x v) (f.others y w)) (omega (arith, e, f.long)) (suc (picked a b st)) es
      (omega (arith, h)) in
      (a', a_byte busy r u)

  module _ {m : Machine} {st z : State} {ls : List ℕ} (S : Stood p m st) (t : Ordered p st ls z) (idle : Due z) (apart : Apart p st ls) where
    given_order : Order p m st ls z
    given_order = ordered_traced firm S t

    alone : ApartDeeds (Step p) Holds Any Clash given_order.deeds
    alone = order_apart firm given_order apart

    rests : (l : ℕ) → Holds l given_order.last → ⊥
    rests l h = holds_due given_order.last z l given_order.stood.stands h idle

    -- where another order has come, whoever holds commands takes the next one
    next_there : {ks : List ℕ} {st' : State} (o : Order p m st ks st') (l : ℕ) → Holds l o.last → (d : Deed) × (n : Machine) × (Step p l o.last d n)
    next_there o l h = next_step (Step p) Holds Any Clash (commuting firm) l tt rests given_order.traced alone o.traced h

    onward : {ks : List ℕ} {st' : State} (o : Order p m st ks st')
        → Onward (Step p) Holds Any Clash (commuting firm) o.last (length o.deeds) (length given_order.deeds) given_order.last
    onward o = along (Step p) Holds Any Clash (commuting firm) tt rests given_order.traced alone o.traced

    never : {ks : List ℕ} {st' : State} → Ordered p st ks st' → (l : ℕ) → Refused l st' → ⊥
    never {st' = st'} u l r =
        let o = ordered_traced firm S u in
        let (d, n, s) = next_there o l (refused_holds o.last st' l o.stood.stands r) in
        let (k, e) = refusing o.last st' l o.stood.stands r in
        refused_next (sym e ∙ step_command firm s)

    bytes_never : {a : ℕ} {es fs : List ℕ} {c : Config} → Turns p (config a st) es c → (Halts c fs full → ⊥) × (Halts c fs exceeded → ⊥)
    bytes_never u =
        let (ks, o, q) = turns_ordered u in
        (λ h. let (l, f) = halts_34 h refl in never o l (inl f), λ h. let (l, f) = halts_35 h refl in never o l (inr f))

    reaches : {ks : List ℕ} {st' : State} → Ordered p st ks st' → length ls ≤ length ks → st' ≡ z
    reaches {st' = st'} u h =
        let o = ordered_traced firm S u in
        let w = onward o in
        let q = none_left w.traced (omega (arith, w.long, o.long, given_order.long, h)) in
        represents_unique given_order.last st' z (subst (λ x. Represents x st') q o.stood.stands) given_order.stood.stands

    pub stood_free : OrderFree p st (length ls) z
    stood_free = record {
      never_stops = λ u l r. never u l r;
      goes_on = λ u l g h.
          let o = ordered_traced firm S u in
          let (d, n, s) = next_there o l (holds_at o.last _ _ _ o.stood.stands l g h) in
          let (st', r, S') = step_rule firm o.stood s in
          (st', r);
      no_longer = λ u. let o = ordered_traced firm S u in let w = onward o in omega (arith, w.long, o.long, given_order.long);
      completes = λ u h. reaches u h;
      complete = idle;
      bytes_never_stop = λ u. bytes_never u;
      bytes_complete = λ a es h.
          byte_turns (length ls) S given_order.stood.stands rests given_order.traced alone given_order.long a es h;
    }
