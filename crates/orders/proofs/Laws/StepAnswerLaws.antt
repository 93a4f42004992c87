-- What is answered of a step on a table (02 §11): 'apart' exactly where the order of zero bytes completes the step and touches apart, and then the
-- step is free of order; two instances that are told do meet; and following always comes to an end.
use Rattle.std.specs.Prelude.{ℕ, zero, suc, Bool, ◌||◌, ◌↔◌, length, replicate}
use Rattle.std.proofs.Common.{arith, sym, subst, ◌∙◌}
use Rattle.std.proofs.Math.Path.{◌≡◌, refl, ap}
use Rattle.std.proofs.Math.Bool.{true, false}
use Rattle.std.proofs.Math.Option.{some}
use mathlib.Core.List.{List, [], ◌∷◌, ◌++◌, map}
use Rattle.std.proofs.Math.ListN.{get_elem?}
use Rattle.types.specs.Types.{Ty}
use Rattle.types.specs.Reflects.{reflects_iff}
use Rattle.program.specs.Tree.{Step, Program}
use Rattle.commands.specs.Accepted.{Accepted}
use Rattle.commands.specs.Names.{names_of_steps, Had}
use Rattle.commands.specs.Noted.{Note}
use Rattle.commands.specs.Decide.{member}
use Rattle.commands.specs.Decide.NamesDecide.{stepped}
use Rattle.commands.proofs.Decide.DecideLaws.{member_reflects}
use Rattle.table.specs.Table.{Record, TableRight}
use Rattle.machine.specs.Published.{StepCall.global, called, of_item, of_items, Sched.done, Inst, Inst.inst, State, State.state}
use Rattle.machine.specs.Rules.{started as starting}
use Rattle.machine.specs.Machine.{Instance, Machine, Moved.next, started, move_by, move}
use Rattle.machine.specs.Represents.{Represents}
use Rattle.machine.proofs.Laws.RepresentsLaws.{represents_map, Still}
use Rattle.machine.proofs.Laws.MoveAgrees.{started_represents}
use Rattle.machine.specs.Measure.{codes}
use Rattle.run.specs.Holders.{due}
use Rattle.run.specs.Begin.{nulls, resting, first_instances, begin}
use Rattle.run.specs.Initial.{first_insts, initial}
use Rattle.run.specs.Runs.{Config.config}
use Rattle.run.specs.Visits.{Acts.moves}
use Rattle.run.proofs.Laws.BeginLaws.{begin_stands}
use Rattle.run.proofs.Laws.TurnLaws.{holders_still, due_none}
use Rattle.sound.specs.Firm.{Firm}
use Rattle.sound.specs.Invariant.{Good}
use Rattle.sound.proofs.Laws.AcceptedLaws.{accepted_firm}
use Rattle.sound.proofs.Laws.BeginGood.{begin_good}
use Rattle.sound.proofs.Laws.ElemLaws.{none_some, some_is}
use Rattle.sound.proofs.Laws.NeverStuckLaws.{acts_good}
use Rattle.orders.specs.Orders.{Turns}
use Rattle.orders.specs.Touches.{Apart}
use Rattle.orders.specs.OrderFree.{OrderFree}
use Rattle.orders.specs.Marks.{clean}
use Rattle.orders.specs.ZeroTurns.{Zeros, Answer, Answer.apart, Answer.together, Answer.stops, Answer.unfinished, follow}
use Rattle.orders.specs.Meeting.{Meeting}
use Rattle.orders.specs.Stopping.{Stopping}
use Rattle.orders.specs.StepAnswer.{alone, step_state, step_machine, is_cons, conses, constructing}
use Rattle.orders.specs.StepAnswer.{StepAnswer.followed, begun_answer, had_answer, step_answer}
use Rattle.orders.proofs.Laws.Holding.{NoCons}
use Rattle.orders.proofs.Laws.OrderSteps.{Stood}
use Rattle.orders.proofs.Laws.ApartLaws.{apart_then, apart_where, apart_free}
use Rattle.orders.proofs.Laws.MeetingLaws.{together_then}
use Rattle.orders.proofs.Laws.StopLaws.{stops_then}
use Rattle.orders.proofs.Laws.AloneLaws.{apart_alike, turns_alike, free_alike, meeting_alike, stopping_alike, alone_accepted}
use Rattle.orders.proofs.Laws.ZeroTurnLaws.{zeros_long, follow_ends}

true_false {ℓ} : {X : Type ℓ} → true ≡ false → X
true_false e = let z : ◌≡◌ {A = ℕ} 0 1 = cc in absurd (omega arith)

-- A step that some struct has -----------------------------------------------------------------------

pub stepped_had : (n : ℕ) (tss : List (List Step)) → stepped n tss ≡ true → Had n tss
unfolding stepped
stepped_had n [] e = true_false (sym e)
stepped_had n (ts ∷ tss) e = go (λ h. stepped_had n tss h) (member n (names_of_steps ts)) refl e
  where
    go : (stepped n tss ≡ true → Had n tss) → (b : Bool) → member n (names_of_steps ts) ≡ b → b || stepped n tss ≡ true → Had n (ts ∷ tss)
    go on true h e = (0, (reflects_iff (member_reflects n (names_of_steps ts))).0 h)
    go on false h e = let (k, u) = on e in (suc k, u)

-- No cons ---------------------------------------------------------------------------------------------

or_left : (a b : Bool) → a || b ≡ false → a ≡ false
or_left true b e = e
or_left false b e = refl

or_right : (a b : Bool) → a || b ≡ false → b ≡ false
or_right true b e = true_false e
or_right false b e = e

conses_free : (c : List Note) → conses c ≡ false → NoCons c
unfolding conses NoCons
conses_free [] e = tt
conses_free (n ∷ c) e =
    (λ k h. true_false (sym (ap is_cons h) ∙ or_left (is_cons n) (conses c) e), conses_free c (or_right (is_cons n) (conses c) e))

constructing_free : (is : List Instance) → constructing is ≡ false → (l : ℕ) (i : Instance) → get_elem? is l ≡ some i → NoCons i.code
unfolding constructing
constructing_free [] e l i g = none_some g
constructing_free (j ∷ is) e zero i g =
    subst (λ (x : Instance). NoCons x.code) (some_is g) (conses_free j.code (or_left (conses j.code) (constructing is) e))
constructing_free (j ∷ is) e (suc l) i g = constructing_free is (or_right (conses j.code) (constructing is) e) l i g

-- The started step ------------------------------------------------------------------------------------

pub still_first : (k : ℕ) (tss : List (List Ty)) (rs : List Record) → Still (nulls k tss ++ map (λ r. resting r.struct r.values) rs)
unfolding nulls
still_first k [] [] = tt
still_first k [] (r ∷ rs) = (refl, still_first k [] rs)
still_first k (ts ∷ tss) rs = (refl, still_first (suc k) tss rs)

module _ (p : Program) (rs : List Record) (n : ℕ) where
  -- the state does not depend on the schedule
  starting_alone : (σ : List Inst) → map (starting (alone p n) (global n)) σ ≡ map (starting p (global n)) σ
  unfolding called
  starting_alone [] = refl
  starting_alone (inst k c χ ξ ∷ σ) = ap {B = List Inst} (λ x. starting p (global n) (inst k c χ ξ) ∷ x) (starting_alone σ)

  pub state_alone : step_state (alone p n) rs n ≡ step_state p rs n
  unfolding step_state first_insts
  state_alone = ap (λ σ. state done σ []) (starting_alone (first_insts p rs))

  pub step_stands : Represents (step_machine (alone p n) rs n) (step_state (alone p n) rs n)
  unfolding step_state step_machine begin initial
  step_stands = (
    refl,
    represents_map (started (alone p n) (global n)) (starting (alone p n) (global n)) (started_represents (alone p n) (global n))
        (first_instances (alone p n) rs) (first_insts (alone p n) rs) (begin_stands (alone p n) rs).1.1,
    refl,
  )

  pub begin_moves : move (alone p n) (begin (alone p n) rs) ≡ next (step_machine (alone p n) rs n)
  unfolding begin of_item of_items move_by step_machine
  begin_moves = refl

  pub begin_due : due (begin (alone p n) rs) ≡ true
  unfolding begin first_instances
  begin_due = (due_none (begin (alone p n) rs)).1 ((holders_still (begin (alone p n) rs)).1 (still_first 0 p.params rs))

  module _ (acc : Accepted p) (right : TableRight p.params rs) (had : Had n p.steps) where
    pub alone_firm : Firm (alone p n)
    alone_firm = accepted_firm (alone_accepted p n acc had)

    pub step_good : Good (alone p n) (step_machine (alone p n) rs n)
    step_good = acts_good alone_firm (moves begin_due begin_moves) (begin_good (alone p n) (alone_accepted p n acc had).0 rs right)

    step_stood : constructing (step_machine (alone p n) rs n).instances ≡ false
        → Stood (alone p n) (step_machine (alone p n) rs n) (step_state (alone p n) rs n)
    step_stood e = record {
      good = step_good;
      free = λ l i g. constructing_free (step_machine (alone p n) rs n).instances e l i g;
      stands = step_stands;
    }

-- The answer ------------------------------------------------------------------------------------------

followed_is : {A B : Answer} → followed A ≡ followed B → A ≡ B
followed_is e = cc

module _ (p : Program) (rs : List Record) (n : ℕ) where
  -- the started step, with its call as the schedule
  abbrev begun : Machine
  begun = step_machine (alone p n) rs n

  abbrev answer : Answer
  answer = follow (alone p n) (codes begun.instances) 0 clean begun

  -- what an answer from following rests on
  followed_then : {A : Answer} → step_answer p rs n ≡ followed A → (stepped n p.steps ≡ true) × (constructing begun.instances ≡ false) × (answer ≡ A)
  unfolding step_answer had_answer begun_answer
  followed_then {A} e = go (stepped n p.steps) (constructing begun.instances) e
    where
      go : (s c : Bool) → had_answer (begun_answer (alone p n) begun c) s ≡ followed A → (s ≡ true) × (c ≡ false) × (answer ≡ A)
      go true true e = let z : ◌≡◌ {A = ℕ} 0 1 = cc in absurd (omega arith)
      go true false e = (refl, refl, followed_is e)
      go false c e = let z : ◌≡◌ {A = ℕ} 0 1 = cc in absurd (omega arith)

  followed_where : {A : Answer} → stepped n p.steps ≡ true → constructing begun.instances ≡ false → answer ≡ A → step_answer p rs n ≡ followed A
  unfolding step_answer had_answer begun_answer
  followed_where s c e =
      ap (had_answer (begun_answer (alone p n) begun (constructing begun.instances))) s ∙ ap (begun_answer (alone p n) begun) c ∙ ap followed e

  module _ (acc : Accepted p) (right : TableRight p.params rs) where
    -- "apart" exactly where zero bytes complete the step by an order that touches apart
    pub step_apart_exact : (t : ℕ)
        → (step_answer p rs n ≡ followed (apart t))
        ↔ ((stepped n p.steps ≡ true) × (constructing begun.instances ≡ false) × (ls : List ℕ) × (z : Machine) × (Zeros (alone p n) begun ls z)
        × (due z ≡ true) × (length ls ≡ t) × (Apart p (step_state p rs n) ls))
    step_apart_exact t = (
      λ e.
          let (s, c, f) = followed_then e in
          let had = stepped_had n p.steps s in
          let (ls, z, w, d, q, a) = apart_then (alone_firm p rs n acc right had) (step_stood p rs n acc right had c) (codes begun.instances) t f in
          (s, c, ls, z, w, d, q, apart_alike p (alone p n).schedule (subst (λ st. Apart (alone p n) st ls) (state_alone p rs n) a)),
      λ (s, c, ls, z, w, d, q, a).
          let had = stepped_had n p.steps s in
          let b = apart_alike (alone p n) p.schedule a in
          let long = zeros_long w in
          followed_where s c
          (apart_where (alone_firm p rs n acc right had) (step_stood p rs n acc right had c) (codes begun.instances) t (omega (arith, long, q)) w d q
          (subst (λ st. Apart (alone p n) st ls) (sym (state_alone p rs n)) b)),
    )

    -- and then the step is free of order
    pub step_free : (t : ℕ) → step_answer p rs n ≡ followed (apart t)
        → (z : State) × (a : ℕ) × (Turns p (config 0 (step_state p rs n)) (replicate t 0) (config a z)) × (OrderFree p (step_state p rs n) t z)
    unfolding step_machine
    step_free t e =
        let (s, c, f) = followed_then e in
        let had = stepped_had n p.steps s in
        let (z, a, w, o) = apart_free (alone_firm p rs n acc right had) (step_stood p rs n acc right had c) (codes begun.instances) t f in (
          z,
          a,
          turns_alike (alone p n) p.schedule (subst (λ st. Turns (alone p n) (config 0 st) (replicate t 0) (config a z)) (state_alone p rs n) w),
          free_alike p (alone p n).schedule (subst (λ st. OrderFree (alone p n) st t z) (state_alone p rs n) o),
        )

    -- where two instances are told, they meet, and one of them writes
    pub step_meets : (t l a q v : ℕ) → step_answer p rs n ≡ followed (together t l a q v) → Meeting p (step_state p rs n) 0 t l a q v
    unfolding step_machine
    step_meets t l a q v e =
        let (s, c, f) = followed_then e in
        let had = stepped_had n p.steps s in
        let m = together_then (alone_firm p rs n acc right had) (step_stood p rs n acc right had c) (codes begun.instances) t l a q v f in
        meeting_alike (alone p n) p.schedule (subst (λ st. Meeting (alone p n) st 0 t l a q v) (state_alone p rs n) m)

    -- where a number is told, the order stops with it
    pub step_stops : (c t : ℕ) → step_answer p rs n ≡ followed (stops c t) → Stopping p (step_state p rs n) 0 t c
    unfolding step_machine
    step_stops c t e =
        let (s, k, f) = followed_then e in
        let had = stepped_had n p.steps s in
        let w = stops_then (alone_firm p rs n acc right had) (step_stood p rs n acc right had k) (codes begun.instances) c t f in
        stopping_alike (alone p n) p.schedule (subst (λ st. Stopping (alone p n) st 0 t c) (state_alone p rs n) w)

    -- following comes to an end
    pub step_ends : step_answer p rs n ≡ followed unfinished → ⊥
    step_ends e =
        let (s, c, f) = followed_then e in
        let had = stepped_had n p.steps s in
        follow_ends (alone_firm p rs n acc right had) (codes begun.instances) 0 clean begun (step_good p rs n acc right had) (omega arith) f
