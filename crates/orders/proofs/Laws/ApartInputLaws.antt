-- The numbers and answers of the entry that follows a step are exact (02 §11): it is refused with a number exactly where that number's condition is
-- foremost, and answers exactly where none holds; 'apart' is answered exactly where zero bytes complete the step by an order that touches apart.
use Rattle.std.specs.Prelude.{ℕ, zero, suc, ◌≡◌, ◌↔◌, Bool, true, false, List, length, replicate}
use Rattle.std.proofs.Common.{arith, sym, ◌∙◌}
use Rattle.std.proofs.Math.Path.{refl, ap}
use Rattle.types.specs.Numbers.{wrong_names}
use Rattle.types.specs.Reflects.{reflects_iff}
use Rattle.types.specs.Orders.{NoneOf, Foremost, Tells.passes}
use Rattle.types.specs.Stages.{Stages}
use Rattle.types.proofs.Laws.StageLaws.{stage_asked, stage_on, stage_number, stage_none, stage_past, stage_refused}
use Rattle.program.specs.Tree.{Program}
use Rattle.commands.specs.Accepted.{Accepted}
use Rattle.commands.specs.Decide.NamesDecide.{stepped}
use Rattle.table.specs.Table.{Record, TableRight}
use Rattle.machine.specs.Published.{State}
use Rattle.machine.specs.Machine.{Machine}
use Rattle.run.specs.Holders.{due}
use Rattle.run.specs.Runs.{Config.config}
use Rattle.run.specs.Entry.{begun, not_begun}
use Rattle.run.proofs.Laws.InputLaws.{tell_images}
use Rattle.orders.specs.Orders.{Turns}
use Rattle.orders.specs.Touches.{Apart}
use Rattle.orders.specs.OrderFree.{OrderFree}
use Rattle.orders.specs.ZeroTurns.{Zeros, Answer.apart, Answer.together, Answer.stops, Answer.unfinished}
use Rattle.orders.specs.StepAnswer.{alone, step_state, step_machine, constructing, StepAnswer, StepAnswer.no_step, StepAnswer.constructs}
use Rattle.orders.specs.StepAnswer.{StepAnswer.followed, begun_answer, had_answer, step_answer}
use Rattle.orders.specs.Meeting.{Meeting}
use Rattle.orders.specs.Stopping.{Stopping}
use Rattle.orders.specs.ApartEntry.{free_code, meets_code, with_step, apart_begins, Said, said, numbered, said_of, said_step, apart_by, apart_said}
use Rattle.orders.specs.StepInput.{apart_order, Followable}
use Rattle.orders.proofs.Laws.StepAnswerLaws.{step_apart_exact, step_free, step_meets, step_stops, step_ends}
use Rattle.orders.proofs.Laws.StepInputLaws.{had_reflects, no_step_reflects, step_there}

-- What an answer says --------------------------------------------------------------------

-- the answer of a step, by what is said of it
unfoldable heard_by : ℕ → Said → StepAnswer
heard_by zero s = followed (stops s.number s.turns)
heard_by (suc zero) s = followed (apart s.turns)
heard_by (suc (suc zero)) s = followed (together s.turns s.actor s.other s.label s.parameter)
heard_by (suc (suc (suc k))) s = constructs

abbrev heard : Said → StepAnswer
heard s = heard_by s.answer s

-- but for a step that is not there or not followed to its end, it is the step's
heard_step : (A : StepAnswer) → (A ≡ no_step → ⊥) → (A ≡ followed unfinished → ⊥) → heard (said_step A) ≡ A
unfolding heard_by said_step said_of
heard_step no_step f g = absurd (f refl)
heard_step constructs f g = refl
heard_step (followed (apart t)) f g = refl
heard_step (followed (together t l a q v)) f g = refl
heard_step (followed (stops k t)) f g = refl
heard_step (followed unfinished) f g = absurd (g refl)

-- a step that is there is not answered as one that is not
some_step : (p : Program) (rs : List Record) (n : ℕ) → stepped n p.steps ≡ true → step_answer p rs n ≡ no_step → ⊥
unfolding step_answer had_answer begun_answer
some_step p rs n s e = go (constructing begun_machine.instances) (sym (ap (had_answer (begun_answer (alone p n) begun_machine (constructing begun_machine.instances))) s) ∙ e)
  where
    begun_machine : Machine
    begun_machine = step_machine (alone p n) rs n

    go : (c : Bool) → begun_answer (alone p n) begun_machine c ≡ no_step → ⊥
    go true e = let z : ◌≡◌ {A = ℕ} 0 1 = cc in omega arith
    go false e = let z : ◌≡◌ {A = ℕ} 0 1 = cc in omega arith

-- The entry ----------------------------------------------------------------------------

module _ (x y : List ℕ) (n : ℕ) where
  abbrev Asked : Program × List Record → Type 0
  Asked q = Followable x y n q.0 q.1

  tell_apart : Stages Asked (apart_order x y n) (apart_begins x y n)
  unfolding apart_begins with_step
  tell_apart =
      stage_on (tell_images x y) λ q (a, t). stage_asked wrong_names (no_step_reflects a n) λ f.
      passes tt (q, refl, record { program = a; table = t; step = step_there a n f })

  -- it is refused with a number exactly where that number is foremost of those whose condition holds
  pub apart_number : (k : ℕ) → (apart_begins x y n ≡ not_begun k) ↔ Foremost (apart_order x y n) k
  apart_number = stage_number tell_apart

  -- it is answered exactly where none holds
  pub apart_none : ((p : Program) × (rs : List Record) × (apart_begins x y n ≡ begun p rs) × (Followable x y n p rs)) ↔ NoneOf (apart_order x y n)
  apart_none = (
    λ (p, rs, e, c). (stage_none tell_apart).0 ((p, rs), e, c),
    λ f. let (q, e, c) = (stage_none tell_apart).1 f in (q.0, q.1, e, c),
  )

  -- a refusal has its number and nothing else
  pub apart_refused : (k : ℕ) → Foremost (apart_order x y n) k → apart_said x y n ≡ numbered k 0
  unfolding apart_said apart_by
  apart_refused k q = stage_refused tell_apart (apart_by n) k q

  module _ (p : Program) (rs : List Record) (e : apart_begins x y n ≡ begun p rs) where
    pub begun_followable : Followable x y n p rs
    begun_followable = (stage_past tell_apart (p, rs) e).1

    -- what is answered
    pub begun_said : apart_said x y n ≡ said_step (step_answer p rs n)
    unfolding apart_said apart_by
    begun_said = ap (apart_by n) e

    accepted : Accepted p
    accepted = begun_followable.program.program

    right : TableRight p.params rs
    right = begun_followable.table.right

    -- so the answer is known by what is said
    said_heard : {s : Said} → apart_said x y n ≡ s → step_answer p rs n ≡ heard s
    said_heard e =
        let there = (reflects_iff (had_reflects n p.steps)).1 begun_followable.step in
        sym (heard_step (step_answer p rs n) (some_step p rs n there) (step_ends p rs n accepted right)) ∙ ap heard (sym begun_said ∙ e)

    -- 'apart' exactly where zero bytes complete the step by an order that touches apart
    pub said_apart_exact : (t : ℕ)
        → (apart_said x y n ≡ said 0 free_code t 0 0 0 0)
        ↔ ((constructing (step_machine (alone p n) rs n).instances ≡ false) × (ls : List ℕ) × (z : Machine)
        × (Zeros (alone p n) (step_machine (alone p n) rs n) ls z) × (due z ≡ true) × (length ls ≡ t) × (Apart p (step_state p rs n) ls))
    unfolding heard_by said_step said_of
    said_apart_exact t = (
      λ e. let (s, c, ls, z, w, d, q, a) = (step_apart_exact p rs n accepted right t).0 (said_heard e) in (c, ls, z, w, d, q, a),
      λ (c, ls, z, w, d, q, a).
          let s = (reflects_iff (had_reflects n p.steps)).1 begun_followable.step in
          begun_said ∙ ap said_step ((step_apart_exact p rs n accepted right t).1 (s, c, ls, z, w, d, q, a)),
    )

    -- and then it is free of order
    pub said_free : (t : ℕ) → apart_said x y n ≡ said 0 free_code t 0 0 0 0
        → (z : State) × (a : ℕ) × (Turns p (config 0 (step_state p rs n)) (replicate t 0) (config a z)) × (OrderFree p (step_state p rs n) t z)
    unfolding heard_by
    said_free t e = step_free p rs n accepted right t (said_heard e)

    -- two instances that are told meet
    pub said_meets : (t l a q v : ℕ) → apart_said x y n ≡ said 0 meets_code t l a q v → Meeting p (step_state p rs n) 0 t l a q v
    unfolding heard_by
    said_meets t l a q v e = step_meets p rs n accepted right t l a q v (said_heard e)

    -- a number is that of the order's stop
    pub said_stops : (c t : ℕ) → apart_said x y n ≡ numbered c t → Stopping p (step_state p rs n) 0 t c
    unfolding heard_by
    said_stops c t e = step_stops p rs n accepted right c t (said_heard e)
