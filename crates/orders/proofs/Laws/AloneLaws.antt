-- A program with another schedule (02 §11): the rules of instances look at none, so orders and their freedom carry over; with the call of a step that some
-- struct has as its schedule, an accepted program is accepted.
use Rattle.std.specs.Prelude.{ℕ, zero, suc, ◌<◌, ◌≤◌, Bool, length, get_or}
use Rattle.std.proofs.Common.{arith, sym, subst, ⊎_elim}
use mathlib.Core.List.Memᴰ
use mathlib.Core.List.{List, [], ◌∷◌, map, Memᴰ}
use Rattle.types.specs.Limits.{step_names}
use Rattle.types.specs.Values.{Val}
use Rattle.program.specs.Tree.{Items, Step, Program, items}
use Rattle.program.specs.Counts.{All, fixes, fixes_in, CountsItem, CountsItems, CountsSchedule, CountsStepTo, CountsTo, Counts}
use Rattle.commands.specs.Accepted.{Accepted}
use Rattle.commands.specs.Bounds.{item_count, items_count, program_size, Within}
use Rattle.commands.specs.Names.{names_of_steps, NamedSteps, Had, ScheduledItem, Scheduled, NamesRight}
use Rattle.commands.specs.Typing.{TypedSteps, TypesRight}
use Rattle.machine.specs.Published.{Env, State}
use Rattle.machine.specs.Rules.{LeavesStable, LeavesStable.no_parameter, LeavesStable.same_value, LeavesStable.other_value, Actor.instance, Rule}
use Rattle.machine.specs.Rules.{Rule.ComPush, Rule.ComPushThis, Rule.ComRd, Rule.ComWr, Rule.ComWrNSkip, Rule.ComNot, Rule.ComOp, Rule.ComCons, Rule.ComIfT}
use Rattle.machine.specs.Rules.{Rule.ComIfF}
use Rattle.run.specs.Runs.{Config}
use Rattle.orders.specs.Orders.{Ordered, Ordered.no_turn, Ordered.a_turn, Turns, Turns.no_byte, Turns.a_byte}
use Rattle.orders.specs.Touches.{Use, Touches, Touches.by_rd, Touches.by_wr, Does, Apart}
use Rattle.orders.specs.OrderFree.{OrderFree}
use Rattle.orders.specs.StepAnswer.{scheduled, alone}
use Rattle.orders.specs.Meeting.{Meeting}
use Rattle.orders.specs.Stopping.{Stopping}

-- Rules and orders ---------------------------------------------------------------------------------

module _ (p : Program) (is : Items) where
  leaves_alike : {k v : ℕ} {ξ : Env} {x : Val} {su : Bool} → LeavesStable p k v ξ x su → LeavesStable (scheduled p is) k v ξ x su
  leaves_alike (no_parameter h) = no_parameter h
  leaves_alike (same_value h e) = same_value h e
  leaves_alike (other_value h e d) = other_value h e d

  pub rule_alike : {l : ℕ} {st st' : State} → Rule p (instance l) st st' → Rule (scheduled p is) (instance l) st st'
  rule_alike (ComPush g e) = ComPush g e
  rule_alike (ComPushThis g e) = ComPushThis g e
  rule_alike (ComRd g f h e) = ComRd g f h e
  rule_alike (ComWr g f w u e e') = ComWr g f w (leaves_alike u) e e'
  rule_alike (ComWrNSkip g f w u e) = ComWrNSkip g f w u e
  rule_alike (ComNot g e) = ComNot g e
  rule_alike (ComOp g a e) = ComOp g a e
  rule_alike (ComCons xs χ g a e h f f') = ComCons xs χ g a e h f f'
  rule_alike (ComIfT g e) = ComIfT g e
  rule_alike (ComIfF g e) = ComIfF g e

  pub ordered_alike : {st z : State} {ls : List ℕ} → Ordered p st ls z → Ordered (scheduled p is) st ls z
  ordered_alike no_turn = no_turn
  ordered_alike (a_turn r o) = a_turn (rule_alike r) (ordered_alike o)

  pub turns_alike : {c d : Config} {es : List ℕ} → Turns p c es d → Turns (scheduled p is) c es d
  turns_alike no_byte = no_byte
  turns_alike (a_byte h r t) = a_byte h (rule_alike r) (turns_alike t)

  touches_alike : {l : ℕ} {st : State} {u : Use} {q v : ℕ} → Touches p l st u q v → Touches (scheduled p is) l st u q v
  touches_alike (by_rd g h) = by_rd g h
  touches_alike (by_wr g h k) = by_wr g h k

  pub does_alike : {st : State} {ls : List ℕ} {l : ℕ} {u : Use} {q v : ℕ} → Does p st ls l u q v → Does (scheduled p is) st ls l u q v
  does_alike d = record {
    before = d.before;
    after = d.after;
    place = d.place;
    parts = d.parts;
    reached = ordered_alike d.reached;
    touches = touches_alike d.touches;
  }

  -- the other way round: the program's own schedule is one more
  pub apart_alike : {st : State} {ls : List ℕ} → Apart (scheduled p is) st ls → Apart p st ls
  apart_alike a l l' q v u x y = a l l' q v u (does_alike x) (does_alike y)

module _ (p : Program) (is : Items) where
  pub free_alike : {st z : State} {n : ℕ} → OrderFree (scheduled p is) st n z → OrderFree p st n z
  free_alike o = record {
    never_stops = λ u l r. o.never_stops (ordered_alike p is u) l r;
    goes_on = λ u l g h. let (st', r) = o.goes_on (ordered_alike p is u) l g h in (st', rule_alike (scheduled p is) p.schedule r);
    no_longer = λ u. o.no_longer (ordered_alike p is u);
    completes = λ u h. o.completes (ordered_alike p is u) h;
    complete = o.complete;
    bytes_never_stop = λ t. o.bytes_never_stop (turns_alike p is t);
    bytes_complete = λ a es h. let (a', t) = o.bytes_complete a es h in (a', turns_alike (scheduled p is) p.schedule t);
  }

  pub meeting_alike : {st : State} {a n l b q v : ℕ} → Meeting p st a n l b q v → Meeting (scheduled p is) st a n l b q v
  meeting_alike m = record {
    labels = m.labels;
    last = m.last;
    counted = m.counted;
    turns = turns_alike p is m.turns;
    ordered = ordered_alike p is m.ordered;
    before = m.before;
    now = m.now;
    did = does_alike p is m.did;
    does = touches_alike p is m.does;
    writes = m.writes;
    other = m.other;
  }

module _ (p : Program) (is : Items) where
  pub stopping_alike : {st : State} {a n c : ℕ} → Stopping p st a n c → Stopping (scheduled p is) st a n c
  stopping_alike s = record { last = s.last; counted = s.counted; turns = turns_alike p is s.turns; halts = s.halts }

-- Accepted --------------------------------------------------------------------------------------------

-- a step that some struct has is named within the range
all_named : (levels : ℕ) (ar : List ℕ) (ts : List Step) (n : ℕ) → All (CountsStepTo levels ar) ts → Memᴰ n (names_of_steps ts) → n < step_names
unfolding CountsStepTo names_of_steps
all_named levels ar [] n a u = absurd (Memᴰ.not-nil u)
all_named levels ar (t ∷ ts) n a u =
    ⊎_elim (λ e. subst (λ x. x < step_names) (sym e) a.0.0) (λ w. all_named levels ar ts n a.1 w) (Memᴰ.cases_cons u)

had_named : (levels : ℕ) (ar : List ℕ) (tss : List (List Step)) (k n : ℕ)
    → All (λ ts. (0 ≤ length ts) × (length ts ≤ 8) × All (CountsStepTo levels ar) ts) tss → Memᴰ n (names_of_steps (get_or tss k [])) → n < step_names
unfolding names_of_steps
had_named levels ar [] k n a u = absurd (Memᴰ.not-nil u)
had_named levels ar (ts ∷ tss) zero n a u = all_named levels ar ts n a.0.2 u
had_named levels ar (ts ∷ tss) (suc k) n a u = had_named levels ar tss k n a.1 u

-- names and types go by parameters and steps alone
named_alone : (p : Program) (n k : ℕ) (tss : List (List Step)) → NamedSteps p k tss → NamedSteps (alone p n) k tss
named_alone p n k [] h = tt
named_alone p n k (ts ∷ tss) (a, b, c) = (a, b, named_alone p n (suc k) tss c)

typed_alone : (p : Program) (n k : ℕ) (tss : List (List Step)) → TypedSteps p k tss → TypedSteps (alone p n) k tss
typed_alone p n k [] h = tt
typed_alone p n k (ts ∷ tss) (a, c) = (a, typed_alone p n (suc k) tss c)

pub alone_accepted : (p : Program) (n : ℕ) → Accepted p → Had n p.steps → Accepted (alone p n)
unfolding Counts CountsTo CountsSchedule CountsItem CountsItems items fixes fixes_in Within program_size items_count item_count NamesRight Scheduled
    ScheduledItem TypesRight
alone_accepted p n (c, w, m, t) h =
    let low = had_named 16 (map length p.params) p.steps h.0 n c.2 h.1 in (
      (c.0, c.1, c.2, (omega arith, omega arith, (low, tt), omega arith)),
      (w.0, w.1, w.2, omega arith),
      (named_alone p n 0 p.steps m.0, (h, tt)),
      typed_alone p n 0 p.steps t,
    )
