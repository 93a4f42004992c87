-- What the code of an act does with a run that is told (docs/FORMAT.md, 'Traces'): where memory goes as the machine does and the act's line stands
-- behind the page, the text is told up to the next machine; where a turn is refused, all of it is.
use Rattle.std.specs.Prelude.{ℕ, ◌+◌, ◌<◌, ◌≤◌, ◌≡◌, refl, Bool, true, false, not, List, [], ◌∷◌, ◌++◌, length, get_or, take}
use Rattle.std.proofs.Common.{arith, sym, ap, ◌∙◌, subst, append-nil, append_assoc}
use Rattle.std.proofs.Math.Option.{Option}
use borrow.Author.Tests.{ltb-true, ltb-false, not-true, not-false, lt-ltb, le-ltb, le-leb, lt-leb}
use Rattle.types.specs.Limits.{step_names, fix_levels}
use Rattle.program.specs.Tree.{Program}
use Rattle.machine.specs.Machine.{Machine}
use Rattle.machine.specs.Stops.{ended, out_of_turns}
use Rattle.run.specs.Steps.{Steps.here, Steps.silent}
use Rattle.run.specs.Visits.{Visits, Acts.moves as acts_move}
use Rattle.sound.proofs.Laws.ShallowLaws.{good_entries}
use Rattle.layout.specs.declared.Numbers.{Numbers}
use Rattle.layout.specs.State.{State, state_of, due_in}
use Rattle.memory.specs.Act.{act}
use Rattle.memory.specs.Choose.{picked}
use Rattle.memory.specs.Move.{move as move_on}
use Rattle.interpreter.specs.Ready.{Ready}
use Rattle.interpreter.specs.Running.{Turned, Turned.turned, Turned.failed}
use Rattle.interpreter.specs.Laws.RunningLaws.{number_some}
use Rattle.interpreter.specs.Laws.TurnLaws.{none_hold, some_hold, moves_to, turned_by}
use Rattle.interpreter.specs.Laws.VisitWays.{visits_on}
use Rattle.trace.specs.Trace.{trace}
use Rattle.trace.specs.LineText.{lines_text}
use Rattle.trace.proofs.TraceTextLaws.{text_move, text_turn, text_stops}
use Rattle.trace_lines.specs.declared.Told.{Told as Made}
use Rattle.trace_lines.specs.Told.{TurnTold, MoveTold}
use Rattle.trace_lines.specs.TellLaws.{movable_on}
use Rattle.trace_images.specs.declared.pages.Page.{Page}
use Rattle.trace_images.specs.declared.telling.Telling.{Telling}
use Rattle.trace_images.specs.Pages.{longer, Grows}
use Rattle.trace_images.specs.Telling.{rests, waits, told_at, behind, memory_of, Stage, Stops, Silent, Moveable}

-- Between two acts -------------------------------------------------------------------

-- by the test whether a turn is due
module _ (n : Numbers) {b : Bool} (e : b ≡ due_in n) where
  pub nobody_holds : not b ≡ true → n.holding ≡ 0
  nobody_holds t = omega (arith, ltb-false 0 n.holding (sym e ∙ not-true b t))

  pub somebody_holds : not b ≡ false → 0 < n.holding
  somebody_holds t = ltb-true 0 n.holding (sym e ∙ not-false b t)

module _ (es : List ℕ) (s : Telling) where
  abbrev n : ℕ
  n = s.coming.machine.numbers.holding

  abbrev i : ℕ
  i = s.coming.taken

  pub at_nobody : n ≡ 0 → told_at es s ≡ rests s ended
  unfolding told_at
  at_nobody h = rw (le-ltb 0 n (omega arith), told_at)

  module _ (h : 0 < n) where
    pub at_last : length es ≤ i → told_at es s ≡ rests s out_of_turns
    unfolding told_at
    at_last k = rw (lt-ltb 0 n h, told_at, le-leb (length es) i k)

    pub at_turn : i < length es → told_at es s ≡ waits s (get_or es i 0)
    unfolding told_at
    at_turn k = rw (lt-ltb 0 n h, told_at, lt-leb (length es) i k)

-- entries are few
pub ready_few : {p : Program} {counts list items spans : List ℕ} {m : Machine} {z : State} → Ready p counts list items spans m z
    → z.machine.fixes ≤ fix_levels
ready_few r = omega (arith, r.stands.opened, (good_entries r.prepared.firm r.good).0)

-- An act -----------------------------------------------------------------------------

-- its line behind the page
module _ (out : List ℕ) (s : Telling) (made : Made) (part out' : List ℕ) (grows : Grows s.page (take made.length part) out out') where
  abbrev line : List ℕ
  line = take made.length part

  abbrev told_page : Page
  told_page = longer s.page (length line)

  -- a move
  module _ {items spans h h' : List ℕ} (v : Moveable items spans h s)
      (goes : (c : List ℕ) → state_of made.machine.numbers h' c ≡ move_on items spans (memory_of s h c))
      (told : (c : List ℕ) → MoveTold items spans s.coming.step (memory_of s h c) made.step made.length part) where
    pub move_tells : Silent items spans s h out (behind made.machine made.step s.coming.taken told_page) h' out'
    move_tells lent p m es whole fs counts list c st =
        let (m', q, r) = moves_to st.ready (movable_on v.movable) v.nobody in
        let d = none_hold st.ready v.nobody in
        let (text, step) = told c p counts list st.machine st.ready in
        let rest = text_move p st.machine s.coming.step s.coming.taken d q fs in
        record {
          machine = m';
          ready = subst (Ready p counts list items spans m') (sym (goes c)) r;
          visits = visits_on st.visits (0, silent (acts_move d q) here);
          told = st.told ++ line;
          paged = λ l k. grows st.told l (st.paged l k);
          rest = st.rest ∙ ap (λ (x : List ℕ). st.told ++ x) rest ∙ rw (append_assoc, text, step);
        }

-- a turn
module _ (out : List ℕ) (s : Telling) (made : Made) (part : List ℕ) {counts list spans h c h' c' : List ℕ} (held : 0 < s.coming.machine.numbers.holding)
    (goes : state_of made.machine.numbers h' c'
    ≡ act list counts (picked h s.coming.machine.numbers.from s.coming.machine.numbers.count s.coming.byte) (memory_of s h c))
    {lent : Option (List ℕ)} {p : Program} {m : Machine} {es whole fs items : List ℕ}
    (st : Stage lent p m es whole (s.coming.byte ∷ fs) counts list items spans s h c out) where
  after : Turned p counts list items spans st.machine s.coming.byte (memory_of s h c) (state_of made.machine.numbers h' c')
  after = subst (Turned p counts list items spans st.machine s.coming.byte (memory_of s h c)) (sym goes) (turned_by st.ready held s.coming.byte)

  pub turn_tells : (out' : List ℕ) → Grows s.page (take made.length part) out out'
      → TurnTold counts list spans s.coming (memory_of s h c) made.length part → made.machine.numbers.number ≡ 0
      → Stage lent p m es whole fs counts list items spans
      (behind made.machine s.coming.step (s.coming.taken + 1) (longer s.page (length (take made.length part)))) h' c' out'
  turn_tells out' grows told k = go after
    where
      line : List ℕ
      line = take made.length part

      go : Turned p counts list items spans st.machine s.coming.byte (memory_of s h c) (state_of made.machine.numbers h' c')
          → Stage lent p m es whole fs counts list items spans
          (behind made.machine s.coming.step (s.coming.taken + 1) (longer s.page (length line))) h' c' out'
      go (turned {m' = m'} r q v) =
          let text = told p items st.machine st.ready in
          let rest = text_turn p st.machine s.coming.step s.coming.taken (some_hold st.ready held) s.coming.byte q fs in
          record {
            machine = m';
            ready = r;
            visits = visits_on st.visits (v fs);
            told = st.told ++ take made.length part;
            paged = λ l i. grows st.told l (st.paged l i);
            rest = st.rest ∙ ap (λ (x : List ℕ). st.told ++ x) rest ∙ rw (append_assoc, text);
          }
      go (failed x d v) = absurd (number_some d (sym (ap (λ (y : State). y.machine.number) x) ∙ k))

  -- one that is refused
  pub turn_stops : (made.machine.numbers.number ≡ 0 → ⊥)
      → Stops lent p m es whole (s.coming.byte ∷ fs) made.machine.numbers.number s.page out
  turn_stops k = go after
    where
      go : Turned p counts list items spans st.machine s.coming.byte (memory_of s h c) (state_of made.machine.numbers h' c')
          → Stops lent p m es whole (s.coming.byte ∷ fs) made.machine.numbers.number s.page out
      go (turned r q v) = absurd (k r.stands.clear)
      go (failed {n = n} x d v) =
          let f : n ≡ made.machine.numbers.number = ap (λ (y : State). y.machine.number) (sym x) in
          let rest = text_stops p st.machine s.coming.step s.coming.taken (some_hold st.ready held) (s.coming.byte ∷ fs) (v fs) in
          let all : whole ≡ st.told = st.rest ∙ ap (λ (x : List ℕ). st.told ++ x) rest ∙ append-nil st.told in
          record {
            machine = st.machine;
            visits = st.visits;
            stops = rw f at (v fs);
            paged = λ l i. rw all (st.paged l i);
          }
