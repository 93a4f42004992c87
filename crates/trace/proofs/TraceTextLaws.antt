-- The text of a trace is made line by line (docs/FORMAT.md, 'Traces'): that of an act that is due stands in front of the text from the machine behind
-- it, and where the run rests there is no more.
use Rattle.std.specs.Prelude.{ℕ, ◌+◌, ◌<◌, ◌≤◌, ◌≡◌, true, false, length}
use Rattle.std.proofs.Math.Path.{refl, ap}
use Rattle.std.proofs.Common.{sym, ◌∙◌, arith}
use mathlib.Core.List.{List, [], ◌∷◌, ◌++◌, append-nil}
use borrow.Author.Tests.{lt-ltb, le-ltb}
use Rattle.types.specs.Limits.{max_turns}
use Rattle.types.specs.Numbers.{many_turns}
use Rattle.types.specs.Stages.{on, asked}
use Rattle.program.specs.Tree.{Program}
use Rattle.table.specs.Table.{Record}
use Rattle.machine.specs.Published.{Sched.done}
use Rattle.machine.specs.Machine.{Machine, Out, Out.next as taken_to, Out.refused, Out.stuck, Moved.next as moved_to, command, move}
use Rattle.run.specs.Begin.{begin}
use Rattle.run.specs.Entry.{begun, not_begun, images}
use Rattle.run.specs.Turns.{chosen}
use Rattle.run.specs.Holders.{holders, due}
use Rattle.run.specs.Run.{Outcome.stopped, run}
use Rattle.trace.specs.Trace.{Line, Line.moved, Line.acted, alone, move_line, turn_line, trace, turn_count}
use Rattle.trace.specs.LineText.{step_name, line_text, step_behind, turn_behind, lines_text, trace_lines, end_text}
use Rattle.trace.specs.TraceText.{end_of, run_text, begun_text, traces, trace_text}
use Rattle.trace.proofs.TraceLaws.{trace_turns}
use Rattle.trace.proofs.TraceStepLaws.{trace_move, trace_turn, trace_lasts, trace_ends}

module _ (p : Program) (m : Machine) (n t : ℕ) where
  -- a move that is due
  pub text_move : {m' : Machine} → due m ≡ true → move p m ≡ moved_to m' → (es : List ℕ)
      → lines_text p n t (trace p m es) ≡ lines_text p n 0 (move_line alone m (move p m)) ++ lines_text p (step_name n m.sched) t (trace p m' es)
  unfolding lines_text move_line line_text step_behind turn_behind
  text_move {m'} d q es =
      let k : lines_text p n 0 (move_line alone m (moved_to m')) ≡ line_text p n 0 (moved m m') = append-nil _ in
      ap (lines_text p n t) (trace_move p m d q es) ∙ rw q (ap (λ (l : List ℕ). l ++ lines_text p (step_name n m.sched) t (trace p m' es)) (sym k))

  module _ (d : due m ≡ false) where
    -- a turn that is taken
    pub text_turn : {m' : Machine} (e : ℕ) → command p (chosen (holders m) e) m ≡ taken_to m' → (es : List ℕ)
        → lines_text p n t (trace p m (e ∷ es))
        ≡ lines_text p n t (turn_line alone e (chosen (holders m) e) m (command p (chosen (holders m) e) m)) ++ lines_text p n (t + 1) (trace p m' es)
    unfolding lines_text turn_line step_behind turn_behind
    text_turn {m'} e q es =
        let l = chosen (holders m) e in
        let k : lines_text p n t (turn_line alone e l m (taken_to m')) ≡ line_text p n t (acted e l m m') = append-nil _ in
        ap (lines_text p n t) (trace_turn p m d e es) ∙ rw q (ap (λ (x : List ℕ). x ++ lines_text p n (t + 1) (trace p m' es)) (sym k))

    -- a run that takes no turn: the first has no line
    untaken : (e : ℕ) (es : List ℕ) {k : ℕ} {z : Machine} → run p m (e ∷ es) ≡ stopped k 0 z → (f : Machine → List Line)
        → turn_line f e (chosen (holders m) e) m (command p (chosen (holders m) e) m) ≡ []
    unfolding turn_line turn_count
    untaken e es q f = go (command p (chosen (holders m) e) m) refl
      where
        by : (Machine → List Line) → Out → List Line
        by g o = turn_line g e (chosen (holders m) e) m o

        go : (o : Out) → command p (chosen (holders m) e) m ≡ o → by f (command p (chosen (holders m) e) m) ≡ []
        go (taken_to m') c =
            let g : Machine → List Line = λ x. trace p x es in
            let h : turn_count (by g (taken_to m')) ≡ 0 = ap turn_count (sym (trace_turn p m d e es ∙ ap (by g) c)) ∙ trace_turns p m (e ∷ es) q in
            absurd (omega arith)
        go (refused k) c = ap (by f) c
        go stuck c = ap (by f) c

    pub text_untaken : (e : ℕ) (es : List ℕ) {k : ℕ} {z : Machine} → run p m (e ∷ es) ≡ stopped k 0 z
        → lines_text p n t (turn_line alone e (chosen (holders m) e) m (command p (chosen (holders m) e) m)) ≡ []
    unfolding lines_text
    text_untaken e es q = ap (lines_text p n t) (untaken e es q alone)

    -- and there are none
    none_taken : (es : List ℕ) {k : ℕ} {z : Machine} → run p m es ≡ stopped k 0 z → trace p m es ≡ []
    none_taken [] q = trace_lasts p m d
    none_taken (e ∷ es) q = trace_turn p m d e es ∙ untaken e es q (λ x. trace p x es)

    pub text_stops : (es : List ℕ) {k : ℕ} {z : Machine} → run p m es ≡ stopped k 0 z → lines_text p n t (trace p m es) ≡ []
    unfolding lines_text
    text_stops es q = rw (none_taken es q)

  -- the schedule is at its end
  pub text_ends : due m ≡ true → m.sched ≡ done → (es : List ℕ) → lines_text p n t (trace p m es) ≡ []
  unfolding lines_text
  text_ends d q es = rw (trace_ends p m d q es)

-- The whole text ---------------------------------------------------------------

module _ (x y es : List ℕ) where
  -- what is refused before the number of turns is looked at
  pub refused_text : {k : ℕ} → images x y ≡ not_begun k → trace_text x y es ≡ end_text k 0
  unfolding trace_text traces begun_text on asked
  refused_text e = rw e

  module _ {p : Program} {rs : List Record} (b : images x y ≡ begun p rs) where
    pub many_text : max_turns < length es → trace_text x y es ≡ end_text many_turns 0
    unfolding trace_text traces begun_text on asked
    many_text h = rw (b, lt-ltb max_turns (length es) h)

    -- a run
    pub begun_run_text : length es ≤ max_turns → {k t : ℕ} {z : Machine} → run p (begin p rs) es ≡ stopped k t z
        → trace_text x y es ≡ trace_lines p (trace p (begin p rs) es) ++ end_text k t
    unfolding trace_text traces begun_text on asked run_text end_of
    begun_run_text h q = rw (b, le-ltb max_turns (length es) h, q)
