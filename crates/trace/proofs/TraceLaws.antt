-- The trace of a run is the lines of the way that the run takes, one for each move and each turn, and none for a refused command; the machine behind its last
-- line is the run's last, and its turns are the run's (01, 'The words of demand 3').
use Prim.Native.Nat.{ℕ, zero, suc}
use Rattle.std.proofs.Common.{arith, sym, ◌∙◌}
use Rattle.std.specs.Prelude.{◌≡◌, Bool}
use Rattle.std.proofs.Math.Path.{refl, ap}
use Rattle.std.proofs.Math.Bool.{true, false}
use mathlib.Core.List.{List, [], ◌∷◌, ◌++◌, append-nil}
use Rattle.program.specs.Tree.{Program}
use Rattle.machine.specs.Machine.{Machine, Out, Out.next, Out.refused, Out.stuck, Moved, Moved.next, Moved.stuck, command, move}
use Rattle.run.specs.Turns.{chosen}
use Rattle.run.specs.Holders.{holders, due}
use Rattle.run.specs.Steps.{Steps, Steps.here, Steps.silent, Steps.reads}
use Rattle.run.specs.Visits.{Acts, Acts.moves as by_move, Acts.takes as by_turn}
use Rattle.run.specs.Run.{Outcome, Outcome.stopped, Outcome.jammed, later, Settled, Settled.hold, Settled.stop, is_done, moved as moved_on, settle_by}
use Rattle.run.specs.Run.{settle, fuel, taken, turn, at_last, run}
use Rattle.trace.specs.Trace.{Line, Line.moved, Line.acted, lines_of, move_line, moves_by, moves, turn_line, turn_lines, trace, last_of, turn_count}

-- a way by these bytes whose lines are those
abbrev Way : Program → Machine → List ℕ → ℕ → Machine → List ℕ → List Line → Type 0
Way p m es t z fs ls = (v : Steps (Acts p) m es t z fs) × (lines_of v ≡ ls)

-- lines ls lead from a machine to another: they stand before those of any way from there
abbrev Leads : Program → Machine → Machine → List Line → Type 0
Leads p m z ls = (es fs : List ℕ) (t : ℕ) (w : Machine) (ks : List Line) → Way p z es t w fs ks → Way p m es t w fs (ls ++ ks)

-- of the moves up to where a machine settles
abbrev MovesSay : Program → Machine → List Line → Settled → Type 0
MovesSay p m ls (hold z) = (Leads p m z ls) × (due z ≡ false)
MovesSay p m ls (stop (stopped n t z)) = (t ≡ 0) × (Leads p m z ls)
MovesSay p m ls (stop jammed) = Unit {0}

-- of a run
abbrev RunSays : Program → Machine → List ℕ → List Line → Outcome → Type 0
RunSays p m es ls (stopped n t z) = (fs : List ℕ) × Way p m es t z fs ls
RunSays p m es ls jammed = Unit {0}

-- of every machine, by so much fuel; with these bytes
abbrev Before : Program → ℕ → Type 0
Before p f = (m : Machine) → MovesSay p m (moves p f m) (settle p f m)

abbrev Rest : Program → List ℕ → Type 0
Rest p es = (m : Machine) → RunSays p m es (trace p m es) (run p m es)

module _ (p : Program) where
  -- one move before others
  move_first : (m m' z : Machine) (ls : List Line) → due m ≡ true → move p m ≡ next m' → Leads p m' z ls → Leads p m z (moved m m' ∷ ls)
  unfolding lines_of
  move_first m m' z ls d e h es fs t w ks x = let (v, q) = h es fs t w ks x in (silent (by_move d e) v, ap {B = List Line} (λ l. moved m m' ∷ l) q)

  say_first : (m m' : Machine) (ls : List Line) (x : Settled) → due m ≡ true → move p m ≡ next m' → MovesSay p m' ls x → MovesSay p m (moved m m' ∷ ls) x
  say_first m m' ls (hold z) d e (w, q) = (move_first m m' z ls d e w, q)
  say_first m m' ls (stop (stopped n t z)) d e (q, w) = (q, move_first m m' z ls d e w)
  say_first m m' ls (stop jammed) d e u = tt

  here_leads : (m : Machine) → Leads p m m []
  here_leads m es fs t w ks x = x

  here_way : (m : Machine) (es : List ℕ) → Way p m es 0 m es []
  unfolding lines_of
  here_way m es = (here, refl)

  moves_say : (f : ℕ) (m : Machine) → MovesSay p m (moves p f m) (settle p f m)
  unfolding moves moves_by move_line settle settle_by moved_on
  moves_say zero m = tt
  moves_say (suc f) m = by (due m) refl λ m'. moves_say f m'
    where
      of_move : (o : Moved) → due m ≡ true → move p m ≡ o → Before p f → MovesSay p m (move_line (λ m'. moves p f m') m o) (moved_on (λ m'. settle p f m') o)
      of_move (next m') d e r = say_first m m' (moves p f m') (settle p f m') d e (r m')
      of_move stuck d e r = tt

      at_done : (b : Bool) → due m ≡ true → Before p f
          → MovesSay p m (elim b [ true ↦ [] | false ↦ move_line (λ m'. moves p f m') m (move p m) ])
          (elim b [ true ↦ stop (stopped 0 0 m) | false ↦ moved_on (λ m'. settle p f m') (move p m) ])
      at_done true d r = (refl, here_leads m)
      at_done false d r = of_move (move p m) d refl r

      by : (t : Bool) → due m ≡ t → Before p f → MovesSay p m (moves_by (λ m'. moves p f m') p m t) (settle_by (λ m'. settle p f m') p m t)
      by false e r = (here_leads m, e)
      by true e r = at_done (is_done m.sched) e r

  -- a turn before a way
  turn_first : (m m' : Machine) {z : Machine} (e : ℕ) {es fs : List ℕ} {t : ℕ} {ls : List Line} → due m ≡ false
      → command p (chosen (holders m) e) m ≡ next m' → Way p m' es t z fs ls → Way p m (e ∷ es) (suc t) z fs (acted e (chosen (holders m) e) m m' ∷ ls)
  unfolding lines_of
  turn_first m m' e q c (v, r) = (reads (by_turn {m = m} {m' = m'} {e = e} q c) v, rw r)

  -- the last moves of all
  ending : (m z : Machine) (es : List ℕ) (ls : List Line) → Leads p m z ls → Way p m es 0 z es ls
  ending m z es ls w = rw append-nil at (w es es 0 z [] (here_way z es))

  trace_says : (es : List ℕ) (m : Machine) → RunSays p m es (trace p m es) (run p m es)
  unfolding trace run turn_lines turn_line turn taken at_last later
  trace_says [] m = at_end (settle p (fuel m) m) (moves_say (fuel m) m)
    where
      at_end : (x : Settled) → MovesSay p m (moves p (fuel m) m) x → RunSays p m [] (moves p (fuel m) m) (at_last x)
      at_end (hold z) (w, q) = ([], ending m z [] (moves p (fuel m) m) w)
      at_end (stop (stopped n t z)) (q, w) = ([], rw q (ending m z [] (moves p (fuel m) m) w))
      at_end (stop jammed) u = tt
  trace_says (e ∷ es) m = by (settle p (fuel m) m) (moves_say (fuel m) m) λ m'. trace_says es m'
    where
      after : (z m' : Machine) (o : Outcome) → due z ≡ false → command p (chosen (holders z) e) z ≡ next m'
          → RunSays p m' es (trace p m' es) o → RunSays p z (e ∷ es) (acted e (chosen (holders z) e) z m' ∷ trace p m' es) (later o)
      after z m' (stopped n t w) q c (fs, v) = (fs, turn_first z m' e q c v)
      after z m' jammed q c u = tt

      -- the turn of a machine with holders
      of_turn : (z : Machine) (o : Out) → due z ≡ false → command p (chosen (holders z) e) z ≡ o → Rest p es
          → RunSays p z (e ∷ es) (turn_line (λ m'. trace p m' es) e (chosen (holders z) e) z o) (taken (λ m'. run p m' es) z o)
      of_turn z (next m') q c r = after z m' (run p m' es) q c (r m')
      of_turn z (refused n) q c r = (e ∷ es, here_way z (e ∷ es))
      of_turn z stuck q c r = tt

      with_moves : (z : Machine) (o : Outcome) (ls : List Line) → Leads p m z (moves p (fuel m) m) → RunSays p z (e ∷ es) ls o
          → RunSays p m (e ∷ es) (moves p (fuel m) m ++ ls) o
      with_moves z (stopped n t w) ls v (fs, x) = (fs, v (e ∷ es) fs t w ls x)
      with_moves z jammed ls v u = tt

      by : (x : Settled) → MovesSay p m (moves p (fuel m) m) x → Rest p es
          → RunSays p m (e ∷ es) (moves p (fuel m) m ++ turn_lines (λ m'. trace p m' es) p e x) (turn (λ m'. run p m' es) p e x)
      by (hold z) (w, q) r =
          with_moves z (taken (λ m'. run p m' es) z (command p (chosen (holders z) e) z)) _ w
          (of_turn z (command p (chosen (holders z) e) z) q refl r)
      by (stop (stopped n t z)) (q, w) r = (e ∷ es, rw q (w (e ∷ es) (e ∷ es) 0 z [] (here_way z (e ∷ es))))
      by (stop jammed) u r = tt

  -- the trace of a run that comes to a number is the lines of the way that the run takes
  pub trace_run : (m : Machine) (es : List ℕ) {n t : ℕ} {z : Machine} → run p m es ≡ stopped n t z
      → (fs : List ℕ) × (v : Steps (Acts p) m es t z fs) × (lines_of v ≡ trace p m es)
  trace_run m es {n} {t} {z} e =
      let h : RunSays p m es (trace p m es) (stopped n t z) = rw e at (trace_says es m) in
      (h.0, h.1.0, h.1.1)

-- the machine after the last line of a way is its last, and its turns are counted
pub lines_last : {p : Program} {m z : Machine} {es fs : List ℕ} {t : ℕ} (v : Steps (Acts p) m es t z fs) → last_of m (lines_of v) ≡ z
unfolding lines_of last_of
lines_last here = refl
lines_last (silent s v) = lines_last v
lines_last (reads s v) = lines_last v

pub lines_turns : {p : Program} {m z : Machine} {es fs : List ℕ} {t : ℕ} (v : Steps (Acts p) m es t z fs) → turn_count (lines_of v) ≡ t
unfolding lines_of turn_count
lines_turns here = refl
lines_turns (silent s v) = lines_turns v
lines_turns (reads s v) = ap suc (lines_turns v)

-- so the trace ends at the run's last machine, with a line for each of its turns
pub trace_last : (p : Program) (m : Machine) (es : List ℕ) {n t : ℕ} {z : Machine} → run p m es ≡ stopped n t z → last_of m (trace p m es) ≡ z
trace_last p m es e = let (fs, v, q) = trace_run p m es e in rw q at (lines_last v)

pub trace_turns : (p : Program) (m : Machine) (es : List ℕ) {n t : ℕ} {z : Machine} → run p m es ≡ stopped n t z → turn_count (trace p m es) ≡ t
trace_turns p m es e = let (fs, v, q) = trace_run p m es e in rw q at (lines_turns v)
