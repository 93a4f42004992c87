-- A trace is made line by line: a move that is due, or a turn, has its line in front of the trace of the machine behind it, and a machine at which the
-- run rests has none (01, 'Table and turns').
use Prim.Native.Nat.{ℕ, zero, suc}
use Rattle.std.proofs.Common.{arith, sym, ◌∙◌}
use Rattle.std.proofs.Math.Path.{◌≡◌, refl, ap}
use Rattle.std.specs.Prelude.{Bool, true, false}
use mathlib.Core.List.{List, [], ◌∷◌, ◌++◌}
use Rattle.program.specs.Tree.{Program}
use Rattle.machine.specs.Published.{Sched, Sched.done, Sched.start, Sched.fixpoint, Sched.active}
use Rattle.machine.specs.Machine.{Instance, Machine, Out, Out.next, Out.refused, Out.stuck, Moved, Moved.next, Moved.stuck, command, move_by, move}
use Rattle.machine.specs.Measure.{bound}
use Rattle.machine.proofs.Laws.MeasureLaws.{move_falls}
use Rattle.run.specs.Turns.{chosen}
use Rattle.run.specs.Holders.{holders, due}
use Rattle.run.proofs.Laws.Settles.{Settles.holds, Settles.ends as SettlesEnd, Settles.moves as settles_move}
use Rattle.run.proofs.Laws.FuelLaws.{Enough, fuel_suffices, fuel_settles, settled}
use Rattle.run.specs.Run.{Settled, Settled.hold, Settled.stop, is_done, settle, fuel}
use Rattle.trace.specs.Trace.{Line, Line.moved, Line.acted, move_line, moves_by, moves, turn_line, turn_lines, trace}

module _ (p : Program) where
  -- fuel that is enough makes the same moves
  moves_fuel : (B C : ℕ) (f g : ℕ) (m : Machine) → Enough B f m → Enough C g m → moves p f m ≡ moves p g m
  unfolding moves moves_by move_line
  moves_fuel B C zero g m h k = absurd (omega arith)
  moves_fuel B C (suc f) zero m h k = absurd (omega arith)
  moves_fuel B C (suc f) (suc g) m h k = by (due m) λ m' a b. moves_fuel B C f g m' a b
    where
      of_move : (o : Moved) → move p m ≡ o → ((m' : Machine) → Enough B f m' → Enough C g m' → moves p f m' ≡ moves p g m')
          → move_line (λ m'. moves p f m') m o ≡ move_line (λ m'. moves p g m') m o
      of_move (next m') e r =
          let (a, b) = move_falls p B m h.0 e in
          let (c, d) = move_falls p C m k.0 e in
          ap {B = List Line} (λ ls. moved m m' ∷ ls) (r m' (b, omega arith) (d, omega arith))
      of_move stuck e r = refl

      at_done : (b : Bool) → ((m' : Machine) → Enough B f m' → Enough C g m' → moves p f m' ≡ moves p g m')
          → ◌≡◌ {A = List Line} (elim b [ true ↦ [] | false ↦ move_line (λ m'. moves p f m') m (move p m) ])
          (elim b [ true ↦ [] | false ↦ move_line (λ m'. moves p g m') m (move p m) ])
      at_done true r = refl
      at_done false r = of_move (move p m) refl r

      by : (t : Bool) → ((m' : Machine) → Enough B f m' → Enough C g m' → moves p f m' ≡ moves p g m')
          → moves_by (λ m'. moves p f m') p m t ≡ moves_by (λ m'. moves p g m') p m t
      by false r = refl
      by true r = at_done (is_done m.sched) r

  -- a schedule that moves is not at its end
  undone : (s : Sched) (is : List Instance) (b : List Bool) (n : ℕ) {m' : Machine} → move_by p s is b n ≡ next m' → is_done s ≡ false
  unfolding is_done move_by
  undone done is b n e = let z : ◌≡◌ {A = ℕ} 0 1 = cc in absurd (omega arith)
  undone (start a s) is b n e = refl
  undone (fixpoint f s) is b n e = refl
  undone (active f s) is b n e = refl

  module _ (m : Machine) where
    module _ {m' : Machine} (d : due m ≡ true) (q : move p m ≡ next m') where
      moves_first : (f : ℕ) → Enough (bound m.sched) f m → moves p f m ≡ moved m m' ∷ moves p (fuel m') m'
      unfolding moves moves_by move_line
      moves_first zero h = absurd (omega arith)
      moves_first (suc f) h =
          let (a, b) = move_falls p (bound m.sched) m h.0 q in
          rw (d, undone m.sched m.instances m.stability m.from q, moves_by, q)
          (ap {B = List Line} (λ ls. moved m m' ∷ ls) (moves_fuel (bound m.sched) (bound m'.sched) f (fuel m') m' (b, omega arith) (fuel_suffices m')))

      -- a move that is due
      pub trace_move : (es : List ℕ) → trace p m es ≡ moved m m' ∷ trace p m' es
      unfolding trace
      trace_move [] = moves_first (fuel m) (fuel_suffices m)
      trace_move (e ∷ es) = rw (moves_first (fuel m) (fuel_suffices m), settled p (settles_move d q (fuel_settles p m')))

    module _ (d : due m ≡ false) where
      moves_none : (f : ℕ) → moves p f m ≡ []
      unfolding moves moves_by
      moves_none zero = refl
      moves_none (suc f) = rw d

      -- a turn, refused or not
      pub trace_turn : (e : ℕ) (es : List ℕ)
          → trace p m (e ∷ es) ≡ turn_line (λ m'. trace p m' es) e (chosen (holders m) e) m (command p (chosen (holders m) e) m)
      unfolding trace turn_lines
      trace_turn e es = rw (moves_none (fuel m), settled p (holds d))

      -- no byte is left
      pub trace_lasts : trace p m [] ≡ []
      unfolding trace
      trace_lasts = moves_none (fuel m)

    module _ (d : due m ≡ true) (q : m.sched ≡ done) where
      moves_ended : (f : ℕ) → moves p f m ≡ []
      unfolding moves moves_by is_done
      moves_ended zero = refl
      moves_ended (suc f) = rw (d, q)

      -- the schedule is at its end
      pub trace_ends : (es : List ℕ) → trace p m es ≡ []
      unfolding trace turn_lines
      trace_ends [] = moves_ended (fuel m)
      trace_ends (e ∷ es) = rw (moves_ended (fuel m), settled p (SettlesEnd d q))
