-- The executable run (01, 'Table and turns'): the schedule moves until commands exist or it is empty; a turn is one command;
-- the whole list of bytes. An outcome has the number, the turns taken and the machine before the refused act.
use Rattle.std.specs.Prelude.{ℕ, zero, suc, ◌+◌, ◌*◌, Bool, true, false, List, [], ◌∷◌, length}
use Rattle.program.specs.Tree.{Program}
use Rattle.machine.specs.Published.{Sched, Sched.done, Sched.start, Sched.fixpoint, Sched.active}
use Rattle.machine.specs.Machine.{Machine, Out, Out.next, Out.refused, Out.stuck, Moved, Moved.next, Moved.stuck, command, move}
use Rattle.machine.specs.Measure.{weight, bound}
use Rattle.run.specs.Turns.{chosen}
use Rattle.run.specs.Holders.{holders, due}
use Rattle.machine.specs.Stops.{ended, out_of_turns}

pub data Outcome : Type 0 where
  stopped : ℕ → ℕ → Machine → Outcome
  -- no rule fits: no run of an accepted program comes to it (demand 3)
  jammed : Outcome

-- one turn more
unfoldable pub later : Outcome → Outcome
later (stopped n t m) = stopped n (suc t) m
later jammed = jammed

-- where the schedule's moves lead: a machine in which none is due, or an outcome
pub data Settled : Type 0 where
  hold : Machine → Settled
  stop : Outcome → Settled

unfoldable pub is_done : Sched → Bool
is_done done = true
is_done (start a s) = false
is_done (fixpoint f s) = false
is_done (active f s) = false

-- a move, and on by k
unfoldable pub moved : (Machine → Settled) → Moved → Settled
moved k (next m') = k m'
moved k stuck = stop jammed

-- a move that is due is made, and no turn is asked for before it
unfoldable pub settle_by : (Machine → Settled) → Program → Machine → Bool → Settled
settle_by k p m false = hold m
settle_by k p m true = elim (is_done m.sched) [ true ↦ stop (stopped ended 0 m) | false ↦ moved k (move p m) ]

unfoldable pub settle : Program → ℕ → Machine → Settled
settle p zero m = stop jammed
settle p (suc f) m = settle_by (λ m'. settle p f m') p m (due m)

-- more moves than any machine can make without a turn (law `fuel-enough`)
unfoldable pub fuel : Machine → ℕ
fuel m = suc (length m.stability * suc (bound m.sched) + weight m.sched)

-- the byte e picks a holder, which takes its next command; k runs on
unfoldable pub taken : (Machine → Outcome) → Machine → Out → Outcome
taken k m (next m') = later (k m')
taken k m (refused n) = stopped n 0 m
taken k m stuck = jammed

unfoldable pub turn : (Machine → Outcome) → Program → ℕ → Settled → Outcome
turn k p e (hold m) = taken k m (command p (chosen (holders m) e) m)
turn k p e (stop o) = o

-- no byte is left
unfoldable pub at_last : Settled → Outcome
at_last (hold m) = stopped out_of_turns 0 m
at_last (stop o) = o

unfoldable pub run : Program → Machine → List ℕ → Outcome
run p m [] = at_last (settle p (fuel m) m)
run p m (e ∷ es) = turn (λ m'. run p m' es) p e (settle p (fuel m) m)
