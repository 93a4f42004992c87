-- Whether the order of a step that zero turn bytes give touches apart (02 §11): the step is followed turn by turn, with a mark for each parameter.
use Rattle.std.specs.Prelude.{ℕ, zero, suc, Bool, true, false, List, [], ◌∷◌, ◌≡◌}
use Rattle.std.proofs.Math.ListN.{get_elem?}
use Rattle.program.specs.Tree.{Program}
use Rattle.machine.specs.Machine.{Machine, Out, Out.next, Out.refused, Out.stuck, command}
use Rattle.run.specs.Turns.{chosen}
use Rattle.run.specs.Holders.{holders, due}
use Rattle.orders.specs.Deeds.{Deed}
use Rattle.orders.specs.Following.{deed_at}
use Rattle.orders.specs.Marks.{Marks, Noted, Noted.noted, Noted.met, note}

-- the instance that a zero byte picks
abbrev pub next_label : Machine → ℕ
next_label m = chosen (holders m) 0

-- what its next command does
abbrev pub next_deed : Program → Machine → Deed
next_deed p m = deed_at p (get_elem? m.instances (next_label m))

-- zero bytes lead from one machine to another, and these labels act
pub data Zeros (p : Program) : Machine → List ℕ → Machine → Type 0 where
  no_turn : {m : Machine} → Zeros p m [] m
  a_turn : {m m' z : Machine} {ls : List ℕ} → due m ≡ false → command p (next_label m) m ≡ next m' → Zeros p m' ls z → Zeros p m (next_label m ∷ ls) z

-- what following a step comes to, after so many turns
pub data Answer : Type 0 where
  -- nobody holds commands, and all touched apart
  apart : ℕ → Answer
  -- the next command of an instance touches what another has touched, one of the two by a write: turns, both instances, label and parameter
  together : ℕ → ℕ → ℕ → ℕ → ℕ → Answer
  -- the next command is refused with this number
  stops : ℕ → ℕ → Answer
  -- the turns that were allowed are used up, or a command lacks what it needs
  unfinished : Answer

-- a turn of instance l after t others: its deed is noted, its command taken
unfoldable pub turned : (Marks → Machine → Answer) → ℕ → ℕ → Noted → Out → Answer
turned f t l (met a q v) o = together t l a q v
turned f t l (noted ms) (next m) = f ms m
turned f t l (noted ms) (refused n) = stops n t
turned f t l (noted ms) stuck = unfinished

-- after t turns: nobody holds commands, or on by the answer a
unfoldable pub unless_due : Bool → ℕ → Answer → Answer
unless_due true t a = apart t
unless_due false t a = a

-- at most so many turns, after t others
unfoldable pub follow : Program → ℕ → ℕ → Marks → Machine → Answer
follow p zero t ms m = unless_due (due m) t unfinished
follow p (suc k) t ms m =
    unless_due (due m) t
    (turned (λ ns z. follow p k (suc t) ns z) t (next_label m) (note ms (next_label m) (next_deed p m)) (command p (next_label m) m))
