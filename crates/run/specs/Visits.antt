-- The machines of a run (01, 'The words of demand 3'): its beginning, and after each command and each schedule move. A refused act changes
-- nothing, so the machine before it is the last.
use Rattle.std.specs.Prelude.{ℕ, ◌≡◌, true, false, List}
use Rattle.std.proofs.Math.Option.{Option, none, some}
use Rattle.program.specs.Tree.{Program}
use Rattle.machine.specs.Machine.{Machine, Out.next, Moved.next, command, move}
use Rattle.run.specs.Turns.{chosen}
use Rattle.run.specs.Holders.{holders, due}
use Rattle.run.specs.Steps.{Steps}

-- one step of a machine, as `Step` of a state
pub data Acts (p : Program) : Machine → Option ℕ → Machine → Type 0 where
  moves : {m m' : Machine} → due m ≡ true → move p m ≡ next m' → Acts p m none m'
  takes : {m m' : Machine} {e : ℕ} → due m ≡ false → command p (chosen (holders m) e) m ≡ next m' → Acts p m (some e) m'

-- from a machine, with these bytes, a run passes through another, with those bytes left
abbrev pub Visits : Program → Machine → List ℕ → Machine → List ℕ → Type 0
Visits p m es z fs = (t : ℕ) × Steps (Acts p) m es t z fs

-- the commands taken on the way to a visited machine
abbrev pub turns_of : (p : Program) {m z : Machine} {es fs : List ℕ} → Visits p m es z fs → ℕ
turns_of p (t, v) = t
