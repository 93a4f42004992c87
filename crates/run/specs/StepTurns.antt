-- How many turns a run takes before nobody holds commands (01, 'Table and turns').
use Rattle.std.specs.Prelude.{ℕ, ◌≤◌, ◌≡◌, List, []}
use Rattle.program.specs.Tree.{Program}
use Rattle.machine.specs.Machine.{Machine}
use Rattle.run.specs.Holders.{holders}
use Rattle.run.specs.Visits.{Visits, turns_of}

-- on the way from one machine to another at most k turns are taken, or at most k before nobody holds commands
pub data Spends (p : Program) (k : ℕ) (m : Machine) (es : List ℕ) (z : Machine) (fs : List ℕ) : Type 0 where
  all : (v : Visits p m es z fs) → turns_of p v ≤ k → Spends p k m es z fs
  then_still : {y : Machine} {gs : List ℕ} (v : Visits p m es y gs) → turns_of p v ≤ k → holders y ≡ [] → Visits p y gs z fs → Spends p k m es z fs
