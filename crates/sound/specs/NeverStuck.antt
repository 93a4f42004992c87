-- Demand 3 (01, 'The words of demand 3'): a single statement about the whole list of turn bytes.
use Rattle.std.specs.Prelude.{ℕ, ◌≤◌, ◌≡◌, ◌↔◌, List, length, drop}
use Rattle.program.specs.Tree.{Program}
use Rattle.commands.specs.Bounds.{program_depth}
use Rattle.table.specs.Table.{Record}
use Rattle.machine.specs.Machine.{Machine}
use Rattle.run.specs.Run.{Outcome.stopped, run}
use Rattle.run.specs.Visits.{Visits}
use Rattle.run.specs.Begin.{begin}
use Rattle.sound.specs.Needs.{Right}
use Rattle.sound.specs.Conditions.{Condition}

-- of a run from the machine m with the turn bytes es
pub record NeverStuck (p : Program) (m : Machine) (es : List ℕ) : Type 0 where
  -- the run returns a number, the turns taken and a machine, the one before the refused act
  pub number : ℕ
  pub turns : ℕ
  pub last : Machine
  pub returns : run p m es ≡ stopped number turns last
  -- it has come to that machine by those turns, with the bytes after them left
  pub counted : turns ≤ length es
  pub visited : Visits p m es last (drop turns es)
  -- in every machine that the run passes through, that one included, every next command finds what it needs, every parameter holds
  -- a value of its type, and no stack is higher than the depth that the checker reports
  pub right : (z : Machine) (fs : List ℕ) → Visits p m es z fs → Right p (program_depth p) z
  -- each of them leads to it by the bytes left there
  pub leads : (z : Machine) (fs : List ℕ) → Visits p m es z fs → Visits p z fs last (drop turns es)
  -- the number is returned exactly at its condition: it holds there, no other number's does, and none does at an earlier machine
  pub exactly : (z : Machine) (fs : List ℕ) → Visits p m es z fs
      → (k : ℕ) → Condition z fs k ↔ ((z ≡ last) × (fs ≡ drop turns es) × (k ≡ number))
  -- nothing is visited after it: a refused act changes nothing and is the last
  pub final : (z : Machine) (fs : List ℕ) → Visits p last (drop turns es) z fs → (z ≡ last) × (fs ≡ drop turns es)

-- of a run that begins with a table and the whole schedule
abbrev pub Demand3 : Program → List Record → List ℕ → Type 0
Demand3 p rs es = NeverStuck p (begin p rs) es
