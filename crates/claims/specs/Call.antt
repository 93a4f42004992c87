-- A call that begins a run (01, 'The words of demand 3', 'Numbers from the state'): what holds of the run, what the published rules come
-- to and what the entry answers, in one statement. It is said of any machine that a run begins with, and of a table's first one.
use Rattle.std.specs.Prelude.{ℕ, List, length}
use Rattle.program.specs.Tree.{Program}
use Rattle.table.specs.Table.{Record}
use Rattle.machine.specs.Machine.{Machine}
use Rattle.run.specs.Runs.{Config}
use Rattle.run.specs.Holders.{holders}
use Rattle.run.specs.Begin.{begin, table_of}
use Rattle.run.specs.Initial.{initially}
use Rattle.run.specs.Comes.{Comes}
use Rattle.run.specs.Answered.{Answered}
use Rattle.sound.specs.NeverStuck.{NeverStuck}

-- of a run from the machine m, which stands for the configuration c, with these turn bytes; `Answer` says what the entry answers, of the
-- number, the turns and the last machine
pub record Called (p : Program) (m : Machine) (c : Config) (es : List ℕ) (Answer : ℕ → ℕ → Machine → Type 0) : Type 0 where
  -- the run is never stuck; it comes to a number, by so many turns, at a last machine
  pub never_stuck : NeverStuck p m es
  -- the published rules come to that number, those turns, and the holders and the table of that machine,
  pub comes : Comes p c es never_stuck.number never_stuck.turns (length (holders never_stuck.last)) (table_of p never_stuck.last)
  -- and the entry answers them
  pub answered : Answer never_stuck.number never_stuck.turns never_stuck.last

-- of program image, table image, turn bytes, output and list, with the program and the records that the images hold: the answer is the report,
-- every output byte and every list place
abbrev pub Call : List ℕ → List ℕ → List ℕ → List ℕ → List ℕ → Program → List Record → Type 0
Call x y es out list p rs =
    Called p (begin p rs) (initially p rs) es (λ n t z. Answered x y es out list p n t (length (holders z)) (table_of p z))
