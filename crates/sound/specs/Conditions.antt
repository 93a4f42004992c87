-- The condition at which a run comes to each number (01, 'Numbers from the state', 'The words of demand 3'), of a machine and the
-- turn bytes left: it is that of the published configuration for which the machine stands, and has no definition of its own.
use Rattle.std.specs.Prelude.{ℕ, List}
use Rattle.machine.specs.Machine.{Machine}
use Rattle.run.specs.Runs.{Config, StandsFor, Halts}

-- at a machine, with these bytes left, the condition of a number holds
abbrev pub Condition : Machine → List ℕ → ℕ → Type 0
Condition m es n = (c : Config) × (StandsFor m c) × (Halts c es n)
