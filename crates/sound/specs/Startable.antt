-- The machines that a run may begin with (01, 'Table and turns', 'The words of demand 3'; 02, 'Pausing a run'). A right table gives one, and
-- every machine that a run passes through is one; what is said of runs is said from here.
use Rattle.program.specs.Tree.{Program}
use Rattle.machine.specs.Machine.{Machine}
use Rattle.sound.specs.Invariant.{Good}
use Rattle.sound.specs.Tabled.{Tabled, LastThere}

-- a machine with the invariant, whose instances make a table, and whose last actor is one of them
pub record Startable (p : Program) (m : Machine) : Type 0 where
  pub good : Good p m
  pub tabled : Tabled p m.instances
  pub last : LastThere m
