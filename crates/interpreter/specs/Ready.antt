-- What holds all through a run on lent memory (01, 'Table and turns'): what was prepared of an accepted program, and a machine with
-- the invariant, which memory holds, with the number of its holders and the label that its turns are counted from.
use Rattle.std.specs.Prelude.{ℕ, ◌≤◌, ◌≡◌, List, length}
use Rattle.program.specs.Tree.{Program}
use Rattle.machine.specs.Machine.{Machine}
use Rattle.sound.specs.Invariant.{Good}
use Rattle.sound.specs.Firm.{Firm}
use Rattle.sound.specs.Tabled.{Tabled}
use Rattle.layout.specs.State.{State}
use Rattle.memory.specs.Frame.{Bounded}
use Rattle.memory.specs.Plan.{At, Located}
use Rattle.memory.specs.Choose.{Kept}
use Rattle.memory.specs.Stands.{Stands}
use Rattle.scheduler.specs.Ready.{spans_size}

-- `counts` has the parameter count of each struct, and `spans` says where the commands of each step stand in `list`
pub record Prepared (p : Program) (counts list spans : List ℕ) : Type 0 where
  pub firm : Firm p
  pub bounded : Bounded p counts
  pub located : Located p list spans
  pub spanned : spans_size ≤ length spans

-- the memory z holds the machine m, whose schedule is laid flat in `items`
pub record Ready (p : Program) (counts list items spans : List ℕ) (m : Machine) (z : State) : Type 0 where
  pub prepared : Prepared p counts list spans
  pub good : Good p m
  pub tabled : Tabled p m.instances
  pub stands : Stands list (At items) m z
  pub kept : Kept z
  pub counting : z.machine.from ≡ m.from
