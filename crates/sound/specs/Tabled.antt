-- What the table of a machine rests on beside the invariant (01, 'Table and turns'): labels 0 to S − 1 are the null instances, which
-- hold defaults; there are at most 256 instances, each of a struct of the program; and the label that acted last is one of them.
use Rattle.std.specs.Prelude.{ℕ, ◌<◌, ◌≤◌, ◌≡◌, List, map, length}
use Rattle.std.proofs.Math.Option.{some}
use Rattle.std.proofs.Math.ListN.{get_elem?}
use Rattle.types.specs.Limits.{max_instances}
use Rattle.types.specs.Values.{default}
use Rattle.program.specs.Tree.{Program}
use Rattle.commands.specs.Context.{params_of}
use Rattle.machine.specs.Published.{structs}
use Rattle.machine.specs.Machine.{Instance, Machine}
use Rattle.run.specs.Begin.{params_in}

-- instance l is of a struct of the program, and holds defaults where it is a null one
abbrev pub TabledInst : Program → ℕ → Instance → Type 0
TabledInst p l i = (i.struct < structs p) × (l < structs p → params_in i.env ≡ map default (params_of p i.struct))

-- of all instances
pub record Tabled (p : Program) (is : List Instance) : Type 0 where
  pub null_ones : structs p ≤ length is
  pub few : length is ≤ max_instances
  pub each : (l : ℕ) (i : Instance) → get_elem? is l ≡ some i → TabledInst p l i

-- the label that acted last, if any did, is one that exists: turns are counted from the label after it (02, 'Turns that go round')
abbrev pub LastThere : Machine → Type 0
LastThere m = m.from ≤ length m.instances
