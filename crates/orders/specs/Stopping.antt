-- The order that zero turn bytes give stops with a number of the state (02 §11), by the published rules alone.
use Rattle.std.specs.Prelude.{ℕ, [], ◌∷◌, replicate}
use Rattle.program.specs.Tree.{Program}
use Rattle.machine.specs.Published.{State}
use Rattle.run.specs.Runs.{Config.config, Halts}
use Rattle.orders.specs.Orders.{Turns}

-- n zero bytes, counted from a label, lead to a state in which the command that the next one chooses is refused with the number c
pub record Stopping (p : Program) (st : State) (from n c : ℕ) : Type 0 where
  pub last : State
  pub counted : ℕ
  pub turns : Turns p (config from st) (replicate n 0) (config counted last)
  pub halts : Halts (config counted last) (0 ∷ []) c
