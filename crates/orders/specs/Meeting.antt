-- Two instances that meet at a parameter in the order that zero turn bytes give (02 §11), by the published rules alone.
use Rattle.std.specs.Prelude.{ℕ, ◌≡◌, ◌⊎◌, List, replicate}
use Rattle.program.specs.Tree.{Program}
use Rattle.machine.specs.Published.{State}
use Rattle.run.specs.Runs.{Config.config}
use Rattle.orders.specs.Orders.{Ordered, Turns}
use Rattle.orders.specs.Touches.{Use, Use.writing, Touches, Does}

-- n zero bytes, counted from a label, lead to a state where the next command of instance l touches parameter v of instance q, which instance a has
-- touched before; they are two, and one of them writes it
pub record Meeting (p : Program) (st : State) (from n l a q v : ℕ) : Type 0 where
  pub labels : List ℕ
  pub last : State
  pub counted : ℕ
  pub turns : Turns p (config from st) (replicate n 0) (config counted last)
  pub ordered : Ordered p st labels last
  pub before : Use
  pub now : Use
  pub did : Does p st labels a before q v
  pub does : Touches p l last now q v
  pub writes : (before ≡ writing) ⊎ (now ≡ writing)
  pub other : l ≡ a → ⊥
