-- Orders of a step (02 §11): sequences of labels, by the published rules alone. Each label's instance takes its next command in turn.
-- Which byte picks which label (02 §5) plays no part in them; `Turns` says the same of turn bytes.
use Rattle.std.specs.Prelude.{ℕ, suc, ◌⊎◌, List, [], ◌∷◌}
use Rattle.program.specs.Tree.{Program}
use Rattle.machine.specs.Published.{State}
use Rattle.machine.specs.Rules.{Actor.instance, Rule}
use Rattle.machine.specs.Stops.{Full, Exceeded}
use Rattle.run.specs.Runs.{Due, Config, Config.config, picked}

-- the instances with these labels take a command each, one after the other
pub data Ordered (p : Program) : State → List ℕ → State → Type 0 where
  no_turn : {st : State} → Ordered p st [] st
  a_turn : {st st' z : State} {l : ℕ} {ls : List ℕ} → Rule p (instance l) st st' → Ordered p st' ls z → Ordered p st (l ∷ ls) z

-- "one order of turns complete it": the order leads to the state z, in which nobody holds commands
abbrev pub Completes : Program → State → List ℕ → State → Type 0
Completes p st ls z = (Ordered p st ls z) × (Due z)

-- the next command of instance l stops with 34 or 35
abbrev pub Refused : ℕ → State → Type 0
Refused l st = (Full l st) ⊎ (Exceeded l st)

-- an order as a run has it: a turn for each byte, which picks a holder, and no move of the schedule between
pub data Turns (p : Program) : Config → List ℕ → Config → Type 0 where
  no_byte : {c : Config} → Turns p c [] c
  a_byte : {n e : ℕ} {st st' : State} {es : List ℕ} {z : Config} → (Due st → ⊥) → Rule p (instance (picked n e st)) st st'
      → Turns p (config (suc (picked n e st)) st') es z
      → Turns p (config n st) (e ∷ es) z
