-- A started step whose order does not matter (02 §11), by the published rules alone.
use Rattle.std.specs.Prelude.{ℕ, ◌≤◌, ◌≡◌, Bool, List, map, length, take}
use Rattle.std.proofs.Math.Option.{some}
use Rattle.std.proofs.Math.ListN.{get_elem?}
use Rattle.types.specs.Values.{Val}
use Rattle.program.specs.Tree.{Program}
use Rattle.commands.specs.Commands.{Coms, Coms.nil}
use Rattle.machine.specs.Published.{Sched, Env, Env.env, Inst, Inst.inst, State, State.state}
use Rattle.machine.specs.Rules.{Actor.instance, Rule}
use Rattle.machine.specs.Stops.{full, exceeded}
use Rattle.run.specs.Runs.{Due, Config, Config.config, Halts}
use Rattle.orders.specs.Orders.{Ordered, Refused, Turns}

-- the parameters of all instances, in the order of their labels
abbrev pub params_in : State → List (List Val)
params_in (state s σ b) = map params σ
  where
    params : Inst → List Val
    params (inst k c χ (env ps ls)) = ps

-- the stability entries
abbrev pub entries_in : State → List Bool
entries_in (state s σ b) = b

-- of a started step st, which one order of n turns completed in the state z
pub record OrderFree (p : Program) (st : State) (n : ℕ) (z : State) : Type 0 where
  -- "no order of that step stops with 34 or 35": whatever order was taken, no instance's next command is refused,
  pub never_stops : {ls : List ℕ} {st' : State} → Ordered p st ls st' → (l : ℕ) → Refused l st' → ⊥
  -- and each instance that holds commands can take the next one
  pub goes_on : {ls : List ℕ} {s : Sched} {σ : List Inst} {b : List Bool} → Ordered p st ls (state s σ b)
      → (l : ℕ) {k : ℕ} {c : Coms} {χ : List Val} {ξ : Env} → get_elem? σ l ≡ some (inst k c χ ξ) → (c ≡ nil → ⊥)
      → (st' : State) × Rule p (instance l) (state s σ b) st'
  -- "every order long enough completes it, with the same parameters and the same stability entries": no order has more than n turns, and one
  -- of n turns has come to z
  pub no_longer : {ls : List ℕ} {st' : State} → Ordered p st ls st' → length ls ≤ n
  pub completes : {ls : List ℕ} {st' : State} → Ordered p st ls st' → n ≤ length ls → st' ≡ z
  pub complete : Due z
  -- the same of turn bytes, from whatever label they are counted: no list of them comes to 34 or 35 in this step, and the first n of every list
  -- that has as many complete it
  pub bytes_never_stop : {a : ℕ} {es fs : List ℕ} {c : Config} → Turns p (config a st) es c → (Halts c fs full → ⊥) × (Halts c fs exceeded → ⊥)
  pub bytes_complete : (a : ℕ) (es : List ℕ) → n ≤ length es → (a' : ℕ) × Turns p (config a st) (take n es) (config a' z)
