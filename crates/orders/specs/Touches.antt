-- What the commands of an order touch, and when they touch apart (02 §11), by the published rules alone.
use Rattle.std.specs.Prelude.{ℕ, ◌<◌, ◌≤◌, ◌≡◌, Bool, List, ◌∷◌, ◌++◌}
use Rattle.std.proofs.Math.Option.{some}
use Rattle.std.proofs.Math.ListN.{get_elem?}
use Rattle.types.specs.Limits.{first_local}
use Rattle.types.specs.Values.{Val, Val.label}
use Rattle.program.specs.Tree.{Program}
use Rattle.commands.specs.Commands.{Com.rd, Com.wr, Coms, Coms.act}
use Rattle.machine.specs.Published.{Sched, Env, Inst, Inst.inst, State, State.state, structs}
use Rattle.orders.specs.Orders.{Ordered}

-- a command reads a parameter, or writes it
pub data Use : Type 0 where
  reading : Use
  writing : Use

-- the next command of instance l touches parameter v of instance m: every rd of a parameter, those along a path too; and every wr of one,
-- whatever value is there ("Writing an equal value counts as a write"), unless it is dropped on a null instance. Locals are touched by
-- their own instance alone, and left out.
pub data Touches (p : Program) (l : ℕ) : State → Use → ℕ → ℕ → Type 0 where
  by_rd : {s : Sched} {σ : List Inst} {b : List Bool} {m k v : ℕ} {c : Coms} {χ : List Val} {ξ : Env}
      → get_elem? σ l ≡ some (inst k (act (rd v) c) (label m ∷ χ) ξ)
      → v < first_local
      → Touches p l (state s σ b) reading m v
  by_wr : {s : Sched} {σ : List Inst} {b : List Bool} {m k v : ℕ} {c : Coms} {χ : List Val} {ξ : Env} {x : Val}
      → get_elem? σ l ≡ some (inst k (act (wr v) c) (label m ∷ x ∷ χ) ξ)
      → v < first_local
      → structs p ≤ m
      → Touches p l (state s σ b) writing m v

-- somewhere in the order ls, which begins at st, instance l touches parameter v of instance m
pub record Does (p : Program) (st : State) (ls : List ℕ) (l : ℕ) (u : Use) (m v : ℕ) : Type 0 where
  pub before : List ℕ
  pub after : List ℕ
  pub place : State
  pub parts : ls ≡ before ++ l ∷ after
  pub reached : Ordered p st before place
  pub touches : Touches p l place u m v

-- "without two different instances touching the same parameter of one instance, at least one by a write that wasn't dropped on a null
-- instance": whoever writes a parameter is the only one to touch it
abbrev pub Apart : Program → State → List ℕ → Type 0
Apart p st ls = (l l' m v : ℕ) (u : Use) → Does p st ls l writing m v → Does p st ls l' u m v → l ≡ l'
