-- Which instances hold commands after a command (01, 'Table and turns'), as what is said of the instances there.
use Rattle.std.specs.Prelude.{ℕ, ◌≡◌, Bool, false, ◌⊎◌, List, [], ◌∷◌, ◌++◌, set}
use Rattle.std.proofs.Math.Option.{some}
use Rattle.std.proofs.Math.ListN.{get_elem?}
use Rattle.machine.specs.Machine.{Instance}
use Rattle.run.specs.Holders.{flag, flags}

-- nobody is new, or one who holds no commands
abbrev pub Idle : List Bool → Type 0
Idle more = (more ≡ []) ⊎ (more ≡ false ∷ [])

-- the instances after a command of l: l is there, and the flags are those before it with l's own put in, and of a new instance
pub record Flagged (l : ℕ) (fs : List Bool) (is : List Instance) : Type 0 where
  pub actor : Instance
  pub there : get_elem? is l ≡ some actor
  pub more : List Bool
  pub idle : Idle more
  pub others : flags is ≡ set fs l (flag actor) ++ more
