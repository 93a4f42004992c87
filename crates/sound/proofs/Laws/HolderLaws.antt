-- The instance that a byte picks holds commands (01, 'Table and turns').
use Rattle.std.specs.Prelude.{ℕ, ◌≡◌, refl, false, List, [], ◌∷◌}
use Rattle.std.proofs.Math.Option.{some}
use Rattle.std.proofs.Math.ListN.{get_elem?}
use Rattle.commands.specs.Noted.{Note}
use Rattle.machine.specs.Machine.{Instance, Machine}
use Rattle.run.specs.Turns.{chosen}
use Rattle.run.specs.Holders.{holders, due}
use Rattle.run.proofs.Laws.TurnLaws.{chosen_holds as chosen_busy}

holds_some : (c : List Note) → (c ≡ [] → ⊥) → (n : Note) × (d : List Note) × (c ≡ n ∷ d)
holds_some [] f = absurd (f refl)
holds_some (n ∷ c) f = (n, c, refl)

-- a byte picks an instance that has a next command
pub chosen_holds : (m : Machine) (e : ℕ) → due m ≡ false
    → (i : Instance) × (n : Note) × (c : List Note) × (get_elem? m.instances (chosen (holders m) e) ≡ some i) × (i.code ≡ n ∷ c)
chosen_holds m e q =
    let (i, a, f) = chosen_busy m e q in
    let (n, c, z) = holds_some i.code f in
    (i, n, c, a, z)
