-- The stability update of rules ComWr and ComCons as 000 writes it.
use Rattle.std.specs.Prelude.{◌≡◌, refl, Bool, true, false, ◌&&◌, List, [], ◌∷◌, map}
use Rattle.machine.specs.Rules.{meet}

-- each entry is met with su: sχ₁ ∧ su; ..; sχₙ ∧ su
pub meet_each : (su : Bool) (b : List Bool) → meet su b ≡ map (λ t. t && su) b
unfolding meet
meet_each true [] = refl
meet_each true (true ∷ b) = rw (← meet_each true b, meet)
meet_each true (false ∷ b) = rw (← meet_each true b, meet)
meet_each false [] = refl
meet_each false (true ∷ b) = rw (← meet_each false b, meet)
meet_each false (false ∷ b) = rw (← meet_each false b, meet)
