-- The stability entries as one number (02, 'Stability entries by product'): its product with 0 or 1 is the product of each entry.
use Rattle.std.specs.Prelude.{◌*◌, ◌≡◌, refl, Bool, true, false, ◌&&◌, List, [], ◌∷◌, map}
use Rattle.std.proofs.Common.{arith, mul-one, mul-zero, ap, ◌∙◌}
use Rattle.machine.specs.Rules.{meet}
use Rattle.machine.proofs.Laws.RulesLaws.{meet_each}
use Rattle.layout.specs.State.{State, bit, times, unstable}
use Rattle.memory.specs.Stands.{bits}

-- an entry times 0 or 1
pub entry_times : (e t : Bool) → bit (e && t) ≡ bit e * bit t
entry_times true true = refl
entry_times true false = refl
entry_times false true = refl
entry_times false false = refl

-- all of them
pub bits_times : (t : Bool) (b : List Bool) → bits (map (λ e. e && t) b) ≡ bits b * bit t
unfolding bits
bits_times true [] = refl
bits_times true (true ∷ b) = let h = bits_times true b in omega arith
bits_times true (false ∷ b) = let h = bits_times true b in omega arith
bits_times false [] = refl
bits_times false (true ∷ b) = let h = bits_times false b in omega arith
bits_times false (false ∷ b) = let h = bits_times false b in omega arith

-- as the rules write it
pub meet_times : (t : Bool) (b : List Bool) → bits (meet t b) ≡ bits b * bit t
meet_times t b = ap bits (meet_each t b) ∙ bits_times t b

-- times 1 they stay, times 0 all are false
pub times_one : (z : State) → times true z ≡ z
times_one z = rw (mul-one z.machine.stable)

pub times_zero : (z : State) → times false z ≡ unstable z
times_zero z = rw (mul-zero z.machine.stable)
