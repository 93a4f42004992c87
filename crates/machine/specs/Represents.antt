-- Which published state (000, definition 4) a machine stands for: notes and tags left out, commands nested again.
-- `flatten` is injective (law `flatten_injective` of the commands), so a machine stands for one state at most.
use Rattle.std.specs.Prelude.{◌≡◌, List, [], ◌∷◌, map}
use Rattle.types.specs.Values.{Val}
use Rattle.commands.specs.Commands.{flatten}
use Rattle.commands.specs.Noted.{erase}
use Rattle.machine.specs.Published.{Inst, Inst.inst, State, State.state}
use Rattle.machine.specs.Machine.{Tagged, Instance, Machine}

-- a stack without its tags
unfoldable pub values : List Tagged → List Val
values χ = map (λ x. x.is) χ

abbrev pub RepresentsInst : Instance → Inst → Type 0
RepresentsInst i (inst k c χ ξ) =
    (i.struct ≡ k) × (map erase i.code ≡ flatten c) × (values i.stack ≡ χ) × (i.env ≡ ξ)

-- place by place, under the same labels
abbrev pub RepresentsAll : List Instance → List Inst → Type 0
RepresentsAll [] [] = Unit {0}
RepresentsAll [] (j ∷ σ) = ⊥
RepresentsAll (i ∷ is) [] = ⊥
RepresentsAll (i ∷ is) (j ∷ σ) = (RepresentsInst i j) × (RepresentsAll is σ)

abbrev pub Represents : Machine → State → Type 0
Represents m (state s σ b) = (m.sched ≡ s) × (RepresentsAll m.instances σ) × (m.stability ≡ b)
