-- Step names get numbers in order of first declaration, over the whole text (02 §1): the names of all steps in order, each once.
use Rattle.std.specs.Prelude.{Bool, true, false, List, [], ◌∷◌, ◌++◌, map}
use Rattle.tokens.specs.Tokens.{same}
use Rattle.syntax.specs.Syntax.{Id, Struct}
use Rattle.meaning.specs.Scope.{step_id, steps_of}

unfoldable pub among : Id → List Id → Bool
among x [] = false
among x (y ∷ l) = elim (same y x) [ true ↦ true | false ↦ among x l ]

-- the names behind those met before, without those that were met
unfoldable pub once : List Id → List Id → List Id
once met [] = []
once met (x ∷ l) = elim (among x met) [ true ↦ once met l | false ↦ x ∷ once (x ∷ met) l ]

unfoldable pub all_steps : List Struct → List Id
all_steps [] = []
all_steps (d ∷ ds) = map step_id (steps_of d) ++ all_steps ds

unfoldable pub step_names : List Struct → List Id
step_names ds = once [] (all_steps ds)
