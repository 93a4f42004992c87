-- The list of a program (01, 'Names, types, commands': "The list holds the steps from its first place, structs in order, each struct's steps in
-- stream order"): the commands of its steps in a row, and a word for each.
use Rattle.std.specs.Prelude.{ℕ, List, [], ◌∷◌, ◌++◌}
use Rattle.program.specs.Tree.{Step, Program}
use Rattle.commands.specs.Commands.{Flat}
use Rattle.commands.specs.Coding.{words}
use Rattle.commands.specs.Bounds.{step_list}

-- the commands of a struct's steps, and of those of all structs
unfoldable pub steps_list : List Step → List Flat
steps_list [] = []
steps_list (t ∷ ts) = step_list t ++ steps_list ts

unfoldable pub structs_list : List (List Step) → List Flat
structs_list [] = []
structs_list (ts ∷ tss) = steps_list ts ++ structs_list tss

-- the words of a step, of a struct's steps, of those of all structs
unfoldable pub step_words : Step → List ℕ
step_words t = words (step_list t)

unfoldable pub steps_words : List Step → List ℕ
steps_words ts = words (steps_list ts)

unfoldable pub structs_words : List (List Step) → List ℕ
structs_words tss = words (structs_list tss)

unfoldable pub program_words : Program → List ℕ
program_words p = structs_words p.steps
