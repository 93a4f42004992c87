-- The lines of a program's steps (01, 'Bench rows'): one for each command, in the order of the command list: struct, step name, position
-- from 0 in its step, command.
use Rattle.std.specs.Prelude.{ℕ, suc, List, [], ◌∷◌, ◌++◌}
use Rattle.program.specs.Tree.{Step, Program}
use Rattle.program.specs.Encoding.{flat}
use Rattle.commands.specs.Commands.{Flat}
use Rattle.commands.specs.Bounds.{step_list}
use Rattle.text.specs.Listing.{column}
use Rattle.text.specs.CommandText.{command_text}

-- the line of a command
unfoldable pub command_line : ℕ → ℕ → ℕ → Flat → List ℕ
command_line k n i c = column k ++ (column n ++ (column i ++ (command_text c ++ 10 ∷ [])))

-- the lines of commands from position i on, in step n of struct k
unfoldable pub command_lines : ℕ → ℕ → ℕ → List Flat → List ℕ
command_lines k n i [] = []
command_lines k n i (c ∷ cs) = command_line k n i c ++ command_lines k n (suc i) cs

-- of a step, of a struct's steps, and of those of all structs from struct k on
unfoldable pub step_lines : ℕ → Step → List ℕ
step_lines k t = command_lines k t.name 0 (step_list t)

abbrev pub steps_lines : ℕ → List Step → List ℕ
steps_lines k ts = flat (step_lines k) ts

unfoldable pub structs_lines : ℕ → List (List Step) → List ℕ
structs_lines k [] = []
structs_lines k (ts ∷ tss) = steps_lines k ts ++ structs_lines (suc k) tss

unfoldable pub program_lines : Program → List ℕ
program_lines p = structs_lines 0 p.steps
