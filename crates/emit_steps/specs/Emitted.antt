-- What it is to write the commands of a program's steps into a lent list (01, 'Names, types, commands').
use Rattle.std.specs.Prelude.{ℕ, ◌≡◌, List, ◌++◌, length, drop}
use Rattle.program.specs.Tree.{Program}
use Rattle.program.specs.Reader.{Result.ok, read_params, read}
use Rattle.commands.specs.Bounds.{arities}
use Rattle.commands.specs.ProgramWords.{program_words}

-- where the stream is a program, `ar` has its parameter counts and its parameter lists end at `at`: its words stand from the list's first place on,
-- and further places are untouched
abbrev pub EmittedProgram : List ℕ → List ℕ → ℕ → List ℕ → List ℕ → Type 0
EmittedProgram ar s at list list' =
    (p : Program) (m : ℕ) → read s ≡ ok p m → ar ≡ arities p → read_params s 0 ≡ ok p.params at
    → list' ≡ program_words p ++ drop (length (program_words p)) list
