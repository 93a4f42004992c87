-- The listing of a program and of an image (01, 'Bench rows'). A head: structs, steps, commands, greatest depth. Then a line for each
-- command. A refused image: `refused n`.
use Rattle.std.specs.Prelude.{ℕ, List, [], ◌∷◌, ◌++◌, length}
use Rattle.types.specs.Stages.{Stage.went as accepted, Stage.stopped as refused}
use Rattle.program.specs.Tree.{Program}
use Rattle.commands.specs.Bounds.{total, program_size, program_depth}
use Rattle.verdict.specs.Verdict.{Checked, checked}
use Rattle.text.specs.Listing.{row}
use Rattle.step_lines.specs.Lines.{program_lines}

-- bytes that hold any listing: a head and a line for each of 1,024 commands
abbrev pub listing_bytes : ℕ
listing_bytes = 131072

-- `audala` and `refused`
abbrev pub audala : List ℕ
audala = 97 ∷ 117 ∷ 100 ∷ 97 ∷ 108 ∷ 97 ∷ []

abbrev pub refused_word : List ℕ
refused_word = 114 ∷ 101 ∷ 102 ∷ 117 ∷ 115 ∷ 101 ∷ 100 ∷ []

unfoldable pub head : Program → List ℕ
head p = row audala (length p.params ∷ total length p.steps ∷ program_size p ∷ program_depth p ∷ [])

-- what is printed of an image
unfoldable pub listing : Checked → List ℕ
listing (accepted p) = head p ++ program_lines p
listing (refused n) = row refused_word (n ∷ [])

unfoldable pub listing_of : List ℕ → List ℕ
listing_of x = listing (checked x)
