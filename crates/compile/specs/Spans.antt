-- Where the commands of each step stand, as it is noted off the step directory (01, 'Table and turns'; `memory/specs/Plan.antt` says what the
-- numbers mean).
use Rattle.std.specs.Prelude.{ℕ, zero, suc, ◌+◌, ◌*◌, ◌≤◌, List, [], ◌∷◌, set}
use Rattle.types.specs.Limits.{max_structs, step_names, max_commands}
use Rattle.directory.specs.declared.Row.{Row}
use Rattle.directory.proofs.DirectoryLaws.{RowInRange}
use Rattle.memory.specs.Plan.{span_of}

-- two numbers for each name of each struct
abbrev pub span_places : ℕ
span_places = 2 * (step_names * max_structs)

-- a row of a step whose commands stand in a list that has room for a program's: so its two numbers take two bytes each
abbrev pub RowHeld : Row → Type 0
RowHeld r = (RowInRange r) × (r.start + r.size ≤ max_commands)

-- the two numbers from i on are a and e
unfoldable pub paired : ℕ → ℕ → ℕ → List ℕ → List ℕ
paired i a e l = set (set l i a) (suc i) e

-- n pairs from i on say that there is no step: the first number is the greater
unfoldable pub cleared : ℕ → ℕ → List ℕ → List ℕ
cleared zero i l = l
cleared (suc n) i l = cleared n (i + 2) (paired i 1 0 l)

-- the steps of rows; of two with one struct and name the first is kept, as in `find_row`
unfoldable pub noted : List Row → List ℕ → List ℕ
noted [] l = l
noted (r ∷ rs) l = paired (span_of r.structure r.name) r.start (r.start + r.size) (noted rs l)

-- those of n structs, each of whose other steps is not there
unfoldable pub spans_of : List Row → ℕ → List ℕ → List ℕ
spans_of rs n l = noted rs (cleared (step_names * n) 0 l)
