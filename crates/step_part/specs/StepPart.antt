-- Where the commands of a step stand in the list, and that part of it (01, 'Names, types, commands'), as the step directory has it. A
-- refused image and a short list have the number that a check answers.
use Rattle.std.specs.Prelude.{ℕ, List, take, drop, Option as Maybe, Some, None}
use Rattle.std.proofs.Math.Option.{Option, none, some}
use Rattle.types.specs.Stages.{Stage.went as accepted, Stage.stopped as refused}
use Rattle.directory.specs.declared.Row.{Row}
use Rattle.directory.specs.Directory.{directory, find_row}
use Rattle.verdict.specs.Verdict.{Checked, checks}
use Rattle.step_part.specs.declared.Spot.{Spot}

-- no place, with a number
abbrev pub nowhere : ℕ → Spot
nowhere m = record { number = m; start = 0; len = 0 }

-- where the commands of a row stand, if there is one
abbrev pub spot_of : Option Row → Spot
spot_of none = nowhere 0
spot_of (some r) = record { number = 0; start = r.start; len = r.size }

-- as the search for it answers
abbrev pub spot_at : Maybe Row → Spot
spot_at None = nowhere 0
spot_at (Some r) = spot_of (some r)

unfoldable pub spot_by : Checked → ℕ → ℕ → Spot
spot_by (refused m) k n = nowhere m
spot_by (accepted p) k n = spot_of (find_row (directory p) k n)

-- image, list, struct and step name to the number of a check, and to where the step's commands begin and how many there are; no place where the image is
-- not accepted, the list is too short or the step is not there
unfoldable pub step_place : List ℕ → List ℕ → ℕ → ℕ → Spot
step_place x list k n = spot_by (checks x list) k n

-- what stands there
unfoldable pub step_part : List ℕ → List ℕ → ℕ → ℕ → List ℕ
step_part x list k n = take (step_place x list k n).len (drop (step_place x list k n).start list)
