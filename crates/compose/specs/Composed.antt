-- The whole stream of a text (02 §1): the types of parameters in front of what is written of its steps and schedule, or nothing where counts or bytes are more
-- than a stream holds (17).
use Rattle.std.specs.Prelude.{ℕ, ◌&&◌, List, ◌++◌, length, leb}
use Rattle.std.proofs.Math.Option.{Option, some}
use Rattle.meaning.specs.Holds.{max_stream}
use Rattle.meaning.specs.Meant.{provided}
use Rattle.resolve.specs.Named.{names_at}
use Rattle.resolve.specs.Tables.{places, offsets}
use Rattle.resolve.specs.Checks.{types_at}
use Rattle.compose.specs.Writing.{Writing, Writing.writing, counted, start}
use Rattle.compose.specs.Fits.{writes_at}
use Rattle.compose.specs.Header.{header}
use Rattle.text_shape.specs.RoleNames.{new_struct_role, new_par_role, first_type_role, last_par_type_role}

unfoldable pub of_writing : List ℕ → Writing → Option (List ℕ)
unfolding provided
of_writing head (writing s w n l f) = provided (f && leb (length (head ++ s)) max_stream) (some (head ++ s))

-- by the offsets of structs' parameters, the bytes of their types and the numbers of names, the last one first; the count of the first struct's steps still
-- waits where its steps are written
unfoldable pub composed_by : List ℕ → List ℕ → List ℕ → List ℕ → List ℕ → Option (List ℕ)
unfolding of_writing counted writes_at
composed_by offsets types text roles numbers = of_writing (header offsets types) (counted (writes_at text 0 roles (start numbers)))

-- the bytes of the types of a text's parameters
abbrev pub type_bytes : List ℕ → List ℕ → List ℕ
type_bytes text roles = types_at text roles (names_at text (places new_struct_role new_struct_role roles)) (places first_type_role last_par_type_role roles)

unfoldable pub composed : List ℕ → List ℕ → List ℕ → Option (List ℕ)
unfolding composed_by
composed text roles numbers = composed_by (offsets new_par_role roles) (type_bytes text roles) text roles numbers
