-- How many bytes writing a stream needs at the most (01, 'Program stream'), by name.
use Rattle.std.specs.Prelude.{ℕ, ◌+◌, ◌*◌}
use Rattle.types.specs.Limits.{max_structs, max_params}
use Rattle.meaning.specs.Holds.{max_stream}

-- those that a role writes, but for operators that waited
abbrev pub margin : ℕ
margin = 6

-- those in front of what roles write: a count that still waits, the count of structs, per struct the count and the types of its parameters
abbrev pub front_most : ℕ
front_most = 2 + max_structs * (max_params + 1)

-- the output that a stream is written to from its end
abbrev pub output_size : ℕ
output_size = max_stream + front_most
