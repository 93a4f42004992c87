-- The stream of a text as it stands in memory: from a place of the output on, or not at all.
use Rattle.std.specs.Prelude.{List, ℕ, drop, Option, Some, None}
use Rattle.std.proofs.Math.Option.{Option as Stream, none, some}

unfoldable pub placed_in : List ℕ → Option ℕ → Stream (List ℕ)
placed_in out (Some p) = some (drop p out)
placed_in out None = none
