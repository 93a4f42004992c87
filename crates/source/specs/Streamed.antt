-- The stream of what a text is written as, for the rows that pin it.
use Rattle.std.specs.Prelude.{ℕ, List}
use Rattle.std.proofs.Math.Option.{Option, none, some}
use Rattle.types.specs.Stages.{Stage.went as written, Stage.stopped as refused}
use Rattle.program.specs.Encoding.{enc_program}
use Rattle.source.specs.Source.{Outcome}

unfoldable pub streamed : Outcome → Option (List ℕ)
streamed (written p) = some (enc_program p)
streamed (refused n) = none
