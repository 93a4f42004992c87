-- A text with the roles of its tokens in their places, as a derivation gives them (02 §1), and the stream that it is read as.
use Rattle.std.specs.Prelude.{ℕ, List}
use Rattle.std.proofs.Math.Option.{Option}
use Rattle.syntax.specs.Syntax.{Program as Derivation}
use Rattle.syntax.specs.Bracketing.{FitsProgram}
use Rattle.meaning.specs.Meant.{then}
use Rattle.text_shape.specs.Roles.{roles}
use Rattle.resolve.specs.Standing.{Stood}
use Rattle.resolve.specs.Resolved.{resolved}
use Rattle.compose.specs.Composed.{composed}

pub record Roled (x cs : List ℕ) : Type 0 where
  pub derivation : Derivation
  pub fits : FitsProgram derivation
  pub stands : Stood x cs (roles derivation)

abbrev pub stream_of : List ℕ → List ℕ → Option (List ℕ)
stream_of x cs = then (resolved x cs) (λ ns. composed x cs ns)
