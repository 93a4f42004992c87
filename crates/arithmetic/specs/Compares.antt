-- What a comparison answers: a truth, so that the type of the numbers does not matter (01, 'Values').
use Rattle.std.specs.Prelude.{ℕ, ◌≡◌, ℤ, Result}
use Rattle.std.proofs.Math.Option.{Option}
use Rattle.operators.specs.Apply.{Answer, answer, compute}
use Rattle.operators.specs.Words.{answered, op_of}
use Rattle.operators.specs.declared.OperatorError.{OperatorError}

-- of an operator's byte, two numbers and what is answered: the operator's, however numbers of the type are answered
abbrev pub Compares : ℕ → ℤ → ℤ → Result ℕ OperatorError → Type 0
Compares o x y r = (f : Option ℤ → Answer) → r ≡ answered (answer f (compute (op_of o) x y))
