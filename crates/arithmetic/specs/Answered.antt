-- What the parts of the computation answer: a number or 35, a truth or nothing (01, 'Values', number 35).
use Rattle.std.specs.Prelude.{Bool, ℤ, Option, Some, None, Result, Ok, Err}
use Rattle.std.proofs.Math.Option as maybe
use Rattle.types.specs.Values.{Val.bool_val}
use Rattle.operators.specs.Apply.{Answer, Answer.value, Answer.unfit}
use Rattle.operators.specs.declared.OperatorError.{OperatorError}
use Rattle.operators.specs.declared.OperatorError.TheVariants.{Outside}

-- a number, or 35 where there is none
unfoldable pub found : maybe.Option ℤ → Result ℤ OperatorError
found maybe.none = Err Outside
found (maybe.some z) = Ok z

-- what is answered where an operator tells a truth or nothing
unfoldable pub telling : Option Bool → Answer
telling (Some t) = value (bool_val t)
telling None = unfit
