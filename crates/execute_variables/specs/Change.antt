-- The answer of a parameter's write (02, 'Stability entries by product'): each entry is multiplied by whether the cell's word stays.
use Rattle.std.specs.Prelude.{ℕ, eqb}
use Rattle.layout.specs.Layout.{operand}
use Rattle.execute_stack.specs.declared.Effect.{Effect}
use Rattle.execute_stack.specs.declared.Effect.TheVariants.{Wrote}

unfoldable pub change : ℕ → ℕ → Effect
change old c = Wrote (eqb (operand old) (operand c))
