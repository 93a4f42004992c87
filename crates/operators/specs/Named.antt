-- The operators as the code names them.
use Rattle.program.specs.Tree.{Op, Op.op_eq, Op.op_ne, Op.op_le, Op.op_ge, Op.op_lt, Op.op_gt, Op.op_mul, Op.op_div, Op.op_rem, Op.op_add, Op.op_sub}
use Rattle.program.specs.Tree.{Op.op_and, Op.op_or}
use Rattle.operators.specs.declared.Operator.{Operator}
use Rattle.operators.specs.declared.Operator.TheVariants.{Eq, Ne, Le, Ge, Lt, Gt, Mul, Div, Rem, Add, Sub, And, Or}

-- the operator that one of the code's stands for
unfoldable pub meant : Operator → Op
meant Eq = op_eq
meant Ne = op_ne
meant Le = op_le
meant Ge = op_ge
meant Lt = op_lt
meant Gt = op_gt
meant Mul = op_mul
meant Div = op_div
meant Rem = op_rem
meant Add = op_add
meant Sub = op_sub
meant And = op_and
meant Or = op_or
