-- The operators on words as the engine holds them: a byte names the operator, a byte the operands' type (01, 'Program stream').
use Rattle.std.specs.Prelude.{ℕ, ◌-◌, ◌<◌, ◌≡◌, List, [], ◌∷◌, get_or, ℤ, Result, Ok, Err}
use Rattle.std.specs.Int.Signed.{mag}
use Rattle.types.specs.Limits.{int_half}
use Rattle.types.specs.Types.{type_of}
use Rattle.types.specs.Values.{word, word_int, value_of}
use Rattle.program.specs.Tree.{Op, Op.op_eq, Op.op_ne, Op.op_le, Op.op_ge, Op.op_lt, Op.op_gt, Op.op_mul, Op.op_div, Op.op_rem, Op.op_add, Op.op_sub}
use Rattle.program.specs.Tree.{Op.op_and, Op.op_or}
use Rattle.operators.specs.Apply.{Answer, Answer.value, Answer.outside, Answer.unfit, apply}
use Rattle.operators.specs.declared.OperatorError.{OperatorError}
use Rattle.operators.specs.declared.OperatorError.TheVariants.{Outside, Unfit}

-- the operators in the order of their bytes, and the first byte
abbrev pub operators : List Op
operators =
    op_eq ∷ op_ne ∷ op_le ∷ op_ge ∷ op_lt ∷ op_gt ∷ op_mul ∷ op_div ∷ op_rem ∷ op_add ∷ op_sub ∷ op_and ∷ op_or ∷ []

abbrev pub first_op : ℕ
first_op = 32

-- the operator that a byte names, where it names one
unfoldable pub op_of : ℕ → Op
op_of b = get_or operators (b - first_op) op_or

-- an answer as words hold it
unfoldable pub answered : Answer → Result ℕ OperatorError
answered (value v) = Ok (word v)
answered outside = Err Outside
answered unfit = Err Unfit

-- the operator o on two words of type t
unfoldable pub apply_word : ℕ → ℕ → ℕ → ℕ → Result ℕ OperatorError
apply_word o t a b = answered (apply (op_of o) (value_of (type_of t) a) (value_of (type_of t) b))

-- a word and the Int that it is
pub record IntOf (a : ℕ) (x : ℤ) : Type 0 where
  pub is : x ≡ word_int a
  pub small : mag x < int_half
