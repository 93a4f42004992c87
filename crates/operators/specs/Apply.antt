-- The operators as a function (01, 'Program stream', 'Table and turns'; 35 of 'Numbers from the state'): a value, number 35, or no
-- operands that the operator takes.
use Rattle.std.specs.Prelude.{ℕ, zero, suc, Bool, true, false, not, ltb, eqb, ℤ, pos, negsuc, ◌+ℤ◌, ◌-ℤ◌, ◌*ℤ◌}
use Rattle.std.proofs.Math.Option.{Option, none, some}
use Rattle.std.specs.Int.Signed.{lt_z, le_z}
use Rattle.types.specs.Limits.{nat_end}
use Rattle.types.specs.Values.{Val, Val.int_val, Val.nat_val, Val.bool_val, Val.label, in_int}
use Rattle.program.specs.Tree.{Op, Op.op_eq, Op.op_ne, Op.op_le, Op.op_ge, Op.op_lt, Op.op_gt, Op.op_mul, Op.op_div, Op.op_rem, Op.op_add, Op.op_sub}
use Rattle.program.specs.Tree.{Op.op_and, Op.op_or}
use Rattle.operators.specs.Operators.{quotient, remainder}

pub data Answer : Type 0 where
  value : Val → Answer
  -- number 35
  outside : Answer
  -- no rule takes these operands
  unfit : Answer

unfoldable pub same_int : ℤ → ℤ → Bool
same_int (pos m) (pos n) = eqb m n
same_int (pos m) (negsuc n) = false
same_int (negsuc m) (pos n) = false
same_int (negsuc m) (negsuc n) = eqb m n

unfoldable pub same_bool : Bool → Bool → Bool
same_bool true t = t
same_bool false t = not t

-- whether two values are one
unfoldable pub same_val : Val → Val → Bool
same_val (int_val x) (int_val y) = same_int x y
same_val (int_val x) (nat_val n) = false
same_val (int_val x) (bool_val t) = false
same_val (int_val x) (label l) = false
same_val (nat_val m) (int_val y) = false
same_val (nat_val m) (nat_val n) = eqb m n
same_val (nat_val m) (bool_val t) = false
same_val (nat_val m) (label l) = false
same_val (bool_val s) (int_val y) = false
same_val (bool_val s) (nat_val n) = false
same_val (bool_val s) (bool_val t) = same_bool s t
same_val (bool_val s) (label l) = false
same_val (label l) (int_val y) = false
same_val (label l) (nat_val n) = false
same_val (label l) (bool_val t) = false
same_val (label l) (label m) = eqb l m

-- a result of Int, a result of Nat; none where there is no quotient
unfoldable pub int_answer : Option ℤ → Answer
int_answer none = outside
int_answer (some z) = elim (in_int z) [ true ↦ value (int_val z) | false ↦ outside ]

unfoldable pub nat_answer : Option ℤ → Answer
nat_answer none = outside
nat_answer (some (negsuc n)) = outside
nat_answer (some (pos n)) = elim (ltb n nat_end) [ true ↦ value (nat_val n) | false ↦ outside ]

unfoldable pub by_nonzero : ℤ → ℤ → Option ℤ
by_nonzero (pos zero) z = none
by_nonzero (pos (suc n)) z = some z
by_nonzero (negsuc n) z = some z

-- what an operator does: a number of the operands' type, or a truth
pub data Work : Type 0 where
  number : Option ℤ → Work
  truth : Bool → Work
  no_work : Work

-- on numbers
unfoldable pub compute : Op → ℤ → ℤ → Work
compute op_eq x y = truth (same_int x y)
compute op_ne x y = truth (not (same_int x y))
compute op_le x y = truth (le_z x y)
compute op_ge x y = truth (le_z y x)
compute op_lt x y = truth (lt_z x y)
compute op_gt x y = truth (lt_z y x)
compute op_mul x y = number (some (x *ℤ y))
compute op_div x y = number (by_nonzero y (quotient x y))
compute op_rem x y = number (by_nonzero y (remainder x y))
compute op_add x y = number (some (x +ℤ y))
compute op_sub x y = number (some (x -ℤ y))
compute op_and x y = no_work
compute op_or x y = no_work

unfoldable pub answer : (Option ℤ → Answer) → Work → Answer
answer f (number z) = f z
answer f (truth t) = value (bool_val t)
answer f no_work = unfit

-- on labels and on truths, = and ≠; on truths, and, or: both sides are evaluated
unfoldable pub on_truths : Op → Bool → Bool → Answer
on_truths op_eq s t = value (bool_val (same_bool s t))
on_truths op_ne s t = value (bool_val (not (same_bool s t)))
on_truths op_le s t = unfit
on_truths op_ge s t = unfit
on_truths op_lt s t = unfit
on_truths op_gt s t = unfit
on_truths op_mul s t = unfit
on_truths op_div s t = unfit
on_truths op_rem s t = unfit
on_truths op_add s t = unfit
on_truths op_sub s t = unfit
on_truths op_and s t = value (bool_val (elim s [ true ↦ t | false ↦ false ]))
on_truths op_or s t = value (bool_val (elim s [ true ↦ true | false ↦ t ]))

unfoldable pub on_labels : Op → ℕ → ℕ → Answer
on_labels op_eq l m = value (bool_val (eqb l m))
on_labels op_ne l m = value (bool_val (not (eqb l m)))
on_labels op_le l m = unfit
on_labels op_ge l m = unfit
on_labels op_lt l m = unfit
on_labels op_gt l m = unfit
on_labels op_mul l m = unfit
on_labels op_div l m = unfit
on_labels op_rem l m = unfit
on_labels op_add l m = unfit
on_labels op_sub l m = unfit
on_labels op_and l m = unfit
on_labels op_or l m = unfit

unfoldable pub apply : Op → Val → Val → Answer
apply o (int_val x) (int_val y) = answer int_answer (compute o x y)
apply o (int_val x) (nat_val n) = unfit
apply o (int_val x) (bool_val t) = unfit
apply o (int_val x) (label l) = unfit
apply o (nat_val m) (int_val y) = unfit
apply o (nat_val m) (nat_val n) = answer nat_answer (compute o (pos m) (pos n))
apply o (nat_val m) (bool_val t) = unfit
apply o (nat_val m) (label l) = unfit
apply o (bool_val s) (int_val y) = unfit
apply o (bool_val s) (nat_val n) = unfit
apply o (bool_val s) (bool_val t) = on_truths o s t
apply o (bool_val s) (label l) = unfit
apply o (label l) (int_val y) = unfit
apply o (label l) (nat_val n) = unfit
apply o (label l) (bool_val t) = unfit
apply o (label l) (label m) = on_labels o l m
