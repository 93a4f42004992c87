-- Rows that pin what no law does: the operators at the edges of their types, division by the signs of its operands (02, 'Retarders
-- below zero'), the ends of the ranges, zero divisors, order across signs (01, 'Table and turns', number 35).
use Rattle.std.specs.Prelude.{ℕ, Bool, true, false, List, [], ◌∷◌, T, pos, neg_ℤ}
use Rattle.types.specs.Values.{Val, Val.int_val, Val.nat_val, Val.bool_val, Val.label}
use Rattle.program.specs.Tree.{Op, Op.op_eq, Op.op_ne, Op.op_le, Op.op_ge, Op.op_lt, Op.op_gt, Op.op_mul, Op.op_div, Op.op_rem, Op.op_add, Op.op_sub}
use Rattle.program.specs.Tree.{Op.op_and, Op.op_or}
use Rattle.operators.specs.Apply.{Answer, Answer.value, Answer.outside, Answer.unfit, same_val}
use Rattle.operators.specs.Apply.{apply}
use Rattle.operators.specs.Unfold.{applying}

-- an operator, its operands, and what it must answer
pub data Row : Type 0 where
  row : Op → Val → Val → Answer → Row

abbrev plus : ℕ → Val
plus n = int_val (pos n)

abbrev minus : ℕ → Val
minus n = int_val (neg_ℤ (pos n))

unfoldable pub same_answer : Answer → Answer → Bool
same_answer (value x) (value y) = same_val x y
same_answer (value x) outside = false
same_answer (value x) unfit = false
same_answer outside (value y) = false
same_answer outside outside = true
same_answer outside unfit = false
same_answer unfit (value y) = false
same_answer unfit outside = false
same_answer unfit unfit = true

unfoldable pub holds : Row → Bool
holds (row o x y a) = same_answer (apply o x y) a

unfoldable pub all : List Row → Bool
all [] = true
all (r ∷ rs) = elim (holds r) [ true ↦ all rs | false ↦ false ]

unfoldable pub rows : List Row
rows =
    -- / rounds toward minus infinity, and % takes the divisor's sign
    row op_div (plus 7) (plus 2) (value (plus 3))
    ∷ row op_div (minus 7) (plus 2) (value (minus 4))
    ∷ row op_div (plus 7) (minus 2) (value (minus 4))
    ∷ row op_div (minus 7) (minus 2) (value (plus 3))
    ∷ row op_rem (plus 7) (plus 2) (value (plus 1))
    ∷ row op_rem (minus 7) (plus 2) (value (plus 1))
    ∷ row op_rem (plus 7) (minus 2) (value (minus 1))
    ∷ row op_rem (minus 7) (minus 2) (value (minus 1))
    ∷ row op_div (minus 1) (plus 2147483647) (value (minus 1))
    ∷ row op_rem (minus 1) (plus 2147483647) (value (plus 2147483646))
    ∷ row op_rem (minus 8) (plus 2) (value (plus 0))
    ∷ row op_div (nat_val 7) (nat_val 2) (value (nat_val 3))
    ∷ row op_rem (nat_val 7) (nat_val 2) (value (nat_val 1))
    -- the least Int by -1, and zero divisors
    ∷ row op_div (minus 2147483648) (minus 1) outside
    ∷ row op_rem (minus 2147483648) (minus 1) (value (plus 0))
    ∷ row op_div (plus 2147483647) (minus 2147483648) (value (minus 1))
    ∷ row op_rem (plus 2147483647) (minus 2147483648) (value (minus 1))
    ∷ row op_div (plus 5) (plus 0) outside
    ∷ row op_rem (plus 5) (plus 0) outside
    ∷ row op_div (plus 0) (plus 0) outside
    ∷ row op_div (nat_val 5) (nat_val 0) outside
    ∷ row op_rem (nat_val 5) (nat_val 0) outside
    ∷ row op_rem (nat_val 0) (nat_val 0) outside
    -- the ends of Int
    ∷ row op_add (plus 2147483647) (plus 1) outside
    ∷ row op_add (plus 2147483646) (plus 1) (value (plus 2147483647))
    ∷ row op_sub (minus 2147483648) (plus 1) outside
    ∷ row op_sub (minus 2147483647) (plus 1) (value (minus 2147483648))
    ∷ row op_mul (plus 65536) (plus 32768) outside
    ∷ row op_mul (minus 65536) (plus 32768) (value (minus 2147483648))
    -- the ends of Nat
    ∷ row op_sub (nat_val 0) (nat_val 1) outside
    ∷ row op_sub (nat_val 1) (nat_val 1) (value (nat_val 0))
    ∷ row op_add (nat_val 4294967295) (nat_val 1) outside
    ∷ row op_add (nat_val 4294967294) (nat_val 1) (value (nat_val 4294967295))
    ∷ row op_mul (nat_val 65536) (nat_val 65536) outside
    ∷ row op_mul (nat_val 65535) (nat_val 65537) (value (nat_val 4294967295))
    -- order, across signs too
    ∷ row op_lt (minus 1) (plus 0) (value (bool_val true))
    ∷ row op_lt (plus 0) (minus 1) (value (bool_val false))
    ∷ row op_lt (minus 2) (minus 1) (value (bool_val true))
    ∷ row op_lt (plus 3) (plus 3) (value (bool_val false))
    ∷ row op_lt (nat_val 2147483647) (nat_val 2147483648) (value (bool_val true))
    ∷ row op_le (minus 1) (plus 0) (value (bool_val true))
    ∷ row op_le (plus 3) (plus 3) (value (bool_val true))
    ∷ row op_le (minus 1) (minus 2) (value (bool_val false))
    ∷ row op_le (nat_val 4) (nat_val 3) (value (bool_val false))
    ∷ row op_gt (plus 0) (minus 1) (value (bool_val true))
    ∷ row op_gt (minus 3) (minus 3) (value (bool_val false))
    ∷ row op_gt (nat_val 4) (nat_val 3) (value (bool_val true))
    ∷ row op_ge (minus 3) (minus 3) (value (bool_val true))
    ∷ row op_ge (minus 1) (plus 0) (value (bool_val false))
    ∷ row op_ge (nat_val 3) (nat_val 4) (value (bool_val false))
    -- equality of each type
    ∷ row op_eq (minus 1) (minus 1) (value (bool_val true))
    ∷ row op_eq (plus 1) (minus 1) (value (bool_val false))
    ∷ row op_eq (nat_val 3) (nat_val 3) (value (bool_val true))
    ∷ row op_eq (bool_val false) (bool_val false) (value (bool_val true))
    ∷ row op_eq (bool_val true) (bool_val false) (value (bool_val false))
    ∷ row op_eq (label 3) (label 3) (value (bool_val true))
    ∷ row op_eq (label 3) (label 4) (value (bool_val false))
    ∷ row op_ne (label 3) (label 4) (value (bool_val true))
    ∷ row op_ne (label 3) (label 3) (value (bool_val false))
    ∷ row op_ne (plus 0) (minus 1) (value (bool_val true))
    -- and, or at all four
    ∷ row op_and (bool_val true) (bool_val true) (value (bool_val true))
    ∷ row op_and (bool_val true) (bool_val false) (value (bool_val false))
    ∷ row op_and (bool_val false) (bool_val true) (value (bool_val false))
    ∷ row op_and (bool_val false) (bool_val false) (value (bool_val false))
    ∷ row op_or (bool_val true) (bool_val true) (value (bool_val true))
    ∷ row op_or (bool_val true) (bool_val false) (value (bool_val true))
    ∷ row op_or (bool_val false) (bool_val true) (value (bool_val true))
    ∷ row op_or (bool_val false) (bool_val false) (value (bool_val false))
    -- what no rule takes
    ∷ row op_add (plus 1) (nat_val 1) unfit
    ∷ row op_eq (label 0) (plus 0) unfit
    ∷ row op_and (plus 1) (plus 1) unfit
    ∷ row op_add (bool_val true) (bool_val true) unfit
    ∷ row op_lt (label 0) (label 1) unfit
    ∷ []

-- Every row holds, by computation.
pub rows_hold : T (all rows)
unfolding all rows holds same_answer applying
rows_hold = tt
