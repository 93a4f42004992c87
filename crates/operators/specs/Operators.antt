-- The operators on values (000, rule ComOp; 01, 'Names, types, commands', 'Table and turns' and number 35), as relations.
-- 000 computes on unbounded numbers; 01 stops where the divisor is zero or the result lies outside its type.
use Rattle.std.specs.Prelude.{ℕ, suc, ◌<◌, ◌≡◌, Bool, true, false, ℤ, pos, negsuc, neg_ℤ, ◌+ℤ◌, ◌-ℤ◌, ◌*ℤ◌}
use Rattle.std.specs.Int.Signed.{lt_z, le_z, shr_z}
use Rattle.types.specs.Limits.{nat_end}
use Rattle.types.specs.Values.{Val, Val.int_val, Val.nat_val, Val.bool_val, Val.label, IntRange}
use Rattle.program.specs.Tree.{Op, Op.op_eq, Op.op_ne, Op.op_le, Op.op_ge, Op.op_lt, Op.op_gt, Op.op_mul, Op.op_div, Op.op_rem, Op.op_add, Op.op_sub}
use Rattle.program.specs.Tree.{Op.op_and, Op.op_or}

-- quotient and remainder: / rounds toward minus infinity (02, 'Retarders below zero'), a % b is a − b × quotient. The library's shift
-- rounds down by a divisor above zero; by one below, both numbers are negated.
unfoldable pub quotient : ℤ → ℤ → ℤ
quotient a (pos n) = shr_z a n
quotient a (negsuc n) = shr_z (neg_ℤ a) (suc n)

unfoldable pub remainder : ℤ → ℤ → ℤ
remainder a b = a -ℤ b *ℤ quotient a b

-- z is x o y in the whole numbers
pub data Computes : Op → ℤ → ℤ → ℤ → Type 0 where
  times : {x y z : ℤ} → z ≡ x *ℤ y → Computes op_mul x y z
  divided : {x y z : ℤ} → (y ≡ pos 0 → ⊥) → z ≡ quotient x y → Computes op_div x y z
  modulo : {x y z : ℤ} → (y ≡ pos 0 → ⊥) → z ≡ remainder x y → Computes op_rem x y z
  plus : {x y z : ℤ} → z ≡ x +ℤ y → Computes op_add x y z
  minus : {x y z : ℤ} → z ≡ x -ℤ y → Computes op_sub x y z

-- whether x o y
pub data Compares : Op → ℤ → ℤ → Bool → Type 0 where
  at_most : {x y : ℤ} {t : Bool} → t ≡ le_z x y → Compares op_le x y t
  at_least : {x y : ℤ} {t : Bool} → t ≡ le_z y x → Compares op_ge x y t
  below : {x y : ℤ} {t : Bool} → t ≡ lt_z x y → Compares op_lt x y t
  above : {x y : ℤ} {t : Bool} → t ≡ lt_z y x → Compares op_gt x y t

-- values of one kind, which = and ≠ compare
pub data Alike : Val → Val → Type 0 where
  ints : {x y : ℤ} → Alike (int_val x) (int_val y)
  nats : {m n : ℕ} → Alike (nat_val m) (nat_val n)
  bools : {s t : Bool} → Alike (bool_val s) (bool_val t)
  labels : {l m : ℕ} → Alike (label l) (label m)

-- c is a o b, within its type
pub data Applies : Op → Val → Val → Val → Type 0 where
  int_result : {o : Op} {x y z : ℤ} → Computes o x y z → IntRange z → Applies o (int_val x) (int_val y) (int_val z)
  nat_result : {o : Op} {m n k : ℕ} → Computes o (pos m) (pos n) (pos k) → k < nat_end → Applies o (nat_val m) (nat_val n) (nat_val k)
  int_order : {o : Op} {x y : ℤ} {t : Bool} → Compares o x y t → Applies o (int_val x) (int_val y) (bool_val t)
  nat_order : {o : Op} {m n : ℕ} {t : Bool} → Compares o (pos m) (pos n) t → Applies o (nat_val m) (nat_val n) (bool_val t)
  equal : {a b : Val} → Alike a b → a ≡ b → Applies op_eq a b (bool_val true)
  unequal : {a b : Val} → Alike a b → (a ≡ b → ⊥) → Applies op_eq a b (bool_val false)
  differs : {a b : Val} → Alike a b → (a ≡ b → ⊥) → Applies op_ne a b (bool_val true)
  differs_not : {a b : Val} → Alike a b → a ≡ b → Applies op_ne a b (bool_val false)
  both : {s : Bool} → Applies op_and (bool_val true) (bool_val s) (bool_val s)
  not_both : {s : Bool} → Applies op_and (bool_val false) (bool_val s) (bool_val false)
  either : {s : Bool} → Applies op_or (bool_val true) (bool_val s) (bool_val true)
  or_second : {s : Bool} → Applies op_or (bool_val false) (bool_val s) (bool_val s)

-- / and %
pub data Divides : Op → Type 0 where
  by_div : Divides op_div
  by_rem : Divides op_rem

-- number 35: the divisor is zero, or the result lies outside its type
pub data Exceeds : Op → Val → Val → Type 0 where
  int_by_zero : {o : Op} {x : ℤ} → Divides o → Exceeds o (int_val x) (int_val (pos 0))
  nat_by_zero : {o : Op} {m : ℕ} → Divides o → Exceeds o (nat_val m) (nat_val 0)
  int_outside : {o : Op} {x y z : ℤ} → Computes o x y z → (IntRange z → ⊥) → Exceeds o (int_val x) (int_val y)
  nat_below : {o : Op} {m n k : ℕ} → Computes o (pos m) (pos n) (negsuc k) → Exceeds o (nat_val m) (nat_val n)
  nat_above : {o : Op} {m n k : ℕ} → Computes o (pos m) (pos n) (pos k) → (k < nat_end → ⊥) → Exceeds o (nat_val m) (nat_val n)
