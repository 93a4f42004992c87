-- Values within the range of a type, and answers that give one (01, 'Program stream' and number 35).
-- Of a reference only that it is a label: which instances exist is the table's to say.
use Rattle.std.specs.Prelude.{ℕ, ◌<◌, Bool, ℤ}
use Rattle.types.specs.Limits.{nat_end}
use Rattle.types.specs.Types.{Ty, Ty.int, Ty.nat, Ty.bool, Ty.ref}
use Rattle.types.specs.Values.{Val, Val.int_val, Val.nat_val, Val.bool_val, Val.label, IntRange}
use Rattle.operators.specs.Apply.{Answer, Answer.value, Answer.outside, Answer.unfit}

-- a value of a type, within its range
pub data Of : Ty → Val → Type 0 where
  of_int : {z : ℤ} → IntRange z → Of int (int_val z)
  of_nat : {n : ℕ} → n < nat_end → Of nat (nat_val n)
  of_bool : {t : Bool} → Of bool (bool_val t)
  of_ref : {k l : ℕ} → Of (ref k) (label l)

-- number 35, or a value of the type
abbrev pub Fits : Ty → Answer → Type 0
Fits u (value z) = Of u z
Fits u outside = Unit {0}
Fits u unfit = ⊥
