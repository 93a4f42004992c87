-- Operators on operands of a type that they take never are unfit, and their values are of the type that they give (01, 'Names, types, commands').
use Rattle.std.specs.Prelude.{◌<◌, ◌≡◌, refl, Bool, true, false, ltb, ℤ, pos, negsuc}
use Rattle.std.proofs.Math.Option.{Option, none, some}
use Rattle.types.specs.Limits.{nat_end}
use Rattle.types.specs.Types.{Ty, Ty.int, Ty.nat}
use Rattle.types.specs.Values.{Val, Val.int_val, Val.nat_val, IntRange, in_int}
use Rattle.program.specs.Tree.{Op, Op.op_eq, Op.op_ne, Op.op_le, Op.op_ge, Op.op_lt, Op.op_gt, Op.op_mul, Op.op_div, Op.op_rem, Op.op_add, Op.op_sub}
use Rattle.program.specs.Tree.{Op.op_and, Op.op_or}
use Rattle.commands.specs.Typing.{sort, Takes, Takes.any_equal, Takes.order_int, Takes.order_nat, Takes.arith_int, Takes.arith_nat, Takes.logic_bool}
use Rattle.operators.specs.Operators.{Alike, Alike.ints, Alike.nats, Alike.bools, Alike.labels}
use Rattle.operators.specs.Apply.{Answer.value, Answer.outside, int_answer, nat_answer, compute, answer, on_truths, apply}
use Rattle.operators.specs.Ranges.{Of, Of.of_int, Of.of_nat, Of.of_bool, Of.of_ref, Fits}
use Rattle.operators.proofs.Laws.TestLaws.{in_int_exact, in_nat_exact}
use Rattle.operators.proofs.Laws.ApplyLaws.{equality_said}

int_fits : (z : Option ℤ) → Fits int (int_answer z)
unfolding int_answer
int_fits none = tt
int_fits (some z) = go (in_int z) (in_int_exact z).0
  where
    go : (t : Bool) → (t ≡ true → IntRange z) → Fits int (elim t [ true ↦ value (int_val z) | false ↦ outside ])
    go true h = of_int (h refl)
    go false h = tt

nat_fits : (z : Option ℤ) → Fits nat (nat_answer z)
unfolding nat_answer
nat_fits none = tt
nat_fits (some (negsuc n)) = tt
nat_fits (some (pos n)) = go (ltb n nat_end) (in_nat_exact n).0
  where
    go : (t : Bool) → (t ≡ true → n < nat_end) → Fits nat (elim t [ true ↦ value (nat_val n) | false ↦ outside ])
    go true h = of_nat (h refl)
    go false h = tt

-- Values of one type are alike.
pub of_alike : {t : Ty} {x y : Val} → Of t x → Of t y → Alike x y
of_alike (of_int p) (of_int q) = ints
of_alike (of_nat p) (of_nat q) = nats
of_alike of_bool of_bool = bools
of_alike of_ref of_ref = labels

-- An operator on two values of a type that it takes gives 35 or a value of the type that it gives, within its range.
pub apply_fits : (o : Op) {t u : Ty} {x y : Val} → Takes (sort o) t u → Of t x → Of t y → Fits u (apply o x y)
unfolding apply answer compute on_truths
apply_fits op_eq {x = x} {y = y} any_equal p q = rw (equality_said (of_alike p q) _ refl).0 of_bool
apply_fits op_ne {x = x} {y = y} any_equal p q = rw (equality_said (of_alike p q) _ refl).1 of_bool
apply_fits op_le order_int (of_int p) (of_int q) = of_bool
apply_fits op_le order_nat (of_nat p) (of_nat q) = of_bool
apply_fits op_ge order_int (of_int p) (of_int q) = of_bool
apply_fits op_ge order_nat (of_nat p) (of_nat q) = of_bool
apply_fits op_lt order_int (of_int p) (of_int q) = of_bool
apply_fits op_lt order_nat (of_nat p) (of_nat q) = of_bool
apply_fits op_gt order_int (of_int p) (of_int q) = of_bool
apply_fits op_gt order_nat (of_nat p) (of_nat q) = of_bool
apply_fits op_mul arith_int (of_int p) (of_int q) = int_fits _
apply_fits op_mul arith_nat (of_nat p) (of_nat q) = nat_fits _
apply_fits op_div arith_int (of_int p) (of_int q) = int_fits _
apply_fits op_div arith_nat (of_nat p) (of_nat q) = nat_fits _
apply_fits op_rem arith_int (of_int p) (of_int q) = int_fits _
apply_fits op_rem arith_nat (of_nat p) (of_nat q) = nat_fits _
apply_fits op_add arith_int (of_int p) (of_int q) = int_fits _
apply_fits op_add arith_nat (of_nat p) (of_nat q) = nat_fits _
apply_fits op_sub arith_int (of_int p) (of_int q) = int_fits _
apply_fits op_sub arith_nat (of_nat p) (of_nat q) = nat_fits _
apply_fits op_and logic_bool of_bool of_bool = of_bool
apply_fits op_or logic_bool of_bool of_bool = of_bool
