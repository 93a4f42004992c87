-- The operators by their bytes (01, 'Program stream'), and the machine's operations on truths.
use Rattle.std.specs.Prelude.{ℕ, zero, suc, ◌-◌, ◌<◌, ◌≤◌, ◌≡◌, refl, Bool, true, false, ◌&&◌, ◌||◌, get_or}
use Rattle.std.proofs.Common.{arith, ne_eqb}
use Rattle.std.specs.Bool.{beq}
use Rattle.types.specs.Types.{Ty.ref, struct_code, type_of}
use Rattle.types.specs.Values.{Val.bool_val}
use Rattle.program.specs.Tree.{Op, Op.op_eq, Op.op_ne, Op.op_le, Op.op_ge, Op.op_lt, Op.op_gt, Op.op_mul, Op.op_div, Op.op_rem, Op.op_add, Op.op_sub}
use Rattle.program.specs.Tree.{Op.op_and, Op.op_or}
use Rattle.program.specs.Encoding.{op_code}
use Rattle.operators.specs.Apply.{Answer.value, same_bool, on_truths}
use Rattle.operators.specs.Words.{operators, first_op, op_of, answered}

-- An operator's byte names it.
pub op_of_code : (o : Op) → op_of (op_code o) ≡ o
unfolding op_of op_code
op_of_code op_eq = refl
op_of_code op_ne = refl
op_of_code op_le = refl
op_of_code op_ge = refl
op_of_code op_lt = refl
op_of_code op_gt = refl
op_of_code op_mul = refl
op_of_code op_div = refl
op_of_code op_rem = refl
op_of_code op_add = refl
op_of_code op_sub = refl
op_of_code op_and = refl
op_of_code op_or = refl

-- Up to 32 a byte names =.
pub op_first : {o : ℕ} → o ≤ first_op → op_of o ≡ op_eq
unfolding op_of
op_first {o} h = let e : o - 32 ≡ 0 = omega arith in rw e

-- Above 43 it names or.
pub op_last : {o : ℕ} → 43 < o → op_of o ≡ op_or
unfolding op_of
op_last {o} h =
    let e : o - 32 ≡ suc (suc (suc (suc (suc (suc (suc (suc (suc (suc (suc (suc (o - 44)))))))))))) = omega arith in
    rw e (go (o - 44))
  where
    go : (i : ℕ) → get_or operators (suc (suc (suc (suc (suc (suc (suc (suc (suc (suc (suc (suc i)))))))))))) op_or ≡ op_or
    go zero = refl
    go (suc i) = refl

-- The machine's operations on truths are the operators'.
pub truths_equal : (s t : Bool) → beq s t ≡ same_bool s t
unfolding same_bool
truths_equal true true = refl
truths_equal true false = refl
truths_equal false true = refl
truths_equal false false = refl

pub truths_and : (s t : Bool) → answered (value (bool_val (s && t))) ≡ answered (on_truths op_and s t)
unfolding on_truths
truths_and true t = refl
truths_and false t = refl

pub truths_or : (s t : Bool) → answered (value (bool_val (s || t))) ≡ answered (on_truths op_or s t)
unfolding on_truths
truths_or true t = refl
truths_or false t = refl

-- A byte that names none of Int, Nat and Bool stands for a struct.
pub type_struct : {b : ℕ} → (b ≡ 0 → ⊥) → (b ≡ 1 → ⊥) → (b ≡ 2 → ⊥) → type_of b ≡ ref (b - struct_code)
unfolding type_of
type_struct {b} p q r = rw (ne_eqb b 0 p, ne_eqb b 1 q, ne_eqb b 2 r, type_of)
