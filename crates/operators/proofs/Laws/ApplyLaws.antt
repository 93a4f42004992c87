-- The operators' function says what their relations say, and only that (01, 'Names, types, commands', 'Table and turns', number 35).
use Rattle.std.specs.Prelude.{ℕ, zero, suc, ◌<◌, ◌≡◌, refl, ◌↔◌, Bool, true, false, not, ltb, ℤ, pos, negsuc}
use Rattle.std.proofs.Common.{arith, ap, subst, lt-ltb}
use Rattle.std.proofs.Math.Option.{none, some}
use Rattle.types.specs.Limits.{nat_end}
use Rattle.types.specs.Values.{Val, Val.int_val, Val.nat_val, Val.bool_val, Val.label, IntRange, in_int}
use Rattle.program.specs.Tree.{Op, Op.op_eq, Op.op_ne, Op.op_le, Op.op_ge, Op.op_lt, Op.op_gt, Op.op_mul, Op.op_div, Op.op_rem, Op.op_add, Op.op_sub}
use Rattle.program.specs.Tree.{Op.op_and, Op.op_or}
use Rattle.operators.specs.Operators.{quotient, remainder, Computes, Computes.times, Computes.divided, Computes.modulo, Computes.plus}
use Rattle.operators.specs.Operators.{Computes.minus, Compares, Compares.at_most, Compares.at_least, Compares.below, Compares.above, Alike}
use Rattle.operators.specs.Operators.{Alike.ints, Alike.nats, Alike.bools, Alike.labels, Applies, Applies.int_result, Applies.nat_result}
use Rattle.operators.specs.Operators.{Applies.int_order, Applies.nat_order, Applies.equal, Applies.unequal, Applies.differs}
use Rattle.operators.specs.Operators.{Applies.differs_not, Applies.both, Applies.not_both, Applies.either, Applies.or_second, Divides}
use Rattle.operators.specs.Operators.{Divides.by_div, Divides.by_rem, Exceeds, Exceeds.int_by_zero, Exceeds.nat_by_zero, Exceeds.int_outside}
use Rattle.operators.specs.Operators.{Exceeds.nat_below, Exceeds.nat_above}
use Rattle.operators.specs.Apply.{Answer, Answer.value, Answer.outside, Answer.unfit, same_int, same_val, int_answer, nat_answer, by_nonzero}
use Rattle.operators.specs.Apply.{Work, Work.number, Work.truth, Work.no_work, compute, answer, on_truths, on_labels, apply}
use Rattle.operators.proofs.Laws.TestLaws.{same_val_exact, same_val_false, in_int_exact, in_nat_exact, fails}

-- what the function says holds ---------------------------------------------------

Says : Op → Val → Val → Answer → Type 0
Says o x y (value z) = Applies o x y z
Says o x y outside = Exceeds o x y
Says o x y unfit = Unit {0}

equal_says : (a b : Val) → Alike a b → Applies op_eq a b (bool_val (same_val a b))
equal_says a b l = go (same_val a b) (same_val_exact a b) (same_val_false a b)
  where
    go : (t : Bool) → (t ≡ true) ↔ (a ≡ b) → (t ≡ false) ↔ (a ≡ b → ⊥) → Applies op_eq a b (bool_val t)
    go true h k = equal l (h.0 refl)
    go false h k = unequal l (k.0 refl)

differ_says : (a b : Val) → Alike a b → Applies op_ne a b (bool_val (not (same_val a b)))
differ_says a b l = go (same_val a b) (same_val_exact a b) (same_val_false a b)
  where
    go : (t : Bool) → (t ≡ true) ↔ (a ≡ b) → (t ≡ false) ↔ (a ≡ b → ⊥) → Applies op_ne a b (bool_val (not t))
    go true h k = differs_not l (h.0 refl)
    go false h k = differs l (k.0 refl)

-- on numbers, before the range is asked
data Tells : Op → ℤ → ℤ → Work → Type 0 where
  computed : {o : Op} {x y z : ℤ} → Computes o x y z → Tells o x y (number (some z))
  by_zero : {o : Op} {x : ℤ} → Divides o → Tells o x (pos 0) (number none)
  compared : {o : Op} {x y : ℤ} {t : Bool} → Compares o x y t → Tells o x y (truth t)
  equated : {x y : ℤ} → Tells op_eq x y (truth (same_int x y))
  differed : {x y : ℤ} → Tells op_ne x y (truth (not (same_int x y)))
  nothing : {o : Op} {x y : ℤ} → Tells o x y no_work

not_zero : (n : ℕ) → pos (suc n) ≡ pos 0 → ⊥
not_zero n e = let z : suc n ≡ 0 = cc in omega arith

not_negative : (n : ℕ) → negsuc n ≡ pos 0 → ⊥
not_negative n e = let z : ◌≡◌ {A = ℕ} 0 1 = cc in omega arith

tells : (o : Op) (x y : ℤ) → Tells o x y (compute o x y)
unfolding compute by_nonzero
tells op_eq x y = equated
tells op_ne x y = differed
tells op_le x y = compared (at_most refl)
tells op_ge x y = compared (at_least refl)
tells op_lt x y = compared (below refl)
tells op_gt x y = compared (above refl)
tells op_mul x y = computed (times refl)
tells op_div x (pos zero) = by_zero by_div
tells op_div x (pos (suc n)) = computed (divided (not_zero n) refl)
tells op_div x (negsuc n) = computed (divided (not_negative n) refl)
tells op_rem x (pos zero) = by_zero by_rem
tells op_rem x (pos (suc n)) = computed (modulo (not_zero n) refl)
tells op_rem x (negsuc n) = computed (modulo (not_negative n) refl)
tells op_add x y = computed (plus refl)
tells op_sub x y = computed (minus refl)
tells op_and x y = nothing
tells op_or x y = nothing

int_says : {o : Op} {x y : ℤ} (w : Work) → Tells o x y w → Says o (int_val x) (int_val y) (answer int_answer w)
unfolding Says answer int_answer same_val
int_says w (computed {o} {x} {y} {z} r) = go (in_int z) (in_int_exact z) (fails (in_int z) (in_int_exact z))
  where
    go : (t : Bool) → (t ≡ true) ↔ (IntRange z) → (t ≡ false) ↔ (IntRange z → ⊥)
        → Says o (int_val x) (int_val y) (elim t [ true ↦ value (int_val z) | false ↦ outside ])
    go true h k = int_result r (h.0 refl)
    go false h k = int_outside r (k.0 refl)
int_says w (by_zero d) = int_by_zero d
int_says w (compared c) = int_order c
int_says w (equated {x} {y}) = equal_says (int_val x) (int_val y) ints
int_says w (differed {x} {y}) = differ_says (int_val x) (int_val y) ints
int_says w nothing = tt

nat_says : {o : Op} {m n : ℕ} (w : Work) → Tells o (pos m) (pos n) w → Says o (nat_val m) (nat_val n) (answer nat_answer w)
unfolding Says answer nat_answer same_val same_int
nat_says {o} {m} {n} w (computed {z = pos k} r) = go (ltb k nat_end) (in_nat_exact k) (fails (ltb k nat_end) (in_nat_exact k))
  where
    go : (t : Bool) → (t ≡ true) ↔ (k < nat_end) → (t ≡ false) ↔ (k < nat_end → ⊥)
        → Says o (nat_val m) (nat_val n) (elim t [ true ↦ value (nat_val k) | false ↦ outside ])
    go true h j = nat_result r (h.0 refl)
    go false h j = nat_above r (j.0 refl)
nat_says w (computed {z = negsuc k} r) = nat_below r
nat_says w (by_zero d) = nat_by_zero d
nat_says w (compared c) = nat_order c
nat_says {o} {m} {n} w equated = equal_says (nat_val m) (nat_val n) nats
nat_says {o} {m} {n} w differed = differ_says (nat_val m) (nat_val n) nats
nat_says w nothing = tt

truths_say : (o : Op) (s t : Bool) → Says o (bool_val s) (bool_val t) (on_truths o s t)
unfolding Says on_truths same_val
truths_say op_eq s t = equal_says (bool_val s) (bool_val t) bools
truths_say op_ne s t = differ_says (bool_val s) (bool_val t) bools
truths_say op_le s t = tt
truths_say op_ge s t = tt
truths_say op_lt s t = tt
truths_say op_gt s t = tt
truths_say op_mul s t = tt
truths_say op_div s t = tt
truths_say op_rem s t = tt
truths_say op_add s t = tt
truths_say op_sub s t = tt
truths_say op_and true t = both
truths_say op_and false t = not_both
truths_say op_or true t = either
truths_say op_or false t = or_second

labels_say : (o : Op) (l m : ℕ) → Says o (label l) (label m) (on_labels o l m)
unfolding Says on_labels same_val
labels_say op_eq l m = equal_says (label l) (label m) labels
labels_say op_ne l m = differ_says (label l) (label m) labels
labels_say op_le l m = tt
labels_say op_ge l m = tt
labels_say op_lt l m = tt
labels_say op_gt l m = tt
labels_say op_mul l m = tt
labels_say op_div l m = tt
labels_say op_rem l m = tt
labels_say op_add l m = tt
labels_say op_sub l m = tt
labels_say op_and l m = tt
labels_say op_or l m = tt

says : (o : Op) (x y : Val) → Says o x y (apply o x y)
unfolding Says apply
says o (int_val x) (int_val y) = int_says (compute o x y) (tells o x y)
says o (nat_val m) (nat_val n) = nat_says (compute o (pos m) (pos n)) (tells o (pos m) (pos n))
says o (bool_val s) (bool_val t) = truths_say o s t
says o (label l) (label m) = labels_say o l m
says o (int_val x) (nat_val n) = tt
says o (int_val x) (bool_val t) = tt
says o (int_val x) (label l) = tt
says o (nat_val m) (int_val y) = tt
says o (nat_val m) (bool_val t) = tt
says o (nat_val m) (label l) = tt
says o (bool_val s) (int_val y) = tt
says o (bool_val s) (nat_val n) = tt
says o (bool_val s) (label l) = tt
says o (label l) (int_val y) = tt
says o (label l) (nat_val n) = tt
says o (label l) (bool_val t) = tt

-- what holds the function says ----------------------------------------------------

-- A divisor that is not zero has a quotient.
pub nonzero : (y z : ℤ) → (y ≡ pos 0 → ⊥) → by_nonzero y z ≡ some z
unfolding by_nonzero
nonzero (pos zero) z h = absurd (h refl)
nonzero (pos (suc n)) z h = refl
nonzero (negsuc n) z h = refl

computes_said : {o : Op} {x y z : ℤ} → Computes o x y z → compute o x y ≡ number (some z)
unfolding compute
computes_said (times e) = rw e
computes_said (divided {x} {y} h e) = rw e (ap number (nonzero y (quotient x y) h))
computes_said (modulo {x} {y} h e) = rw e (ap number (nonzero y (remainder x y) h))
computes_said (plus e) = rw e
computes_said (minus e) = rw e

compares_said : {o : Op} {x y : ℤ} {t : Bool} → Compares o x y t → compute o x y ≡ truth t
unfolding compute
compares_said (at_most e) = rw e
compares_said (at_least e) = rw e
compares_said (below e) = rw e
compares_said (above e) = rw e

by_zero_said : {o : Op} → Divides o → (x : ℤ) → compute o x (pos 0) ≡ number none
unfolding compute by_nonzero
by_zero_said by_div x = refl
by_zero_said by_rem x = refl

-- On values that are alike = and ≠ answer by the test of equality.
pub equality_said : {a b : Val} → Alike a b → (t : Bool) → same_val a b ≡ t
    → (apply op_eq a b ≡ value (bool_val t)) × (apply op_ne a b ≡ value (bool_val (not t)))
unfolding apply answer compute on_truths on_labels same_val same_int
equality_said ints t e = (rw e, rw e)
equality_said nats t e = (rw e, rw e)
equality_said bools t e = (rw e, rw e)
equality_said labels t e = (rw e, rw e)

applies_said : {o : Op} {x y z : Val} → Applies o x y z → apply o x y ≡ value z
unfolding apply answer int_answer nat_answer on_truths
applies_said (int_result {z = z} r h) = rw (computes_said r, (in_int_exact z).1 h, int_answer)
applies_said (nat_result {k = k} r h) = rw (computes_said r, lt-ltb k nat_end h, nat_answer)
applies_said (int_order c) = rw (compares_said c)
applies_said (nat_order c) = rw (compares_said c)
applies_said (equal {a} {b} l e) = (equality_said l true ((same_val_exact a b).1 e)).0
applies_said (unequal {a} {b} l e) = (equality_said l false ((same_val_false a b).1 e)).0
applies_said (differs {a} {b} l e) = (equality_said l false ((same_val_false a b).1 e)).1
applies_said (differs_not {a} {b} l e) = (equality_said l true ((same_val_exact a b).1 e)).1
applies_said both = refl
applies_said not_both = refl
applies_said either = refl
applies_said or_second = refl

exceeds_said : {o : Op} {x y : Val} → Exceeds o x y → apply o x y ≡ outside
unfolding apply answer int_answer nat_answer
exceeds_said (int_by_zero {x = x} d) = rw (by_zero_said d x)
exceeds_said (nat_by_zero {m = m} d) = rw (by_zero_said d (pos m))
exceeds_said (int_outside {z = z} r h) = rw (computes_said r, (fails (in_int z) (in_int_exact z)).1 h, int_answer)
exceeds_said (nat_below r) = rw (computes_said r)
exceeds_said (nat_above {k = k} r h) = rw (computes_said r, (fails (ltb k nat_end) (in_nat_exact k)).1 h, nat_answer)

-- the laws ------------------------------------------------------------------------

-- An operator gives a value exactly where that value is the operands' result within its type.
pub apply_value : (o : Op) (x y z : Val) → (apply o x y ≡ value z) ↔ (Applies o x y z)
unfolding Says
apply_value o x y z = (λ e. subst (Says o x y) e (says o x y), applies_said)

-- An operator answers 35 exactly where the divisor is zero or the result lies outside its type.
pub apply_outside : (o : Op) (x y : Val) → (apply o x y ≡ outside) ↔ (Exceeds o x y)
unfolding Says
apply_outside o x y = (λ e. subst (Says o x y) e (says o x y), exceeds_said)

-- Operands have at most one result.
pub applies_unique : {o : Op} {x y z w : Val} → Applies o x y z → Applies o x y w → z ≡ w
applies_unique a b = cc (applies_said a, applies_said b)

-- Operands with a result do not answer 35.
pub applies_not_exceeds : {o : Op} {x y z : Val} → Applies o x y z → Exceeds o x y → ⊥
applies_not_exceeds a b = let e : ◌≡◌ {A = ℕ} 0 1 = cc (applies_said a, exceeds_said b) in omega arith
