-- What the parts of the computation answer, as the operators' function has it.
use Rattle.std.specs.Prelude.{ℕ, zero, suc, ◌-◌, ◌<◌, ◌≤◌, ◌≡◌, get_or, eqb, refl, Bool, true, false, ℤ, pos, negsuc, Ok, Err}
use Rattle.std.proofs.Common.{arith, ap, sym, ◌∙◌, SFits, of_z}
use Rattle.std.proofs.Math.Option.{Option, none, some}
use Rattle.std.specs.Int.{w64, from_bool}
use Rattle.types.specs.Values.{Val.bool_val, word, word_int}
use Rattle.operators.specs.Operators.{quotient, remainder}
use Rattle.operators.specs.Apply.{Answer, same_int, int_answer, by_nonzero, compute, answer}
use Rattle.operators.specs.Named.{meant}
use Rattle.operators.specs.Words.{operators, first_op, op_of, answered, IntOf}
use Rattle.program.specs.Tree.{Op.op_or}
use Rattle.arithmetic.specs.Compares.{Compares}
use Rattle.operators.proofs.Laws.SignedLaws.{through, bits_same, quotient_carries, remainder_carries}
use Rattle.operators.proofs.Laws.IntLaws.{int_of_back}
use Rattle.operators.proofs.Laws.ApplyLaws.{nonzero}
use Rattle.operators.specs.declared.Operator.{Operator}
use Rattle.operators.specs.declared.Operator.TheVariants.{Eq, Ne, Le, Ge, Lt, Gt, Mul, Div, Rem, Add, Sub, And, Or}
use Rattle.operators.specs.declared.OperatorError.{OperatorError}
use Rattle.operators.specs.declared.OperatorError.TheVariants.{Outside, Unfit}
use Rattle.arithmetic.specs.Answered.{found}

-- A truth's word is 1 or 0.
pub truth_word : (t : Bool) → from_bool t ≡ word (bool_val t)
unfolding word
truth_word true = refl
truth_word false = refl

-- By zero nothing is found; by another divisor the number is.
pub found_none : (y z : ℤ) → y ≡ pos 0 → Err Outside ≡ found (by_nonzero y z)
unfolding found by_nonzero
found_none y z e = rw e

pub found_number : (y z : ℤ) {r : ℤ} → (y ≡ pos 0 → ⊥) → r ≡ z → Ok r ≡ found (by_nonzero y z)
unfolding found
found_number y z h e = rw (nonzero y z h) (ap Ok e)

-- So that what was found tells of the divisor.
pub found_ok : (y z : ℤ) {r : ℤ} → Ok r ≡ found (by_nonzero y z) → (y ≡ pos 0 → ⊥) × (r ≡ z)
unfolding found by_nonzero
found_ok (pos zero) z h = absurd cc
found_ok (pos (suc n)) z h = (λ e. let k : suc n ≡ 0 = cc in omega arith, cc)
found_ok (negsuc n) z h = (λ e. let k : ◌≡◌ {A = ℕ} 0 1 = cc in omega arith, cc)

pub found_err : (y q z : ℤ) {e : OperatorError} → Err e ≡ found (by_nonzero y q) → Err e ≡ found (by_nonzero y z)
unfolding found by_nonzero
found_err (pos zero) q z h = h
found_err (pos (suc n)) q z h = absurd cc
found_err (negsuc n) q z h = absurd cc

-- What is not found is answered by 35.
pub err_answered : (o : Option ℤ) {e : OperatorError} → Err e ≡ found o → Err e ≡ answered (int_answer o)
unfolding found answered int_answer
err_answered none {e} h = let k : e ≡ Outside = cc in ap Err k
err_answered (some z) h = absurd cc

-- Of two words, as they come back from their 64 bits: equality, quotient, remainder.
module _ {a b : ℕ} {x y : ℤ} (h : IntOf a x) (k : IntOf b y) where
  left : SFits w64 x
  left = let l = h.small in record { sfits = omega arith }

  right : SFits w64 y
  right = let l = k.small in record { sfits = omega arith }

  pub bits_words : eqb (of_z w64 x) (of_z w64 y) ≡ same_int (word_int a) (word_int b)
  bits_words = bits_same left right ∙ rw (h.is, k.is)

  divisor : (through y ≡ pos 0 → ⊥) → word_int b ≡ pos 0 → ⊥
  divisor n e = n (int_of_back k ∙ e)

  pub quotient_words : {r : ℤ} → Ok r ≡ found (by_nonzero (through y) (quotient (through x) (through y)))
      → some (through r) ≡ by_nonzero (word_int b) (quotient (word_int a) (word_int b))
  quotient_words e =
      let o = found_ok (through y) _ e in
      ap (λ z. some (through z)) o.1
      ∙ ap some ((quotient_carries left right h.small).gives ∙ rw (h.is, k.is))
      ∙ sym (nonzero (word_int b) (quotient (word_int a) (word_int b)) (divisor o.0))

  pub remainder_words : {r : ℤ} → Ok r ≡ found (by_nonzero (through y) (remainder (through x) (through y)))
      → some (through r) ≡ by_nonzero (word_int b) (remainder (word_int a) (word_int b))
  remainder_words e =
      let o = found_ok (through y) _ e in
      ap (λ z. some (through z)) o.1
      ∙ ap some ((remainder_carries left right (h.small, k.small)).gives ∙ rw (h.is, k.is))
      ∙ sym (nonzero (word_int b) (remainder (word_int a) (word_int b)) (divisor o.0))

  pub quotient_none : {e : OperatorError} → Err e ≡ found (by_nonzero (through y) (quotient (through x) (through y)))
      → Err e ≡ answered (int_answer (by_nonzero (word_int b) (quotient (word_int a) (word_int b))))
  quotient_none e = err_answered _ (rw (int_of_back h, int_of_back k) at e)

  pub remainder_none : {e : OperatorError} → Err e ≡ found (by_nonzero (through y) (remainder (through x) (through y)))
      → Err e ≡ answered (int_answer (by_nonzero (word_int b) (remainder (word_int a) (word_int b))))
  remainder_none e = err_answered _ (rw (int_of_back h, int_of_back k) at e)

-- and, or do not take numbers.
pub numbers_unfit : (f : Option ℤ → Answer) (x y : ℤ) (o : Operator) → (o ≡ Eq → ⊥) → (o ≡ Ne → ⊥) → (o ≡ Le → ⊥) → (o ≡ Ge → ⊥) → (o ≡ Lt → ⊥)
    → (o ≡ Gt → ⊥) → (o ≡ Mul → ⊥) → (o ≡ Div → ⊥) → (o ≡ Rem → ⊥) → (o ≡ Add → ⊥) → (o ≡ Sub → ⊥)
    → Err Unfit ≡ answered (answer f (compute (meant o) x y))
unfolding compute meant answer answered
numbers_unfit f x y Eq a b c d e g h i j k l = absurd (a refl)
numbers_unfit f x y Ne a b c d e g h i j k l = absurd (b refl)
numbers_unfit f x y Le a b c d e g h i j k l = absurd (c refl)
numbers_unfit f x y Ge a b c d e g h i j k l = absurd (d refl)
numbers_unfit f x y Lt a b c d e g h i j k l = absurd (e refl)
numbers_unfit f x y Gt a b c d e g h i j k l = absurd (g refl)
numbers_unfit f x y Mul a b c d e g h i j k l = absurd (h refl)
numbers_unfit f x y Div a b c d e g h i j k l = absurd (i refl)
numbers_unfit f x y Rem a b c d e g h i j k l = absurd (j refl)
numbers_unfit f x y Add a b c d e g h i j k l = absurd (k refl)
numbers_unfit f x y Sub a b c d e g h i j k l = absurd (l refl)
numbers_unfit f x y And a b c d e g h i j k l = refl
numbers_unfit f x y Or a b c d e g h i j k l = refl

-- A comparison answers alike, whatever the type of the numbers.
pub comparisons_alike : (o : ℕ) (x y : ℤ) (g : Option ℤ → Answer) → o ≤ 37 → Compares o x y (answered (answer g (compute (op_of o) x y)))
unfolding op_of compute answer
comparisons_alike o x y g h f = go (o - first_op) (omega arith)
  where
    go : (i : ℕ) → i < 6 → answered (answer g (compute (get_or operators i op_or) x y)) ≡ answered (answer f (compute (get_or operators i op_or) x y))
    go zero l = refl
    go (suc zero) l = refl
    go (suc (suc zero)) l = refl
    go (suc (suc (suc zero))) l = refl
    go (suc (suc (suc (suc zero)))) l = refl
    go (suc (suc (suc (suc (suc zero))))) l = refl
    go (suc (suc (suc (suc (suc (suc i)))))) l = absurd (omega arith)
