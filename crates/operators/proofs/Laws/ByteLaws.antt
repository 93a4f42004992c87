-- The operators by tests of their bytes (01, 'Program stream'): which bytes are left after some tests, and what these do not take.
use Rattle.std.specs.Prelude.{ℕ, zero, suc, ◌-◌, ◌<◌, ◌≡◌, refl, Bool, true, false, ltb, eqb, get_or, ℤ, Err}
use Rattle.std.proofs.Common.{arith, ltb-true, ltb-false, eqb-true}
use Rattle.std.proofs.Math.Option.{Option}
use Rattle.std.proofs.lemmas.Bool.{eqb-false}
use Rattle.program.specs.Tree.{Op, Op.op_le, Op.op_ge, Op.op_lt, Op.op_gt, Op.op_mul, Op.op_div, Op.op_rem, Op.op_add, Op.op_sub}
use Rattle.program.specs.Tree.{Op.op_and, Op.op_or}
use Rattle.operators.specs.Apply.{Answer, compute, answer, on_truths, on_labels}
use Rattle.operators.specs.Words.{operators, op_of, answered}
use Rattle.operators.proofs.Laws.WordLaws.{op_last}
use Rattle.operators.specs.declared.OperatorError.TheVariants.{Unfit}

step : (k : ℕ) {o : ℕ} → k < o → (o ≡ suc k → ⊥) → suc k < o
step k h n = omega arith

-- Above 32 and none of the next ten, a byte is above 42.
pub past_numbers : {o : ℕ} → 32 < o → (o ≡ 33 → ⊥) → (o ≡ 34 → ⊥) → (o ≡ 35 → ⊥) → (o ≡ 36 → ⊥) → (o ≡ 37 → ⊥)
    → (o ≡ 38 → ⊥) → (o ≡ 39 → ⊥) → (o ≡ 40 → ⊥) → (o ≡ 41 → ⊥) → (o ≡ 42 → ⊥) → 42 < o
past_numbers h a b c d e f g i j k =
    step 41 (step 40 (step 39 (step 38 (step 37 (step 36 (step 35 (step 34 (step 33 (step 32 h a) b) c) d) e) f) g) i) j) k

logic : (P : Op → Type 0) {o : ℕ} → 42 < o → P op_and → P op_or → P (op_of o)
unfolding op_of
logic P {o} h p q = go (eqb o 43) refl
  where
    go : (t : Bool) → eqb o 43 ≡ t → P (op_of o)
    go true e = rw (eqb-true o 43 e) p
    go false e = let n = eqb-false o 43 e in rw (op_last {o = o} (omega arith)) q

middle : (P : Op → Type 0) {o : ℕ} → 33 < o → o < 43
    → P op_le → P op_ge → P op_lt → P op_gt → P op_mul → P op_div → P op_rem → P op_add → P op_sub → P (op_of o)
unfolding op_of
middle P {o} h k p₀ p₁ p₂ p₃ p₄ p₅ p₆ p₇ p₈ =
    let e : o - 32 ≡ suc (suc (o - 34)) = omega arith in
    rw e (go (o - 34) (omega arith))
  where
    go : (i : ℕ) → i < 9 → P (get_or operators (suc (suc i)) op_or)
    go zero l = p₀
    go (suc zero) l = p₁
    go (suc (suc zero)) l = p₂
    go (suc (suc (suc zero))) l = p₃
    go (suc (suc (suc (suc zero)))) l = p₄
    go (suc (suc (suc (suc (suc zero))))) l = p₅
    go (suc (suc (suc (suc (suc (suc zero)))))) l = p₆
    go (suc (suc (suc (suc (suc (suc (suc zero))))))) l = p₇
    go (suc (suc (suc (suc (suc (suc (suc (suc zero)))))))) l = p₈
    go (suc (suc (suc (suc (suc (suc (suc (suc (suc i))))))))) l = absurd (omega arith)

-- and, or do not take numbers.
pub numbers_unfit : (f : Option ℤ → Answer) (x y : ℤ) {o : ℕ} → 42 < o → Err Unfit ≡ answered (answer f (compute (op_of o) x y))
unfolding answered answer compute
numbers_unfit f x y h = logic (λ w. Err Unfit ≡ answered (answer f (compute w x y))) h refl refl

-- Order and arithmetic do not take truths.
pub truths_unfit : (s t : Bool) {o : ℕ} → 33 < o → o < 43 → Err Unfit ≡ answered (on_truths (op_of o) s t)
unfolding answered on_truths
truths_unfit s t h k =
    middle (λ w. Err Unfit ≡ answered (on_truths w s t)) h k refl refl refl refl refl refl refl refl refl

-- Only = and ≠ take labels.
pub labels_unfit : (l m : ℕ) {o : ℕ} → 33 < o → Err Unfit ≡ answered (on_labels (op_of o) l m)
unfolding answered on_labels
labels_unfit l m {o} h = go (ltb o 43) refl
  where
    go : (t : Bool) → ltb o 43 ≡ t → Err Unfit ≡ answered (on_labels (op_of o) l m)
    go true e =
        middle (λ w. Err Unfit ≡ answered (on_labels w l m)) h (ltb-true o 43 e) refl refl refl refl refl refl refl refl refl
    go false e = logic (λ w. Err Unfit ≡ answered (on_labels w l m)) (ltb-false o 43 e) refl refl
