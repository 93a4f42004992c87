-- The arithmetic of Nat on words (01, 'Program stream', number 35).
use Rattle.std.specs.Prelude.{ℕ, zero, suc, ◌+◌, ◌-◌, ◌*◌, ◌/◌, ◌%◌, ◌<◌, ◌≤◌, ◌≡◌, refl, ℤ, pos, ◌-ℤ◌, Option, Some, None, Ok, Err}
use Rattle.std.proofs.Common.{arith, mul-le-mul, ap, ◌∙◌, Fits, lt-ltb, le-ltb}
use Rattle.std.specs.Int.{w64}
use Rattle.std.proofs.Math.Nat.{div-le_self, mod-le}
use Rattle.std.proofs.Math.Option.{some}
use Rattle.types.specs.Limits.{nat_end}
use Rattle.types.specs.Values.{word}
use Rattle.operators.specs.Operators.{quotient, remainder}
use Rattle.operators.specs.Apply.{nat_answer, by_nonzero}
use Rattle.operators.proofs.Laws.ApplyLaws.{nonzero}
use Rattle.operators.proofs.Laws.SignedLaws.{remainder_nat}
use Rattle.operators.specs.Words.{answered}
use Rattle.std.specs.Option.{SomeIff, ok_or}
use Rattle.operators.specs.declared.OperatorError.TheVariants.{Outside}

-- A number below 4294967296 is its word.
pub nat_in : (n : ℕ) → n < nat_end → Ok n ≡ answered (nat_answer (some (pos n)))
unfolding answered nat_answer word
nat_in n h = rw (lt-ltb n nat_end h, nat_answer)

-- From there on the answer is 35.
pub nat_out : (n : ℕ) → nat_end ≤ n → Err Outside ≡ answered (nat_answer (some (pos n)))
unfolding answered nat_answer
nat_out n h = rw (le-ltb n nat_end h, nat_answer)

-- A greater number taken away is 35.
pub nat_less : (a b : ℕ) → a < b → Err Outside ≡ answered (nat_answer (some (pos a -ℤ pos b)))
unfolding answered nat_answer
nat_less a zero h = absurd (omega arith)
nat_less a (suc b) h = rw (lt-ltb a (suc b) h)

-- Another is taken away on the words.
pub nat_more : (a b : ℕ) → b ≤ a → a < nat_end → Ok (a - b) ≡ answered (nat_answer (some (pos a -ℤ pos b)))
nat_more a zero h k = let e : a - 0 ≡ a = omega arith in let d : a + 0 ≡ a = omega arith in rw (e, d) (nat_in a k)
nat_more a (suc b) h k = rw (le-ltb a (suc b) h) (nat_in (a - suc b) (omega arith))

-- The product of two words fits 64 bits.
pub nat_product : (a b : ℕ) → a < nat_end → b < nat_end → Fits w64 (a * b)
nat_product a b h k =
    let m : a ≤ 4294967295 = omega arith in
    let n : b ≤ 4294967295 = omega arith in
    let p : a * b ≤ 4294967295 * 4294967295 = mul-le-mul m n in
    record { fits = omega arith }

module _ (a b : ℕ) (h : b ≡ 0 → ⊥) (k : a < nat_end) where
  not_zero : pos b ≡ pos 0 → ⊥
  not_zero e = let z : b ≡ 0 = cc in h z

  -- The quotient by a divisor that is not zero.
  pub nat_quotient : Ok (a / b) ≡ answered (nat_answer (by_nonzero (pos b) (quotient (pos a) (pos b))))
  unfolding quotient
  nat_quotient = rw (nonzero (pos b) (quotient (pos a) (pos b)) not_zero) (nat_in (a / b) (omega (arith, div-le_self a b)))

  -- The remainder by one.
  pub nat_remainder : Ok (a % b) ≡ answered (nat_answer (by_nonzero (pos b) (remainder (pos a) (pos b))))
  nat_remainder =
      rw (nonzero (pos b) (remainder (pos a) (pos b)) not_zero, remainder_nat a b)
      (nat_in (a % b) (omega (arith, mod-le a b)))

-- What the machine's tested operations answer ---------------------------------------

-- A number, where it is below 4294967296.
pub nat_found : (r : Option ℕ) (n : ℕ) → SomeIff r (n < nat_end) n → ok_or r Outside ≡ answered (nat_answer (some (pos n)))
nat_found None n h = nat_out n (omega arith)
nat_found (Some m) n (h, e) = ap Ok e ∙ nat_in n h

-- A difference, where none is taken away that is greater.
pub nat_left : (r : Option ℕ) (a b : ℕ) → a < nat_end → SomeIff r (b ≤ a) (a - b) → ok_or r Outside ≡ answered (nat_answer (some (pos a -ℤ pos b)))
nat_left None a b k h = nat_less a b (omega arith)
nat_left (Some m) a b k (h, e) = ap Ok e ∙ nat_more a b h k

-- A quotient and a remainder, where the divisor is not zero.
by_none : (b : ℕ) (z : ℤ) → (0 < b → ⊥) → Err Outside ≡ answered (nat_answer (by_nonzero (pos b) z))
unfolding by_nonzero nat_answer answered
by_none zero z h = refl
by_none (suc b) z h = absurd (h (omega arith))

pub nat_divided : (r : Option ℕ) (a b : ℕ) → a < nat_end → SomeIff r (0 < b) (a / b)
    → ok_or r Outside ≡ answered (nat_answer (by_nonzero (pos b) (quotient (pos a) (pos b))))
nat_divided None a b k h = by_none b (quotient (pos a) (pos b)) h
nat_divided (Some m) a b k (h, e) = ap Ok e ∙ nat_quotient a b (λ z. omega arith) k

pub nat_leaving : (r : Option ℕ) (a b : ℕ) → a < nat_end → SomeIff r (0 < b) (a % b)
    → ok_or r Outside ≡ answered (nat_answer (by_nonzero (pos b) (remainder (pos a) (pos b))))
nat_leaving None a b k h = by_none b (remainder (pos a) (pos b)) h
nat_leaving (Some m) a b k (h, e) = ap Ok e ∙ nat_remainder a b (λ z. omega arith) k
