-- Faults joined (01, 'Numbers from the input'): the lower number stands, and 8 only where names are right.
use Rattle.std.specs.Prelude.{ℕ, Bool, true, false, not, ◌&&◌, ◌≡◌, refl}
use Rattle.std.proofs.Common.{subst}
use Rattle.judge.specs.Facts.{worst, demand, named}
use Rattle.judge.specs.Verdicts.{Says, Says.misnamed, Says.mistyped, Says.right}

-- what two faults say, the worse of them says of both
pub says_both : {f g : ℕ} {a b c d : Bool} → Says f a b → Says g c d → Says (worst f g) (a && c) (b && d)
unfolding worst
says_both (misnamed e) (misnamed h) = misnamed (rw (e, h))
says_both (misnamed e) (mistyped h) = misnamed (rw (e, h))
says_both (misnamed e) (right h) = misnamed (rw (e, h))
says_both (mistyped e) (misnamed h) = misnamed (rw (e, h))
says_both (mistyped e) (mistyped h) = mistyped (rw (e, h))
says_both (mistyped e) (right h) = mistyped (rw (e, h))
says_both (right e) (misnamed h) = misnamed (rw (e, h))
says_both (right e) (mistyped h) = mistyped (rw (e, h))
says_both (right e) (right h) = right (rw (e, h))

-- a test of types makes 8 of no fault
pub says_demand : {f : ℕ} {a b : Bool} (t : Bool) → Says f a b → Says (demand f t) a (b && t)
unfolding demand
says_demand t (misnamed e) = misnamed (rw e)
says_demand t (mistyped e) = mistyped (rw e)
says_demand true (right e) = right (rw e)
says_demand false (right e) = mistyped (rw e)

-- a test of names makes 7
pub says_named : (t : Bool) → Says (named t) t true
unfolding named
says_named true = right refl
says_named false = misnamed refl

-- a fault says the same of equal tests
pub says_as : {f : ℕ} {a a' b b' : Bool} → a ≡ a' → b ≡ b' → Says f a b → Says f a' b'
says_as {f} {a} {a'} {b} {b'} p q s = subst (λ x. Says f x b') p (subst (λ x. Says f a x) q s)

-- the number that a fault is, by the tests
pub says_number : {f : ℕ} {a b : Bool} → Says f a b → f ≡ elim (not a) [ true ↦ 7 | false ↦ elim (not b) [ true ↦ 8 | false ↦ 0 ] ]
says_number (misnamed e) = e
says_number (mistyped e) = e
says_number (right e) = e
