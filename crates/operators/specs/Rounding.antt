-- Rounding toward minus infinity (02, 'Retarders below zero': "Int division now rounds toward minus infinity and the remainder takes the
-- divisor's sign"), said of a quotient and a remainder without computing them.
use Rattle.std.specs.Prelude.{◌<◌, ◌≡◌, ◌⊎◌, ℤ, pos, negsuc, nat_abs, ◌+ℤ◌, ◌*ℤ◌, ◌≤ℤ◌}
use Rattle.std.specs.Int.Signed.{non_neg}

-- n is at most a / b, said without dividing: a divisor below zero turns the order round
unfoldable pub AtMost : ℤ → ℤ → ℤ → Type 0
AtMost n a (pos b) = (n *ℤ pos b) ≤ℤ a
AtMost n a (negsuc b) = a ≤ℤ (n *ℤ negsuc b)

-- q is a / b rounded toward minus infinity: of the whole numbers that are at most a / b the greatest
pub record TowardMinusInfinity (a b q : ℤ) : Type 0 where
  pub at_most : AtMost q a b
  pub greatest : (n : ℤ) → AtMost n a b → n ≤ℤ q

-- r is what q leaves with the divisor's sign: a is b × q and r, and r is 0 or has the sign of b, and is smaller than b in amount
pub record DivisorSigned (a b q r : ℤ) : Type 0 where
  pub whole : b *ℤ q +ℤ r ≡ a
  pub sign : (r ≡ pos 0) ⊎ (non_neg r ≡ non_neg b)
  pub smaller : nat_abs r < nat_abs b
