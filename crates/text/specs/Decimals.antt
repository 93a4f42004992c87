-- What a text of digits says (01, 'Bench rows': value in decimal, a minus sign before a negative Int).
use Rattle.std.specs.Prelude.{ℕ, zero, suc, ◌+◌, ◌*◌, ◌-◌, ◌≤◌, ◌≡◌, true, false, List, [], ◌∷◌, eqb, ℤ, pos, negsuc, length, get_or}
use Rattle.program.specs.Counts.{All}

-- the number that digits stand for, behind a number v: the most significant first
unfoldable pub number_from : ℕ → List ℕ → ℕ
number_from v [] = v
number_from v (b ∷ bs) = number_from (10 * v + (b - 48)) bs

abbrev pub number : List ℕ → ℕ
number bs = number_from 0 bs

-- a digit from 0 to 9
abbrev pub IsDigit : ℕ → Type 0
IsDigit b = (48 ≤ b) × (b ≤ 57)

-- the digits of n, with a zero in front only of 0 itself
pub record InDecimal (n : ℕ) (bs : List ℕ) : Type 0 where
  pub digits : All IsDigit bs
  pub value : number bs ≡ n
  pub some : 1 ≤ length bs
  pub front : get_or bs 0 0 ≡ 48 → bs ≡ 48 ∷ []

-- with a minus sign, or without
unfoldable pub minus : ℕ → ℤ
minus zero = pos zero
minus (suc n) = negsuc n

unfoldable pub integer : List ℕ → ℤ
integer [] = pos 0
integer (b ∷ bs) = elim (eqb b 45) [ true ↦ minus (number bs) | false ↦ pos (number (b ∷ bs)) ]
