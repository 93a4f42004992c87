-- What the digits of a literal stand for (02 §1; 01, 'Program stream': the ranges of Int and Nat).
use Rattle.std.specs.Prelude.{ℕ, zero, suc, ◌+◌, ◌*◌, ◌-◌, List, [], ◌∷◌, ℤ, pos, negsuc}
use Rattle.tokens.specs.Tokens.{Polarity, Polarity.plus, Polarity.minus}
use Rattle.tokens.specs.Bytes.{zero_byte}

-- the digits behind a number, in tens
unfoldable pub decimal_from : ℕ → List ℕ → ℕ
decimal_from n [] = n
decimal_from n (d ∷ ds) = decimal_from (n * 10 + (d - zero_byte)) ds

unfoldable pub decimal : List ℕ → ℕ
decimal ds = decimal_from 0 ds

unfoldable pub signed : Polarity → ℕ → ℤ
signed plus n = pos n
signed minus zero = pos 0
signed minus (suc n) = negsuc n
