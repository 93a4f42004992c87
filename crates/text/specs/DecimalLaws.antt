-- A number of 64 bits is listed in decimal, and an Int with its sign (01, 'Bench rows').
use Rattle.std.specs.Prelude.{ℕ, zero, suc, ◌+◌, ◌*◌, ◌-◌, ◌/◌, ◌%◌, ◌^◌, ◌<◌, ◌≤◌, ◌≡◌, refl, Bool, true, false, List, [], ◌∷◌, ◌++◌, ltb, ℤ, pos, negsuc, length, get_or}
use Rattle.std.proofs.Common.{arith, ap, ◌∙◌, ltb-true, ltb-false, ne_eqb, lt-ltb, le-ltb}
use Rattle.std.proofs.Math.Nat.{pow-succ'}
use Rattle.types.specs.Limits.{int_half, nat_end}
use Rattle.types.specs.Values.{IntRange, int_word}
use Rattle.program.specs.Counts.{All}
use Rattle.text.specs.Listing.{digits, decimal, int_text}
use Rattle.text.specs.Decimals.{number_from, number, IsDigit, InDecimal, minus, integer}
use Rattle.text.specs.ListingLaws.{digits_one}

-- a digit behind others
number_last : (v : ℕ) (bs : List ℕ) (d : ℕ) → number_from v (bs ++ (48 + d) ∷ []) ≡ 10 * number_from v bs + d
unfolding number_from
number_last v [] d = omega arith
number_last v (b ∷ bs) d = number_last (10 * v + (b - 48)) bs d

all_last : (bs : List ℕ) (b : ℕ) → All IsDigit bs → IsDigit b → All IsDigit (bs ++ b ∷ [])
all_last [] b h g = (g, tt)
all_last (x ∷ bs) b h g = (h.0, all_last bs b h.1 g)

-- the first of several is that of those before the last
front_last : (bs : List ℕ) (b : ℕ) → 49 ≤ get_or bs 0 0 → 49 ≤ get_or (bs ++ b ∷ []) 0 0
front_last [] b h = absurd (omega arith)
front_last (x ∷ bs) b h = h

-- w digits are enough for a number below 10 to the w; and where the number is not 0, the first of them is not
pub record Written (n : ℕ) (bs : List ℕ) : Type 0 where
  pub digits : All IsDigit bs
  pub value : number bs ≡ n
  pub front : 1 ≤ n → 49 ≤ get_or bs 0 0

digits_written : (w n : ℕ) → n < 10 ^ w → Written n (digits w n)
unfolding digits number_from
digits_written zero n h = record { digits = tt; value = omega arith; front = λ g. omega arith }
digits_written (suc w) n h = go (ltb n 10) refl (digits_written w (n / 10))
  where
    go : (t : Bool) → ltb n 10 ≡ t → (n / 10 < 10 ^ w → Written (n / 10) (digits w (n / 10))) → Written n (digits (suc w) n)
    go true e f =
        let l = ltb-true n 10 e in
        rw (digits_one (suc w) n (λ z. omega arith) l) (record { digits = ((omega arith, omega arith), tt); value = omega arith; front = λ g. omega arith })
    go false e f =
        let l = ltb-false n 10 e in
        let p : 10 ^ suc w ≡ 10 * 10 ^ w = pow-succ' 10 w in
        let r = f (omega arith) in
        rw (digits, e) (record {
          digits = all_last (digits w (n / 10)) (48 + n % 10) r.digits (omega arith, omega arith);
          value = number_last 0 (digits w (n / 10)) (n % 10) ∙ rw r.value (omega arith);
          front = λ g. front_last (digits w (n / 10)) (48 + n % 10) (r.front (omega arith));
        })

-- a number of 64 bits is listed as it is
pub decimal_right : (n : ℕ) → n < 2 ^ 64 → InDecimal n (decimal n)
unfolding decimal digits
decimal_right n h = go n h (digits_written 20 n (omega arith))
  where
    some : (bs : List ℕ) → 49 ≤ get_or bs 0 0 → 1 ≤ length bs
    some [] g = absurd (omega arith)
    some (b ∷ bs) g = omega arith

    go : (n : ℕ) → n < 2 ^ 64 → Written n (digits 20 n) → InDecimal n (digits 20 n)
    go zero h r = record { digits = r.digits; value = r.value; some = omega arith; front = λ g. refl }
    go (suc n) h r =
        let f = r.front (omega arith) in
        record { digits = r.digits; value = r.value; some = some (digits 20 (suc n)) f; front = λ g. absurd (omega arith) }

-- digits have no sign
digits_integer : (bs : List ℕ) → All IsDigit bs → integer bs ≡ pos (number bs)
unfolding integer number_from
digits_integer [] h = refl
digits_integer (b ∷ bs) h = rw (integer, ne_eqb b 45 (λ e. omega (arith, h.0)))

-- an Int is listed with its sign
pub int_right : (z : ℤ) → IntRange z → integer (int_text (int_word z)) ≡ z
unfolding int_text int_word integer minus
int_right (pos n) h =
    let r = decimal_right n (omega arith) in
    rw (int_text, lt-ltb n int_half h) (digits_integer (decimal n) r.digits ∙ ap pos r.value)
int_right (negsuc n) h =
    let r = decimal_right (suc n) (omega arith) in
    let e : nat_end - (nat_end - suc n) ≡ suc n = omega arith in
    rw (int_text, le-ltb (nat_end - suc n) int_half (omega arith), e) (ap minus r.value)
