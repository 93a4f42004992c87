-- What a reader answers for what is read (01, 'Program stream': reading goes on only where the answer was a value): the next place with
-- what is computed of the value, or the number of the refusal.
use Rattle.std.specs.Prelude.{ℕ, Result as Answered, Ok, Err}
use Rattle.program.specs.Reader.{Result, Result.ok, Result.bad}

abbrev pub Answer : Type 0 → Type 0
Answer F = Answered (ℕ × F) ℕ

-- by what is computed of a value
abbrev pub answer : {A F : Type 0} → (A → F) → Result A → Answer F
answer f (ok a m) = Ok (m, f a)
answer f (bad p n) = Err n

-- what is made of a value, and a refusal as it is
abbrev pub after : {F G E : Type 0} → (F → G) → Answered (ℕ × F) E → Answered (ℕ × G) E
after h (Ok (m, f)) = Ok (m, h f)
after h (Err n) = Err n
