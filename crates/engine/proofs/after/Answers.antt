-- `after` meets its contract, one return for each answer. A truth's number is 0 or 1, so the product is no larger than the entries.
use Rattle.std.proofs.Common.{rules, arith, add-one, ℕ, ◌*◌, Bool, true, false, ◌≡◌, refl}
use mir.Syntax.{w64}
use mir.Val.{Fits, bool_byte}
use Rattle.layout.specs.State.{bit}
use Rattle.execute_stack.specs.Answers.{answering}
use Rattle.engine.proofs.after.Goals as goal

fits_times : (n : ℕ) (t : Bool) → Fits w64 n → Fits w64 (n * bool_byte t)
fits_times n true f = let h = f.fits in record { fits = omega arith }
fits_times n false f = let h = f.fits in record { fits = omega arith }

byte_bit : (t : Bool) → bool_byte t ≡ bit t
byte_bit true = refl
byte_bit false = refl

pub overflow_mul-product : goal.overflow_mul-product
overflow_mul-product c = rw c.from.ensures (fits_times c.args.numbers.stable c.in-Ok-Wrote.same (search rules))

pub returns-in-Ok-Kept : goal.returns-in-Ok-Kept
unfolding answering
returns-in-Ok-Kept c = λ h x. let e = rw c.in-Ok-Kept.is at c.in-Ok-Kept.field-0-is in rw (c.in-Ok-Kept.is, e)

pub returns-in-Ok-Wrote : goal.returns-in-Ok-Wrote
unfolding answering
returns-in-Ok-Wrote c = λ h x. let e = rw c.in-Ok-Wrote.is at c.in-Ok-Wrote.field-0-is in rw (c.in-Ok-Wrote.is, e, c.from.ensures, byte_bit c.in-Ok-Wrote.same)

pub returns-in-Ok-Made : goal.returns-in-Ok-Made
unfolding answering
returns-in-Ok-Made c = λ h x. let e = rw c.in-Ok-Made.is at c.in-Ok-Made.field-0-is in rw (c.in-Ok-Made.is, e, add-one c.args.numbers.count)

pub returns-in-Err : goal.returns-in-Err
unfolding answering
returns-in-Err c = λ h x. rw (c.in-Err.is, c.from-in-Err.ensures)
