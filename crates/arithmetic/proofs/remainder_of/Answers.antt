-- `remainder_of` meets its contract: it is the definition, and all of it fits 64 bits.
use Rattle.std.proofs.Common.{sym, ◌∙◌}
use mir.Syntax.{w64}
use mir.ValLaws.{to_z-of_z}
use Rattle.std.proofs.lemmas.Result.{err_from_is_err_and}
use Rattle.operators.specs.Operators.{remainder}
use Rattle.operators.proofs.Laws.FloorLaws.{leaves}
use Rattle.arithmetic.proofs.AnsweredLaws.{found_ok, found_err, found_number}
use Rattle.arithmetic.proofs.remainder_of.Goals as goal

pub returns-in_err-quotient_of : goal.returns-in_err-quotient_of
returns-in_err-quotient_of c =
    let s = c.args in
    let none = rw (to_z-of_z w64 s.y c.ranges.y) at (sym c.in_err-quotient_of.was ∙ c.quotient_of.ensures) in
    let p = err_from_is_err_and c.from_residual.result c.from_residual.ensures.1 in
    rw (p.1, p.2) (found_err s.y _ (remainder s.x s.y) none)

pub overflow_mul-result : goal.overflow_mul-result
overflow_mul-result c =
    let q = found_ok _ _ (sym c.in_ok-quotient_of.was ∙ c.quotient_of.ensures) in
    (leaves c.args.x c.args.y c.in_ok-quotient_of.field-0 c.requires.0 c.requires.1 q.1).product

pub overflow_sub-result : goal.overflow_sub-result
overflow_sub-result c =
    let q = found_ok _ _ (sym c.in_ok-quotient_of.was ∙ c.quotient_of.ensures) in
    (leaves c.args.x c.args.y c.in_ok-quotient_of.field-0 c.requires.0 c.requires.1 q.1).fits

pub returns : goal.returns
returns c =
    let s = c.args in
    let q = found_ok _ _ (sym c.in_ok-quotient_of.was ∙ c.quotient_of.ensures) in
    found_number s.y (remainder s.x s.y) (λ e. q.0 (to_z-of_z w64 s.y c.ranges.y ∙ e))
    (leaves s.x s.y c.in_ok-quotient_of.field-0 c.requires.0 c.requires.1 q.1).said
