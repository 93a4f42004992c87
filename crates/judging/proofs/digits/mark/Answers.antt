-- `digits::mark` meets its contract.
use Rattle.std.proofs.Common.{arith, ◌≡◌, sym, ◌∙◌, eq-eqb, ne_eqb}
use Rattle.judge.specs.Facts.{digit, mark}
use Rattle.judging.specs.CodeDigits.{mark_fits}
use Rattle.judging.proofs.digits.mark.Goals as goal

pub overflow_mul-result : goal.overflow_mul-result
overflow_mul-result c =
    let a = c.args in
    rw c.power.ensures.0 (omega (
      arith,
      mark_fits a.w a.x a.v c.requires c.ranges.w.fits
          c.ranges.v.fits (sym c.digit.ensures ∙ c.if-digit-eq0.true),
    ))

pub overflow_add-result : goal.overflow_add-result
overflow_add-result c =
    let a = c.args in
    rw c.power.ensures.0 (omega (
      arith,
      mark_fits a.w a.x a.v c.requires c.ranges.w.fits
          c.ranges.v.fits (sym c.digit.ensures ∙ c.if-digit-eq0.true),
    ))

pub returns-then-digit-eq0 : goal.returns-then-digit-eq0
unfolding mark
returns-then-digit-eq0 c = simp (mark, c.power.ensures.0, eq-eqb _ _ (sym c.digit.ensures ∙ c.if-digit-eq0.true))

pub returns : goal.returns
unfolding mark
returns c =
    let a = c.args in
    let h : digit a.w a.x ≡ 0 → ⊥ = λ e. c.if-digit-eq0.false (c.digit.ensures ∙ e) in
    simp (mark, ne_eqb _ _ h)
