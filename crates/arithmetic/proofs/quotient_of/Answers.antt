-- `quotient_of` meets its contract: by a divisor below zero both are negated.
use Rattle.std.proofs.Common.{ap}
use mir.Syntax.{w64}
use mir.Val.{of_z}
use Rattle.operators.specs.Operators.{quotient}
use Rattle.operators.proofs.Laws.FloorLaws.{turned, straight}
use Rattle.operators.proofs.Laws.SignedLaws.{zero_bits}
use Rattle.arithmetic.proofs.AnsweredLaws.{found_none, found_number}
use Rattle.arithmetic.proofs.quotient_of.Goals as goal

pub returns-then-y-eq0 : goal.returns-then-y-eq0
returns-then-y-eq0 c = found_none c.args.y _ (zero_bits c.ranges.y c.if-y-eq0.true)

pub returns-then-y-lt0 : goal.returns-then-y-lt0
returns-then-y-lt0 c =
    let s = c.args in
    found_number s.y (quotient s.x s.y) (λ e. c.if-y-eq0.false (ap (of_z w64) e))
    (turned s.x s.y c.requires.0 c.requires.1 c.if-y-lt0.true c.div_euclid.ensures)

pub returns : goal.returns
returns c =
    let s = c.args in
    found_number s.y (quotient s.x s.y) (λ e. c.if-y-eq0.false (ap (of_z w64) e))
    (straight s.x s.y c.requires.0 c.requires.1 c.if-y-lt0.false c.div_euclid-2.ensures)
