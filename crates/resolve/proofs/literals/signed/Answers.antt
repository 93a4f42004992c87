-- `literals::signed` meets its contract: above zero, at zero, below it.
use Rattle.std.proofs.Common.{rules, arith}
use Rattle.resolve.specs.Laws.DigitLaws.{above_inside, above_outside, below_zero, below_inside, below_outside}
use Rattle.resolve.proofs.literals.signed.Goals as goal

pub returns-in-true-0-to-2147483647 : goal.returns-in-true-0-to-2147483647
returns-in-true-0-to-2147483647 c = above_inside (search rules) (omega arith)

pub returns-in-false-eq0 : goal.returns-in-false-eq0
returns-in-false-eq0 c = below_zero (search rules) (search rules)

pub returns-in-false-1-to-2147483648 : goal.returns-in-false-1-to-2147483648
returns-in-false-1-to-2147483648 c = let i = c.in-false-1-to-2147483648 in below_inside i.is-0 i.is-1.1 (omega arith)

pub returns-in_default : goal.returns-in_default
returns-in_default c = above_outside (search rules) (omega arith)

pub returns-in_default-2 : goal.returns-in_default-2
returns-in_default-2 c = below_outside (search rules) (omega arith)
