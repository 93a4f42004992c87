-- `literals::digit_value` meets its contract.
use Rattle.std.proofs.Common.{arith}
use Rattle.resolve.specs.Laws.DigitLaws.{digit_range}
use Rattle.resolve.proofs.literals.digit_value.Goals as goal

pub overflow_sub-b : goal.overflow_sub-b
overflow_sub-b c = omega (arith, digit_range c.args.b c.requires)

pub returns : goal.returns
returns c = let h = digit_range c.args.b c.requires in (c.from.ensures, omega (arith, h, c.from.ensures))
