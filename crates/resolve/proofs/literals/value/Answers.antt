-- `literals::value` meets its contract. The loop's invariant: the digits come to n and those from i on.
use Rattle.std.proofs.Common.{refl, sym, ◌∙◌, arith}
use Rattle.meaning.specs.Values.{decimal}
use Rattle.resolve.specs.Laws.DigitLaws.{adds_on, adds_end, adds_out}
use Rattle.resolve.proofs.literals.value.Goals as goal

pub loop-i-init : goal.loop-i-init
unfolding decimal
loop-i-init c = record { small = omega arith; same_value = refl }

pub longer-n-requires : goal.longer-n-requires
longer-n-requires c = (c.loop-i.invariant.small, sym c.is_digit.ensures ∙ c.if-not-is_digit.false)

pub returns-then-not-is_digit : goal.returns-then-not-is_digit
returns-then-not-is_digit c = adds_end c.loop-i.invariant (sym c.is_digit.ensures ∙ c.if-not-is_digit.true)

pub loop-i-preserved : goal.loop-i-preserved
loop-i-preserved c = adds_on c.loop-i.invariant (sym c.is_digit.ensures ∙ c.if-not-is_digit.false) c.longer-n.ensures

pub returns : goal.returns
returns c = adds_out c.loop-i.invariant c.loop-i-test.false
