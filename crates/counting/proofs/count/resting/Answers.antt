-- `count::resting` meets its contract, by the word of the cell.
use Rattle.std.proofs.Common.{sym, ◌∙◌}
use Rattle.counting.specs.Laws.StoodLaws.{rest_true, rest_false}
use Rattle.counting.proofs.count.resting.Goals as goal

pub returns-then-operand-eq1 : goal.returns-then-operand-eq1
returns-then-operand-eq1 c = sym (rest_true _ (sym c.operand.ensures.0 ∙ c.if-operand-eq1.true))

pub returns : goal.returns
returns c = sym (rest_false _ (λ e. c.if-operand-eq1.false (c.operand.ensures.0 ∙ e)))
