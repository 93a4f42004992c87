-- `branch` meets its contract, one return for each truth.
use Rattle.std.proofs.Common.{sym, ◌∙◌}
use Rattle.execute_stack.specs.StackWays.{false_way, true_way}
use Rattle.execute_stack.proofs.branch.Goals as goal

pub returns-then-operand-eq0 : goal.returns-then-operand-eq0
returns-then-operand-eq0 c = false_way c.requires.acting c.args.n (sym c.operand.ensures.0 ∙ c.if-operand-eq0.true) c.go.ensures

pub returns : goal.returns
returns c =
    true_way c.requires.acting c.args.n (λ e. c.if-operand-eq0.false (c.operand.ensures.0 ∙ e)) c.go-2.ensures
