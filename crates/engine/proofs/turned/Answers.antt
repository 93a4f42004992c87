-- `turned` meets its contract, by whether the command was refused.
use Rattle.std.proofs.Common.{add-one}
use Rattle.engine.specs.StateLaws.{stays_turned, goes_turned}
use Rattle.engine.proofs.turned.Goals as goal

pub returns-then-numbers-ne0 : goal.returns-then-numbers-ne0
returns-then-numbers-ne0 c = let a = c.args in stays_turned a.numbers a.l c.if-numbers-ne0.true

pub returns : goal.returns
returns c = let a = c.args in goes_turned a.numbers a.l c.if-numbers-ne0.false (add-one a.l)
