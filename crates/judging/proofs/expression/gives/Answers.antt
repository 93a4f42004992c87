-- `expression::gives` meets its contract.
use Rattle.std.proofs.Common.{sym}
use Rattle.judging.specs.CodeOps.{gives_low, gives_middle, gives_high}
use Rattle.judging.proofs.expression.gives.Goals as goal
use Rattle.judging.proofs.expression.gives.Goals.{else-b-ge-MUL-via-then-b-ge-MUL+else-b-lt-AND, else-b-ge-MUL-via-else-b-ge-MUL}

pub returns-then-b-lt-AND : goal.returns-then-b-lt-AND
returns-then-b-lt-AND c = sym (gives_middle _ c.args.t c.if-b-ge-MUL.true c.if-b-lt-AND.true)

pub returns : goal.returns
returns c =
    elim c.else-b-ge-MUL.branch [
      | else-b-ge-MUL-via-then-b-ge-MUL+else-b-lt-AND w ↦ sym (gives_high _ c.args.t w.if-b-lt-AND.false)
      | else-b-ge-MUL-via-else-b-ge-MUL w ↦ sym (gives_low _ c.args.t w.if-b-ge-MUL.false)
    ]
