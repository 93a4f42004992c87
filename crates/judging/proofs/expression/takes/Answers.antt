-- `expression::takes` meets its contract.
use Rattle.std.proofs.Common.{eq-eqb, ne_eqb}
use Rattle.judging.specs.CodeOps.{takes_low, takes_middle, takes_high}
use Rattle.judging.proofs.expression.takes.Goals as goal

pub returns-then-t-u : goal.returns-then-t-u
returns-then-t-u c = simp (ne_eqb _ _ c.if-t-u.true)

pub returns-then-b-lt-ORDER : goal.returns-then-b-lt-ORDER
returns-then-b-lt-ORDER c = simp (eq-eqb _ _ c.if-t-u.false, takes_low _ c.args.t c.if-b-lt-ORDER.true)

pub returns-then-b-lt-AND : goal.returns-then-b-lt-AND
returns-then-b-lt-AND c = simp (eq-eqb _ _ c.if-t-u.false, takes_middle _ c.args.t c.if-b-lt-ORDER.false c.if-b-lt-AND.true)

pub returns : goal.returns
returns c = simp (eq-eqb _ _ c.if-t-u.false, takes_high _ c.args.t c.if-b-lt-AND.false)
