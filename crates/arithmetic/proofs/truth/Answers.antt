-- `truth` meets its contract: a truth's word is 1 or 0.
use Rattle.std.proofs.Common.{ap, ◌∙◌, Ok}
use Rattle.operators.specs.Words.{answered}
use Rattle.arithmetic.specs.Answered.{telling}
use Rattle.arithmetic.proofs.AnsweredLaws.{truth_word}
use Rattle.arithmetic.proofs.truth.Goals as goal

pub returns-in-Some : goal.returns-in-Some
unfolding answered telling
returns-in-Some c = rw c.in-Some.is (ap Ok (c.from.ensures ∙ truth_word c.in-Some.t))

pub returns-in-None : goal.returns-in-None
unfolding answered telling
returns-in-None c = rw c.in-None.is
