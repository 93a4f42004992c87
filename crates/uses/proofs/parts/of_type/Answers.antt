-- `parts::of_type` meets its contract.
use Rattle.std.proofs.Common.{sym, ap, ◌∙◌}
use Rattle.uses.specs.Seeing.{word_passed}
use Rattle.uses.proofs.parts.of_type.Goals as goal

pub returns-in_err-w : goal.returns-in_err-w
unfolding word_passed
returns-in_err-w c = c.from_residual.ensures ∙ ap (λ w. word_passed w c.args.c) (sym c.in_err-w.was)

pub returns : goal.returns
unfolding word_passed
returns c = ap (λ w. word_passed w c.args.c) (sym c.in_ok-w.was)
