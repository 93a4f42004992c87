-- `passing::left` meets its contract.
use Rattle.std.proofs.Common.{sym, ap, ◌∙◌}
use Rattle.uses.specs.Seeing.{retyped, seen_passed}
use Rattle.uses.proofs.passing.left.Goals as goal

pub returns-in_err-n : goal.returns-in_err-n
unfolding seen_passed
returns-in_err-n c = c.from_residual.ensures ∙ ap (seen_passed c.args.c) (sym c.in_err-n.was)

pub returns : goal.returns
unfolding seen_passed retyped
returns c = ap (seen_passed c.args.c) (sym c.in_ok-n.was)
