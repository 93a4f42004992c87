-- `declarations::rows_ok` meets its contract.
use Rattle.std.proofs.Common.{rules}
use Rattle.resolve.specs.Checks.{rows_ok, row_ok}
use Rattle.resolve.proofs.declarations.rows_ok.Goals as goal

pub returns : goal.returns
unfolding rows_ok
returns c = c.between_all.ensures (row_ok c.args.text.now c.args.pars.now) (λ a b r p q e. search rules)
