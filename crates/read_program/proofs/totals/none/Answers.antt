-- `totals::none` meets its contract.
use Rattle.std.proofs.Common.{refl}
use Rattle.judge.specs.ProgramFacts.{no_totals}
use Rattle.read_program.proofs.totals.none.Goals as goal

pub returns : goal.returns
unfolding no_totals
returns c = refl
