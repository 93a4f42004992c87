-- `declarations::row_ok` meets its contract: one law for each way.
use Rattle.std.proofs.Common.{arith}
use Rattle.std.proofs.lemmas.Grind.{common_steps}
use Rattle.resolve.specs.Laws.CheckLaws.{row_turned, row_out, row_long, row_short}
use Rattle.resolve.proofs.declarations.row_ok.Goals as goal

pub returns-then-b-a-le-MAX_PARAMS : goal.returns-then-b-a-le-MAX_PARAMS
returns-then-b-a-le-MAX_PARAMS c = grind (arith, common_steps, row_short)

pub returns-else-b-a-le-MAX_PARAMS : goal.returns-else-b-a-le-MAX_PARAMS
returns-else-b-a-le-MAX_PARAMS c = grind (arith, common_steps, row_turned, row_out, row_long)
