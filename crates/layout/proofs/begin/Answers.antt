-- `begin` meets its contract: three stores.
use Rattle.std.proofs.Common.{arith, length-set}
use Rattle.layout.proofs.begin.Goals as goal

pub bounds-heads-at-2 : goal.bounds-heads-at-2
bounds-heads-at-2 c = simp length-set (omega arith)
