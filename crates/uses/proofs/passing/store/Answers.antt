-- `passing::store` meets its contract.
use Rattle.std.proofs.Common.{arith, length-set}
use Rattle.uses.proofs.passing.store.Goals as goal

pub bounds-locals-n : goal.bounds-locals-n
bounds-locals-n c = simp length-set (omega arith)

pub bounds-locals-n-2 : goal.bounds-locals-n-2
bounds-locals-n-2 c = simp length-set (omega arith)

pub bounds-locals-n-3 : goal.bounds-locals-n-3
bounds-locals-n-3 c = simp length-set (omega arith)
